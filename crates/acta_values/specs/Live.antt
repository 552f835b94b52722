-- The operations that count for the value of an object.
use Rattle.std.specs.Prelude.{ℕ, ◌&&◌, ◌==◌, List, filter_map, if◌then◌else◌, Option, Some, None}
use Rattle.acta_table.specs.declared.event.Op.{Op}
use Rattle.acta_table.specs.declared.model.Kind.{Kind}
use Rattle.acta_objects.specs.Objects.{suits}
use Rattle.acta_sets.specs.declared.held_op.HeldOp.{HeldOp}
use Rattle.acta_sets.specs.Operations.{is_live}

-- the operation, if it is on this object, of its kind, and not aborted
abbrev pub live_on : Kind → ℕ → HeldOp → Option Op
live_on kind object i = if (i.ob.0 == object) && is_live i && suits kind i.op then Some i.op else None

-- the operations on an object of this kind that count for its value
abbrev pub live_ops : Kind → List HeldOp → ℕ → List Op
live_ops kind items object = filter_map (live_on kind object) items
