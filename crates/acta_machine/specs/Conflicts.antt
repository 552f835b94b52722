-- The operations that conflict with another, their holders, and the edges formed on these.
use Rattle.std.specs.Prelude.{ℕ, Bool, ◌&&◌, ◌==◌, List, [], map, filter}
use Rattle.std.specs.Option.{option_map_or}
use Rattle.acta_table.specs.declared.dep.Edge.{Edge}
use Rattle.acta_table.specs.declared.event.TxnId.{TxnId}
use Rattle.acta_table.specs.declared.event.ObjId.{ObjId}
use Rattle.acta_table.specs.declared.event.Op.{Op}
use Rattle.acta_table.specs.declared.model.Parts.{Parts}
use Rattle.acta_table.specs.Numbered.{ascending}
use Rattle.acta_table.specs.Policies.{edges_upon}
use Rattle.acta_objects.specs.Conflicts.{conflict_on}
use Rattle.acta_sets.specs.declared.held_op.HeldOp.{HeldOp}
use Rattle.acta_sets.specs.Operations.{is_of_others}
use Rattle.acta_machine.specs.Summary.{Summary}
use Rattle.acta_machine.specs.Families.{class_of, exempt}

-- whether the operation is in t's conflict set, on the same object, and conflicts
abbrev pub stands_against : {A : Type 0} → Parts A → Summary → ℕ → ObjId → Op → HeldOp → Bool
stands_against m s t ob op i =
    is_of_others t (exempt m s t) s.permits i && (i.ob.0 == ob.0) && conflict_on m ob.0 i.op op

-- the holders of the operations that conflict with this one, ascending, each once
abbrev pub conflicting_holders : {A : Type 0} → Parts A → Summary → ℕ → ObjId → Op → List ℕ
conflicting_holders m s t ob op =
    ascending (map (λ i. i.holder.0) (filter (stands_against m s t ob op) s.operations))

-- the edges of t on each conflicting holder, by the policy of t's class
abbrev pub conflict_edges : {A : Type 0} → Parts A → Summary → TxnId → ObjId → Op → List Edge
conflict_edges m s t ob op =
    option_map_or (λ k. edges_upon k.policy t (conflicting_holders m s t.0 ob op)) (class_of m s t.0) []
