-- The edges of an event that is no operation do not depend on the earlier items.
use Rattle.std.proofs.Common.{◌≡◌, List, refl}
use Rattle.acta_table.specs.declared.event.Event.{Event}
use Rattle.acta_table.specs.declared.event.Event.TheVariants.{Begin, Spawn, Split, Join, Delegate, Form, Operate, Commit, Abort, Permit}
use Rattle.acta_table.specs.declared.event.TxnId.{TxnId}
use Rattle.acta_table.specs.declared.event.ObjId.{ObjId}
use Rattle.acta_table.specs.declared.event.Op.{Op}
use Rattle.acta_table.specs.declared.event.Kept.{Kept}
use Rattle.acta_table.specs.declared.model.Parts.{Parts}
use Rattle.acta_axioms.specs.Edges.{formed_by}
use Rattle.acta_axioms.specs.inside.Wanted.{edges_wanted}

pub wanted-formed : {A : Type 0} (m : Parts A) (before : List (Kept A)) (e : Event A) → ((t : TxnId) (object : ObjId) (op : Op) → e ≡ Operate t object op → ⊥) → edges_wanted m.classes e ≡ formed_by m before e
wanted-formed m before (Begin t class) other = refl
wanted-formed m before (Spawn t c class) other = refl
wanted-formed m before (Split t u class ops) other = refl
wanted-formed m before (Join t u) other = refl
wanted-formed m before (Delegate t u ops) other = refl
wanted-formed m before (Form kind j i) other = refl
wanted-formed m before (Operate t object op) other = absurd (other t object op refl)
wanted-formed m before (Commit t) other = refl
wanted-formed m before (Abort t) other = refl
wanted-formed m before (Permit t u ob) other = refl
