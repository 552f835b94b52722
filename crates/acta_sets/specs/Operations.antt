-- The operations of a history, numbered from 1: ACTA's sets of them, and their changes.
use Rattle.std.specs.Prelude.{ℕ, ◌+◌, Bool, false, ◌&&◌, ◌||◌, not, ◌==◌, List, [], ◌∷◌, ◌++◌, map, filter, if◌then◌else◌, Option}
use Rattle.std.specs.List.{list_any, list_all}
use Rattle.std.specs.Option.{option_map_or}
use Rattle.acta_table.specs.declared.event.TxnId.{TxnId}
use Rattle.acta_table.specs.declared.event.ObjId.{ObjId}
use Rattle.acta_table.specs.declared.event.OpNo.{OpNo}
use Rattle.acta_table.specs.declared.event.Op.{Op}
use Rattle.acta_table.specs.declared.answer.Fate.{Fate}
use Rattle.acta_table.specs.declared.answer.Fate.TheVariants.{InProgress}
use Rattle.acta_table.specs.Numbered.{item_at, numbers_where, ascending}
use Rattle.acta_table.specs.Sets.{is_named}
use Rattle.acta_table.specs.Fates.{is_open, is_aborted}
use Rattle.acta_objects.specs.Conflicts.{register_conflicts, counter_conflicts, set_conflicts}
use Rattle.acta_sets.specs.declared.held_op.HeldOp.{HeldOp}
use Rattle.acta_sets.specs.Permits.{Permitted}

-- whether t holds the operation in progress
abbrev pub is_held : ℕ → HeldOp → Bool
is_held t i = (i.holder.0 == t) && is_open i.fate

-- whether the transaction is in the list
abbrev pub is_among : List TxnId → TxnId → Bool
is_among ts t = list_any (λ u. u.0 == t.0) ts

-- whether the operation is in progress, and its holder is neither t, nor one of these ancestors of t, nor has permitted
-- t to work on its object
abbrev pub is_of_others : ℕ → List TxnId → Permitted → HeldOp → Bool
is_of_others t ancestors permitted i =
    is_open i.fate && not (i.holder.0 == t) && not (is_among ancestors i.holder) && not (permitted i.holder.0 t i.ob.0)

-- whether the operation counts: it is not aborted
abbrev pub is_live : HeldOp → Bool
is_live i = not (is_aborted i.fate)

-- the operations that pass the test, by number, ascending
abbrev pub operations_where : (HeldOp → Bool) → List HeldOp → List OpNo
operations_where test items = map (λ n. record { 0 = n }) (numbers_where test items)

-- the access set: the operations that t holds in progress
abbrev pub access_set : ℕ → List HeldOp → List OpNo
access_set t items = operations_where (is_held t) items

-- the conflict set: operations in progress held by others, except by these ancestors of t and by those that have
-- permitted t to work on the operation's object
abbrev pub conflict_set : ℕ → List TxnId → Permitted → List HeldOp → List OpNo
conflict_set t ancestors permitted items = operations_where (is_of_others t ancestors permitted) items

-- the view: the operations that are not aborted
abbrev pub view_set : List HeldOp → List OpNo
view_set items = operations_where is_live items

-- the operations with one more, in progress, held by t
abbrev pub added : List HeldOp → TxnId → ObjId → Op → List HeldOp
added items t ob op = items ++ (record { ob = ob; op = op; holder = t; fate = InProgress }) ∷ []

-- the operation with this number, from 1
abbrev pub operation_at : List HeldOp → ℕ → Option HeldOp
operation_at items n = item_at items n

-- whether t holds the operation with this number in progress
abbrev pub is_held_in : ℕ → List HeldOp → OpNo → Bool
is_held_in t items o = option_map_or (is_held t) (operation_at items o.0) false

-- whether t holds all the named operations in progress
abbrev pub are_held : ℕ → List OpNo → List HeldOp → Bool
are_held t ops items = list_all (is_held_in t items) ops

-- `moved`, if the first item has the number n
abbrev pub moved_from : ℕ → List OpNo → TxnId → List HeldOp → List HeldOp
moved_from n ops u [] = []
moved_from n ops u (i ∷ items) =
    (if is_named ops n then record i { holder = u } else i) ∷ moved_from (n + 1) ops u items

-- the operations, with the named ones held by u
abbrev pub moved : List OpNo → TxnId → List HeldOp → List HeldOp
moved ops u items = moved_from 1 ops u items

-- the operation, with this fate if t holds it in progress
abbrev pub ended_op : ℕ → Fate → HeldOp → HeldOp
ended_op t fate i = if is_held t i then record i { fate = fate } else i

-- the operations, with this fate for all that t holds in progress
abbrev pub ended : ℕ → Fate → List HeldOp → List HeldOp
ended t fate items = map (ended_op t fate) items

-- the operation, held by u if t holds it in progress
abbrev pub transferred_op : ℕ → TxnId → HeldOp → HeldOp
transferred_op t u i = if is_held t i then record i { holder = u } else i

-- the operations, with all that t holds in progress transferred to u
abbrev pub transferred : ℕ → TxnId → List HeldOp → List HeldOp
transferred t u items = map (transferred_op t u) items

-- `transferred_of`, if the first item has the number n
abbrev pub transferred_from : ℕ → ℕ → List OpNo → TxnId → List HeldOp → List HeldOp
transferred_from n t ops u [] = []
transferred_from n t ops u (i ∷ items) =
    (if is_held t i && is_named ops n then record i { holder = u } else i) ∷ transferred_from (n + 1) t ops u items

-- the operations, with those of the named ones that t holds in progress transferred to u
abbrev pub transferred_of : ℕ → List OpNo → TxnId → List HeldOp → List HeldOp
transferred_of t ops u items = transferred_from 1 t ops u items

-- whether two operations conflict on an object of their kind
abbrev pub ops_conflict : Op → Op → Bool
ops_conflict p q = register_conflicts p q || counter_conflicts p q || set_conflicts p q

-- whether t holds the operation in progress, on this object, and it conflicts with `op`
abbrev pub is_held_against : ℕ → ℕ → Op → HeldOp → Bool
is_held_against t ob op i = is_held t i && (i.ob.0 == ob) && ops_conflict i.op op

-- whether the operation is in progress, on this object, held neither by t nor by a transaction that t exempts there,
-- and conflicts with `op`
abbrev pub is_against : ℕ → List ℕ → ℕ → Op → HeldOp → Bool
is_against t exempt ob op i =
    is_open i.fate && not (i.holder.0 == t) && not (list_any (λ k. k == i.holder.0) exempt) && (i.ob.0 == ob) && ops_conflict i.op op

-- the same for any test of who is exempt
abbrev pub is_against_but : ℕ → (ℕ → Bool) → ℕ → Op → HeldOp → Bool
is_against_but t exempt ob op i =
    is_open i.fate && not (i.holder.0 == t) && not (exempt i.holder.0) && (i.ob.0 == ob) && ops_conflict i.op op

-- whether u is not t, is not exempt, and holds an operation in progress on this object that conflicts with `op`
abbrev pub is_conflicting_holder : ℕ → List ℕ → ℕ → Op → List HeldOp → ℕ → Bool
is_conflicting_holder t exempt ob op items u =
    (not (u == t) && not (list_any (λ k. k == u) exempt)) && list_any (is_held_against u ob op) items

-- the conflicting holders: those of the operations that conflict with `op`, ascending, each once
abbrev pub holders_against : ℕ → List ℕ → ℕ → Op → List HeldOp → List ℕ
holders_against t exempt ob op items =
    ascending (map (λ i. i.holder.0) (filter (is_against t exempt ob op) items))
