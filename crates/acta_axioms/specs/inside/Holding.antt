-- How a walk updates operations from place to place.
use Rattle.std.specs.Prelude.{ℕ, ◌+◌, ◌&&◌, ◌==◌, List, [], ◌∷◌, if◌then◌else◌, Option, Some, None}
use Rattle.std.specs.Option.{option_map_or}
use Rattle.acta_table.specs.declared.answer.Fate.{Fate}
use Rattle.acta_table.specs.declared.answer.Fate.TheVariants.{InProgress, Committed, Aborted}
use Rattle.acta_table.specs.declared.event.Event.{Event}
use Rattle.acta_table.specs.declared.event.Event.TheVariants.{Split, Join, Delegate, Operate, Commit, Abort}
use Rattle.acta_table.specs.declared.event.TxnId.{TxnId}
use Rattle.acta_table.specs.Fates.{is_open}
use Rattle.acta_table.specs.Sets.{is_named}
use Rattle.acta_sets.specs.declared.held_op.HeldOp.{HeldOp}

-- the operation, held by u
abbrev pub in_hand : TxnId → HeldOp → HeldOp
in_hand u x = record x { holder = u }

-- the operation, with this fate
abbrev pub ended_so : Fate → HeldOp → HeldOp
ended_so fate x = record x { fate = fate }

-- operation n, in progress, after an event, given the heir of the transaction that commits by the event
abbrev pub held_after : {A : Type 0} → Option TxnId → Event A → ℕ → HeldOp → HeldOp
held_after heir (Split s u class ops) n x = if (s.0 == x.holder.0) && is_named ops n then in_hand u x else x
held_after heir (Join s u) n x = if s.0 == x.holder.0 then in_hand u x else x
held_after heir (Delegate s u ops) n x = if (s.0 == x.holder.0) && is_named ops n then in_hand u x else x
held_after heir (Commit s) n x =
    if s.0 == x.holder.0 then option_map_or (λ u. in_hand u x) heir (ended_so Committed x) else x
held_after heir (Abort s) n x = if s.0 == x.holder.0 then ended_so Aborted x else x
held_after heir _ n x = x

-- operation n after an event; a committed or aborted operation does not change
abbrev pub brought : {A : Type 0} → Option TxnId → Event A → ℕ → HeldOp → HeldOp
brought heir e n x = if is_open x.fate then held_after heir e n x else x

-- the operations, of which the first has the number n, after an event
abbrev pub brought_from : {A : Type 0} → Option TxnId → Event A → ℕ → List HeldOp → List HeldOp
brought_from heir e n [] = []
brought_from heir e n (x ∷ xs) = brought heir e n x ∷ brought_from heir e (n + 1) xs

-- the operation that an event does, held by its invoker
abbrev pub op_done : {A : Type 0} → Event A → Option HeldOp
op_done (Operate t object op) =
    Some (record { ob = object; op = op; holder = t; fate = InProgress })
op_done _ = None

-- operation o after an event, if it exists then; the next operation would have the number n
abbrev pub followed_on : {A : Type 0} → Option TxnId → Event A → ℕ → ℕ → Option HeldOp → Option HeldOp
followed_on heir e o n None = if n == o then op_done e else None
followed_on heir e o n (Some x) = Some (brought heir e o x)

-- the number of the next operation after an event
abbrev pub next_number : {A : Type 0} → Event A → ℕ → ℕ
next_number (Operate t object op) n = n + 1
next_number _ n = n
