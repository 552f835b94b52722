-- The transaction for which an event waits, and waits-for cycles.
use Rattle.std.specs.Prelude.{◌≡◌, ◌==◌, ◌<◌, ◌≤◌, ◌+◌, ◌-◌, ℕ, Bool, true, false, List, length, get_or, Option, Some, None, option_map, slice_get}
use Rattle.acta_table.specs.declared.event.Event.{Event}
use Rattle.acta_table.specs.declared.event.TxnId.{TxnId}
use Rattle.acta_sets.specs.Operations.{operation_at}
use Rattle.acta_machine.specs.Table.{State, operations_in}
use Rattle.acta_hope.specs.Hopes.{Holds}
use Rattle.acta_hope.specs.declared.deadlock.Wait.{Wait}
use Rattle.acta_hope.specs.declared.hoping.Hope.{Hope}
use Rattle.acta_hope.specs.declared.hoping.Hope.TheVariants.{OnceBegun, OnceDecided, OnceCommitted, OnceAborted, OnceFree}

-- the transaction that has to do something for the condition to hold: the one it names, or the operation's holder
abbrev pub awaited_in : {A : Type 0} → State A → Hope → Option TxnId
awaited_in state (OnceBegun t) = Some t
awaited_in state (OnceDecided t) = Some t
awaited_in state (OnceCommitted t) = Some t
awaited_in state (OnceAborted t) = Some t
awaited_in state (OnceFree op) = option_map (λ i. i.holder) (operation_at (operations_in state) op.0)
awaited_in state _ = None

-- the event can be admitted only under this condition, for which this transaction has to do something
abbrev pub Awaits : {A : Type 0} → State A → Event A → TxnId → Hope → Type 0
Awaits state e t until = Holds state e until × (awaited_in state until ≡ Some t)

-- whether the first waits for the second
abbrev pub links : Option Wait → Option Wait → Bool
links (Some one) (Some other) = one.next.0 == other.txn.0
links _ _ = false

-- whether the transaction at one place waits for the one at the other
abbrev pub is_linked : List Wait → ℕ → ℕ → Bool
is_linked waits place next = links (slice_get waits place) (slice_get waits next)

-- the transaction at each place waits for the one at the next, and the last place equals the first
abbrev pub IsCycle : List Wait → List ℕ → Type 0
IsCycle waits places =
    (2 ≤ length places) × (get_or places 0 0 ≡ get_or places (length places - 1) 0)
    × ((k : ℕ) → k + 1 < length places → is_linked waits (get_or places k 0) (get_or places (k + 1) 0) ≡ true)
