-- Transactions that wait for each other to end, for ever.
use Rattle.std.specs.Prelude.{◌≡◌, ◌<◌, ℕ, false, List, length, get_or}
use Rattle.acta_table.specs.declared.event.Event.{Event}
use Rattle.acta_table.specs.declared.event.TxnId.{TxnId}
use Rattle.acta_deps.specs.Statuses.{is_decided}
use Rattle.acta_deps.specs.Waiting.{nobody}
use Rattle.acta_machine.specs.Table.{State, after_all, status_in}

-- whatever events come, none of these transactions commits or aborts
abbrev pub NoneEnds : {A : Type 0} → State A → List TxnId → Type 0
NoneEnds {A} state chain =
    (k : ℕ) → k < length chain → (es : List (Event A)) → is_decided (status_in (after_all state es) (get_or chain k nobody).0) ≡ false
