-- The serial order in the form in which the program returns it.
use Rattle.std.specs.Prelude.{ℕ, ◌==◌, List, filter, filter_map, Option, option_map}
use Rattle.acta_table.specs.declared.event.Kept.{Kept}
use Rattle.acta_table.specs.declared.model.Parts.{Parts}
use Rattle.acta_axioms.specs.Operations.{Operation, operations, standing}
use Rattle.acta_axioms.specs.declared.serial.SerialItem.{SerialItem}
use Rattle.acta_axioms.specs.Serial.{serial_order}

-- the item of an operation, with its holder; `None` if it has no return
abbrev pub item_of : ℕ → Operation → Option SerialItem
item_of t o =
    option_map
    (λ ret. record { number = record { 0 = o.number }; txn = record { 0 = t }; ob = record { 0 = o.object }; op = o.op; ret = ret })
    o.ret

-- the serial order of a history as items
abbrev pub serial_items : {A : Type 0} → Parts A → List (Kept A) → List SerialItem
serial_items m h = filter_map (λ o. item_of (standing m h o).holder o) (serial_order m h)

-- the operations that t invoked, as items
abbrev pub items_of : {A : Type 0} → List (Kept A) → ℕ → List SerialItem
items_of h t = filter_map (item_of t) (filter (λ o. o.invoker == t) (operations h))
