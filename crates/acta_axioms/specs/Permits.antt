-- Permits to work on an object, by the places of a history.
use Rattle.std.specs.Prelude.{ℕ, Bool, ◌&&◌, List}
use Rattle.std.specs.List.{list_any}
use Rattle.acta_table.specs.declared.event.Kept.{Kept}
use Rattle.acta_table.specs.Events.{permits}
use Rattle.acta_axioms.specs.History.{is_in_progress}

-- whether some event, legal or not, is a permit by s for t on the object
abbrev pub has_permitted : {A : Type 0} → List (Kept A) → ℕ → ℕ → ℕ → Bool
has_permitted h s t object = list_any (λ k. permits s t object k.event) h

-- whether such a permit is in force: both transactions are in progress
unfoldable pub is_permitted : {A : Type 0} → List (Kept A) → ℕ → ℕ → ℕ → Bool
is_permitted h s t object = is_in_progress h s && is_in_progress h t && has_permitted h s t object
