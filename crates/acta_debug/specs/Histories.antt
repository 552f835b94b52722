-- Lists that are histories, and the machine after the first events of a list.
use Rattle.std.specs.Prelude.{◌≡◌, ◌≤◌, ◌-◌, ℕ, List, length, map, take}
use Rattle.acta_table.specs.declared.event.Event.{Event}
use Rattle.acta_table.specs.declared.event.Kept.{Kept}
use Rattle.acta_table.specs.declared.model.Parts.{Parts}
use Rattle.acta_machine.specs.Table.{State, run_state}

-- the events of the items
abbrev pub events_in : {A : Type 0} → List (Kept A) → List (Event A)
events_in ks = map (λ k. k.event) ks

-- the list is a history: a machine that takes its events admits all, with the returns in the list
abbrev pub IsHistory : {A : Type 0} → Parts A → List (Kept A) → Type 0
IsHistory m h = run_state m (events_in h) ≡ record { model = m; kept = h }

-- place n is the first that does not fit
pub record IsFirstOther {A : Type 0} (m : Parts A) (h : List (Kept A)) (n : ℕ) : Type 0 where
  pub within : n ≤ length h
  pub before : IsHistory m (take (n - 1) h)
  pub other : ¬ (IsHistory m (take n h))

-- the machine after the first n events
abbrev pub state_at : {A : Type 0} → Parts A → List (Kept A) → ℕ → State A
state_at m h n = run_state m (events_in (take n h))
