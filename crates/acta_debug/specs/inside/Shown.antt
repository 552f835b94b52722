-- The invariant of a debugger.
use Rattle.std.specs.Prelude.{◌≡◌, ◌≤◌, ℕ, All, Bool, List, length, nat_le, take}
use Rattle.acta_table.specs.declared.event.Kept.{Kept}
use Rattle.acta_table.specs.declared.model.Parts.{Parts}
use Rattle.acta_table.specs.declared.limits.TheConstants.{MOST_EVENTS}
use Rattle.acta_machine.specs.Places.{FollowsPlaces}
use Rattle.acta_machine.specs.Table.{State}
use Rattle.acta_debug.specs.declared.breaks.Break.{Break}
use Rattle.acta_debug.specs.Histories.{IsHistory}
use Rattle.acta_debug.specs.Sessions.{Session}

-- the debugger that has this machine, history, place and breaks
abbrev pub session_of : {A : Type 0} → State A → List (Kept A) → ℕ → List Break → Session A
session_of machine history at breaks = record { model = machine.model; history = history; at = at; breaks = breaks }

-- the list is a history of the machine's model, and the machine has kept its events up to the place
pub record IsInside {A : Type 0} (machine : State A) (history : List (Kept A)) (at : ℕ) : Type 0 where
  pub whole : IsHistory machine.model history
  pub kept : machine.kept ≡ take at history
  pub within : at ≤ length history
  pub few : length history ≤ MOST_EVENTS
  pub follows : FollowsPlaces machine

-- the machine has kept a prefix of the history
pub record IsFront {A : Type 0} (m : Parts A) (history : List (Kept A)) (machine : State A) : Type 0 where
  pub model : machine.model ≡ m
  pub kept : machine.kept ≡ take (length machine.kept) history

-- whether the machine has kept at most n events
abbrev pub has_kept_within : {A : Type 0} → ℕ → State A → Bool
has_kept_within n machine = nat_le (length machine.kept) n

-- each of the machines has kept a prefix
pub record AreFronts {A : Type 0} (m : Parts A) (history : List (Kept A)) (machines : List (State A)) : Type 0 where
  pub each : All (IsFront m history) machines

-- the machine is at the place, and the checkpoints have kept prefixes of the history
pub record IsCurrent {A : Type 0} (machine : State A) (history : List (Kept A)) (at : ℕ) (checkpoints : List (State A)) : Type 0 where
  pub stands : IsInside machine history at
  pub fronts : AreFronts machine.model history checkpoints
