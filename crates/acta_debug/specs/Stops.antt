-- Where a run stops.
use Rattle.std.specs.Prelude.{◌≡◌, ◌<◌, ◌≤◌, ℕ, ◌+◌, ◌-◌, List, [], ◌∷◌, length, Some, None}
use Rattle.std.specs.List.{range_with_len}
use Rattle.std.specs.Option.{option_map_or}
use Rattle.acta_debug.specs.declared.breaks.Stop.{Stop}
use Rattle.acta_debug.specs.declared.breaks.Stop.TheVariants.{Broke, Finished}
use Rattle.acta_debug.specs.Breaks.{break_at}
use Rattle.acta_debug.specs.Sessions.{Session, moved_to}

-- the places after the current one
abbrev pub places_ahead : {A : Type 0} → Session A → List ℕ
places_ahead s = range_with_len (s.at + 1) (length s.history - s.at)

-- the first of these places at which a break holds, or the end
abbrev pub stop_among : {A : Type 0} → Session A → List ℕ → Stop
stop_among s [] = Finished
stop_among s (n ∷ ns) = option_map_or (λ b. Broke b n) (break_at s n) (stop_among s ns)

-- where a run stops
abbrev pub stop_of : {A : Type 0} → Session A → Stop
stop_of s = stop_among s (places_ahead s)

-- the number of events before the stop, if the history has `last` events
abbrev pub stopped_at : ℕ → Stop → ℕ
stopped_at last (Broke b n) = n
stopped_at last Finished = last

-- the debugger after a run
abbrev pub run_to_stop : {A : Type 0} → Session A → Session A
run_to_stop s = moved_to s (stopped_at (length s.history) (stop_of s))

-- no break holds at a later place before n
abbrev pub HasNoneUntil : {A : Type 0} → Session A → ℕ → Type 0
HasNoneUntil s n = (p : ℕ) → s.at < p → p < n → break_at s p ≡ None

-- n is the first later place at which a break holds, and b the lowest number of such a break
pub record IsBroken {A : Type 0} (s : Session A) (b n : ℕ) : Type 0 where
  pub ahead : s.at < n
  pub within : n ≤ length s.history
  pub here : break_at s n ≡ Some b
  pub first : HasNoneUntil s n

-- the stop is right: the first later place at which a break holds, or the end if there is none
abbrev pub IsStop : {A : Type 0} → Session A → Stop → Type 0
IsStop s (Broke b n) = IsBroken s b n
IsStop s Finished = HasNoneUntil s (length s.history + 1)
