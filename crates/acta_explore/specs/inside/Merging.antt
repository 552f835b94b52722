-- Lists of points to which others are added, unless they are related to one that is there.
use Rattle.std.specs.Prelude.{◌≡◌, ◌⊎◌, ◌<◌, ◌^◌, ℕ, List, [], ◌∷◌, ◌++◌, length, map, take}
use Rattle.std.specs.List.{All, Contains, flat_map}
use Rattle.acta_explore.specs.declared.key.Key.{Key}
use Rattle.acta_explore.specs.declared.outcome.Outcome.{Outcome}
use Rattle.acta_explore.specs.Ends.{HaveSameOutcome}
use Rattle.acta_explore.specs.Equivalence.{AreEquivalent, AreApart}
use Rattle.acta_explore.specs.Outcomes.{Outcome as an_outcome, outcome}
use Rattle.acta_explore.specs.Points.{Point}
use Rattle.acta_explore.specs.Programs.{Programs}
use Rattle.acta_explore.specs.inside.Keys.{IsKeyOf}
use Rattle.acta_explore.specs.inside.Shown.{shown}
use Rattle.acta_explore.specs.inside.Turns.{ends_among, successors}

-- some point of the list is related to this one
pub record HasLike {A : Type 0} (R : Point A → Point A → Type 0) (points : List (Point A)) (q : Point A) : Type 0 where
  pub by : Point A
  pub within : Contains points by
  pub related : R by q

-- a point is added to the list, if no point there is like it, or left out since one there is related to it
abbrev pub IsPut : {A : Type 0} → (Point A → Point A → Type 0) → (Point A → Point A → Type 0) → List (Point A) → Point A → List (Point A) → Type 0
IsPut R Unlike old p new = ((new ≡ old ++ p ∷ []) × All (λ x. Unlike x p) old) ⊎ ((new ≡ old) × HasLike R old p)

-- these points are added to the list, one after another
abbrev pub IsMerged : {A : Type 0} → (Point A → Point A → Type 0) → (Point A → Point A → Type 0) → List (Point A) → List (Point A) → List (Point A) → Type 0
IsMerged R Unlike old [] new = new ≡ old
IsMerged R Unlike old (p ∷ ps) new = (mid : List (Point _)) × IsPut R Unlike old p mid × IsMerged R Unlike mid ps new

-- the two have different outcomes
abbrev pub HaveOthers : {A : Type 0} → Programs A → Point A → Point A → Type 0
HaveOthers programs p q = outcome programs p ≡ outcome programs q → ⊥

-- the points of a map
abbrev pub points_of : {K A : Type 0} → List (K × Point A) → List (Point A)
points_of entries = map (λ e. e.1) entries

-- the abstract outcomes that are keys of a map
abbrev pub outcomes_of : {A : Type 0} → List (Outcome A × Point A) → List (an_outcome A)
outcomes_of entries = map (λ e. shown e.0) entries

-- each key is the key of its point
abbrev pub AreKeyed : {A : Type 0} → Programs A → List (Key A × Point A) → Type 0
AreKeyed programs entries = All (λ e. IsKeyOf programs e.1 e.0) entries

-- each outcome is that of its point
abbrev pub AreOutcomes : {A : Type 0} → Programs A → List (Outcome A × Point A) → Type 0
AreOutcomes programs entries = All (λ e. shown e.0 ≡ outcome programs e.1) entries

-- the points after each step from the points of a level, each once up to equivalence, and the ends after those of the level
pub record IsNextLevel {A : Type 0} (programs : Programs A) (level old next new : List (Point A)) : Type 0 where
  pub points : IsMerged (AreEquivalent programs) (AreApart programs) [] (flat_map (successors programs) level) next
  pub ends : IsMerged (HaveSameOutcome programs) (HaveOthers programs) old (ends_among programs level) new

-- the first points of a level lead to so many points already, more than there is room for
pub record IsCutOff {A : Type 0} (programs : Programs A) (level old new : List (Point A)) (room count : ℕ) : Type 0 where
  pub n : ℕ
  pub next : List (Point A)
  pub after : IsNextLevel programs (take n level) old next new
  pub counted : count ≡ length next
  pub more : room < count
  pub small : count < 2 ^ 63
