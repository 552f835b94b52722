-- All ways in which programs can end, each with its first order.
use Rattle.std.specs.Prelude.{◌≡◌, ◌<◌, ◌++◌, ⊤, ℕ, List, length, true, get_or, Some}
use Rattle.std.specs.List.{All, Contains}
use Rattle.std.specs.Cmp.Lexicographic.{slice_cmp}
use Rattle.std.specs.declared.cmp.Ordering.{Ordering}
use Rattle.std.specs.declared.cmp.Ordering.TheVariants.{Less}
use Rattle.std.specs.Ordering.{nat_cmp, ordering_then, is_le}
use Rattle.acta_table.specs.declared.model.Parts.{Parts}
use Rattle.acta_explore.specs.Equivalence.{AreEquivalent, AreApart}
use Rattle.acta_explore.specs.Outcomes.{Outcome, outcome}
use Rattle.acta_explore.specs.declared.point.Turn.{Turn}
use Rattle.acta_explore.specs.declared.search.ExploreError.{ExploreError}
use Rattle.acta_explore.specs.declared.search.ExploreError.TheVariants.{TooMany, Memory}
use Rattle.acta_explore.specs.Points.{Point, start, played, order_of, IsEnd, IsReached, IsEndReached}
use Rattle.acta_explore.specs.Programs.{Programs}

-- turns are ordered by seat, then by alternative
abbrev pub turn_cmp : Turn → Turn → Ordering
turn_cmp t u = ordering_then (nat_cmp t.seat u.seat) (nat_cmp t.alternative u.alternative)

-- orders are sorted by length, then by their first differing turn
abbrev pub order_cmp : List Turn → List Turn → Ordering
order_cmp turns others = ordering_then (nat_cmp (length turns) (length others)) (slice_cmp turn_cmp turns others)

-- one of the points is related to q, and its order is no later than the one by which q was reached
pub record IsAmong {A : Type 0} (R : Point A → Point A → Type 0) (points : List (Point A)) (turns : List Turn) (q : Point A) : Type 0 where
  pub by : Point A
  pub within : Contains points by
  pub related : R by q
  pub first : is_le (order_cmp (order_of by) turns) ≡ true

-- the two points have the same outcome
abbrev pub HaveSameOutcome : {A : Type 0} → Programs A → Point A → Point A → Type 0
HaveSameOutcome programs p q = outcome programs p ≡ outcome programs q

-- the points are sorted by their orders
abbrev pub AreInOrder : {A : Type 0} → List (Point A) → Type 0
AreInOrder {A = A} points =
    (i j : ℕ) (d : Point A) → i < j → j < length points → order_cmp (order_of (get_or points i d)) (order_of (get_or points j d)) ≡ Less

-- some points that programs can reach from the root: no two of them are equivalent, and they are sorted by their orders
pub record ArePointsFrom {A : Type 0} (programs : Programs A) (root : Point A) (points : List (Point A)) : Type 0 where
  pub reached : All (IsReached programs root) points
  pub distinct : (i j : ℕ) (d : Point A) → i < j → j < length points → AreApart programs (get_or points i d) (get_or points j d)
  pub in_order : AreInOrder points

-- some ends that programs can reach from the root: no outcome is there twice, and they are sorted by their orders
pub record AreEndsFrom {A : Type 0} (programs : Programs A) (root : Point A) (ends : List (Point A)) : Type 0 where
  pub sound : All (IsEndReached programs root) ends
  pub distinct : (i j : ℕ) (d : Point A) → i < j → j < length ends → HaveSameOutcome programs (get_or ends i d) (get_or ends j d) → ⊥
  pub in_order : AreInOrder ends

-- all points that programs can reach from the root, up to equivalence: for each order of steps from the root there is an
-- equivalent point with an order that is no later
pub record AreAllPointsFrom {A : Type 0} (programs : Programs A) (root : Point A) (points : List (Point A)) : Type 0 where
  pub some : ArePointsFrom programs root points
  pub complete : (turns : List Turn) (q : Point A) → played programs root turns ≡ Some q → IsAmong (AreEquivalent programs) points (order_of root ++ turns) q

-- all ends that programs can reach from the root, up to equal outcomes: for each order of steps from the root to an end,
-- there is a point with the same outcome and an order that is no later
pub record AreAllEndsFrom {A : Type 0} (programs : Programs A) (root : Point A) (ends : List (Point A)) : Type 0 where
  pub some : AreEndsFrom programs root ends
  pub complete : (turns : List Turn) (q : Point A) → played programs root turns ≡ Some q → IsEnd programs q → IsAmong (HaveSameOutcome programs) ends (order_of root ++ turns) q

-- the same for a new machine on the model
abbrev pub AreAllEnds : {A : Type 0} → Programs A → Parts A → List (Point A) → Type 0
AreAllEnds programs m ends = AreAllEndsFrom programs (start m) ends

-- the result of a search: the ends, the outcome of each, in the same order, and the number of points searched
pub record Found (A : Type 0) : Type 0 where
  pub ends : List (Point A)
  pub outcomes : List (Outcome A)
  pub points : ℕ

-- programs can reach so many points from the root, up to equivalence
pub record CountsPoints {A : Type 0} (programs : Programs A) (root : Point A) (count : ℕ) : Type 0 where
  pub points : List (Point A)
  pub all : AreAllPointsFrom programs root points
  pub counted : count ≡ length points

-- a search from the root was right to give up: it found so many points, more than allowed, and so many ends
pub record IsTooMany {A : Type 0} (programs : Programs A) (root : Point A) (most points ends : ℕ) : Type 0 where
  pub more : most < points
  pub found : List (Point A)
  pub some : ArePointsFrom programs root found
  pub counted : points ≡ length found
  pub ended : List (Point A)
  pub some_ends : AreEndsFrom programs root ended
  pub counted_ends : ends ≡ length ended

-- a search gives up only if there are more points than allowed, or if memory runs out
abbrev pub IsOver : {A : Type 0} → Programs A → Point A → ℕ → ExploreError → Type 0
IsOver programs root most (TooMany points ends) = IsTooMany programs root most points ends
IsOver programs root most Memory = ⊤
