-- The ends and points that a search has found, level by level.
use Rattle.std.proofs.Common.{◌≡◌, ◌<◌, ◌⊎◌, ℕ, ◌+◌, Bool, true, false, List, [], ◌∷◌, ◌++◌, filter, length, take, drop, cond, Option, Some, None, refl, sym, ap, subst, ◌∙◌, arith, inl, inr}
use Rattle.std.specs.Prelude.{option_and_then}
use Rattle.std.specs.List.{AllByRecursion, Contains, flat_map}
use Rattle.std.specs.Ordering.{is_le}
use Rattle.std.proofs.lemmas.Bool.{cases_lt}
use Rattle.std.proofs.lemmas.List.{append_assoc, append-nil, length-append, length-take-le, take-append-drop}
use Rattle.std.proofs.lemmas.List.Elements.{All-from_recursion, All-contains, Contains-append_left, Contains-append_right}
use Rattle.acta_machine.specs.Summary.{Summary}
use Rattle.acta_machine.specs.Table.{State, kept_as}
use Rattle.acta_machine.proofs.FamilyTies.{kept-many}
use Rattle.acta_explore.specs.declared.point.Turn.{Turn}
use Rattle.acta_explore.specs.Ends.{order_cmp, AreAllEndsFrom, AreAllPointsFrom, AreEndsFrom, ArePointsFrom, HaveSameOutcome, IsAmong}
use Rattle.acta_explore.specs.Equivalence.{AreApart, AreEquivalent}
use Rattle.acta_explore.specs.Points.{Point, stepped, played, order_of, IsEnd, IsReached, IsEndReached}
use Rattle.acta_explore.specs.Programs.{Programs, event_now}
use Rattle.acta_explore.specs.inside.Merging.{HaveOthers, IsNextLevel}
use Rattle.acta_explore.specs.inside.Turns.{successors, is_nil, ends_among}
use Rattle.acta_explore.proofs.Ending.{outcome-same}
use Rattle.acta_explore.proofs.Going.{IsNumbered, numbered-step, step-like, end-like, equivalent-refl, equivalent-trans}
use Rattle.acta_explore.proofs.Merging.{IsBefore, all-merged, kept-merged, rise-merged, among-merged, unlike-merged}
use Rattle.acta_explore.proofs.Orders.{order-same, short-less, le-more, le-trans}
use Rattle.acta_explore.proofs.Pairs.{Pairs, all-append, all-left, all-map, pairs-append, pairs-at, pairs-left}
use Rattle.acta_explore.proofs.Stepping.{after-admitted, is_step, model-step, order-step}
use Rattle.acta_explore.proofs.Turning.{contains-nil, contains-head, contains-tail, contains-cases, contains-flat_map, successor-among, successors-step, IsSuccessor, HasLength, level-rise}

-- orders by their last turn
pub played-push : {A : Type 0} (programs : Programs A) (p : Point A) (turns : List Turn) (t : Turn) → played programs p (turns ++ t ∷ []) ≡ option_and_then (λ q. stepped programs q t) (played programs p turns)
played-push {A} programs p [] t = last (stepped programs p t)
  where
    last : (o : Option (Point A)) → option_and_then (λ q. Some q) o ≡ o
    last None = refl
    last (Some q) = refl
played-push {A} programs p (u ∷ turns) t = by-step (stepped programs p u) (λ q. played-push programs q turns t)
  where
    by-step : (o : Option (Point A)) → ((q : Point A) → played programs q (turns ++ t ∷ []) ≡ option_and_then (λ r. stepped programs r t) (played programs q turns)) → option_and_then (λ q. played programs q (turns ++ t ∷ [])) o ≡ option_and_then (λ r. stepped programs r t) (option_and_then (λ q. played programs q turns) o)
    by-step None later = refl
    by-step (Some q) later = later q

-- an order with a last turn leads to a point and a step from there
record IsPlayedLast {A : Type 0} (programs : Programs A) (p : Point A) (turns : List Turn) (t : Turn) (q : Point A) : Type 0 where
  pub point : Point A
  pub before : played programs p turns ≡ Some point
  pub last : stepped programs point t ≡ Some q

from-before : {A : Type 0} (programs : Programs A) (p : Point A) (turns : List Turn) (t : Turn) (q : Point A) (o : Option (Point A)) → played programs p turns ≡ o → option_and_then (λ r. stepped programs r t) o ≡ Some q → IsPlayedLast programs p turns t q
from-before programs p turns t q None e h = absurd cc
from-before programs p turns t q (Some r) e h = record { point = r; before = e; last = h }

played-last : {A : Type 0} (programs : Programs A) (p : Point A) (turns : List Turn) (t : Turn) (q : Point A) → played programs p (turns ++ t ∷ []) ≡ Some q → IsPlayedLast programs p turns t q
played-last programs p turns t q h = from-before programs p turns t q (played programs p turns) refl (sym (played-push programs p turns t) ∙ h)

-- a list that is not empty, by its last element
record HasLast {X : Type 0} (xs : List X) : Type 0 where
  pub front : List X
  pub last : X
  pub is : xs ≡ front ++ last ∷ []

has-last : {X : Type 0} (x : X) (xs : List X) → HasLast (x ∷ xs)
has-last x [] = record { front = []; last = x; is = refl }
has-last x (y ∷ xs) =
    let rest = has-last y xs in
    record { front = x ∷ rest.front; last = rest.last; is = ap (λ (zs : List _). x ∷ zs) rest.is }

with-last : {X : Type 0} (xs : List X) (n : ℕ) → length xs ≡ n + 1 → HasLast xs
with-last [] n e = absurd (omega arith)
with-last (x ∷ xs) n e = has-last x xs

-- points that are reached are numbered
numbered-by : {A : Type 0} (programs : Programs A) (o : Option (Point A)) (turns : List Turn) (q : Point A) → ((p : Point A) → o ≡ Some p → IsNumbered p) → ((p : Point A) → IsNumbered p → played programs p turns ≡ Some q → IsNumbered q) → option_and_then (λ p. played programs p turns) o ≡ Some q → IsNumbered q
numbered-by programs None turns q here later h = absurd cc
numbered-by programs (Some p) turns q here later h = later p (here p refl) h

numbered-played : {A : Type 0} (programs : Programs A) (turns : List Turn) (p q : Point A) → IsNumbered p → played programs p turns ≡ Some q → IsNumbered q
numbered-played programs [] p q here h = let same : p ≡ q = cc in subst IsNumbered same here
numbered-played programs (t ∷ turns) p q here h =
    numbered-by programs (stepped programs p t) turns q (λ r e. numbered-step programs p t r here e) (λ r n k. numbered-played programs turns r q n k) h

model-by : {A : Type 0} (programs : Programs A) (p : Point A) (t : Turn) (turns : List Turn) (q : Point A) (o : Option (Point A)) → stepped programs p t ≡ o → ((r : Point A) → played programs r turns ≡ Some q → q.state.model ≡ r.state.model) → option_and_then (λ r. played programs r turns) o ≡ Some q → q.state.model ≡ p.state.model
model-by programs p t turns q None e later h = absurd cc
model-by programs p t turns q (Some r) e later h = later r h ∙ model-step programs p t r e

-- and is on the model of the root
model-played : {A : Type 0} (programs : Programs A) (turns : List Turn) (p q : Point A) → played programs p turns ≡ Some q → q.state.model ≡ p.state.model
model-played programs [] p q h = let same : p ≡ q = cc in ap (λ (r : Point _). r.state.model) (sym same)
model-played programs (t ∷ turns) p q h = model-by programs p t turns q (stepped programs p t) refl (λ r k. model-played programs turns r q k) h

model-reached : {A : Type 0} (programs : Programs A) (root : Point A) (turns others : List Turn) (p q : Point A) → played programs root turns ≡ Some p → played programs root others ≡ Some q → p.state.model ≡ q.state.model
model-reached programs root turns others p q h k = model-played programs turns root p h ∙ sym (model-played programs others root q k)

reached-step : {A : Type 0} (programs : Programs A) (root : Point A) (p : Point A) (t : Turn) (q : Point A) → IsReached programs root p → stepped programs p t ≡ Some q → IsReached programs root q
reached-step programs root p t q here h = record {
  turns = here.turns ++ t ∷ [];
  own = order-step programs p t q h ∙ (ap (λ (ts : List Turn). ts ++ t ∷ []) here.own ∙ append_assoc (order_of root) here.turns (t ∷ []));
  leads = played-push programs root here.turns t ∙ (ap (option_and_then (λ r. stepped programs r t)) here.leads ∙ h);
}

-- the length of orders that are n turns longer than the root's
abbrev pub longer : {A : Type 0} → Point A → ℕ → ℕ
longer root n = length (order_of root) + n

abbrev pub IsShorter : {A : Type 0} → ℕ → Point A → Type 0
IsShorter n p = length (order_of p) < n

-- each step keeps one event more, so that points after different numbers of steps are apart
kept-step : {A : Type 0} (programs : Programs A) (p : Point A) (t : Turn) (q : Point A) → stepped programs p t ≡ Some q → length q.state.kept ≡ length p.state.kept + 1
kept-step programs p t q h =
    let one = is_step programs p t q h in
    let e = event_now programs p.steps one.event in
    ap (λ (r : Point _). length r.state.kept) one.gone
    ∙ (ap (λ (s : State _). length s.kept) (after-admitted p.state e one.admitted) ∙ length-append p.state.kept (kept_as p.state e ∷ []))

kept-by : {A : Type 0} (programs : Programs A) (p : Point A) (t : Turn) (turns : List Turn) (q : Point A) (o : Option (Point A)) → stepped programs p t ≡ o → ((r : Point A) → played programs r turns ≡ Some q → length q.state.kept ≡ length r.state.kept + length turns) → option_and_then (λ r. played programs r turns) o ≡ Some q → length q.state.kept ≡ length p.state.kept + length (t ∷ turns)
kept-by programs p t turns q None e later h = absurd cc
kept-by programs p t turns q (Some r) e later h =
    let one : length r.state.kept ≡ length p.state.kept + 1 = kept-step programs p t r e in
    let more : length q.state.kept ≡ length r.state.kept + length turns = later r h in
    omega (arith, one, more)

kept-played : {A : Type 0} (programs : Programs A) (turns : List Turn) (p q : Point A) → played programs p turns ≡ Some q → length q.state.kept ≡ length p.state.kept + length turns
kept-played programs [] p q h =
    let same : p ≡ q = cc in
    let e : length p.state.kept ≡ length p.state.kept + 0 = omega arith in
    ap (λ (r : Point _). length r.state.kept) (sym same) ∙ e
kept-played programs (t ∷ turns) p q h = kept-by programs p t turns q (stepped programs p t) refl (λ r k. kept-played programs turns r q k) h

apart-by-length : {A : Type 0} (programs : Programs A) (root p q : Point A) → IsReached programs root p → IsReached programs root q → length (order_of p) < length (order_of q) → AreApart programs p q
apart-by-length programs root p q here there less same =
    let kept : length p.state.kept ≡ length q.state.kept = sym (kept-many p.state.model p.state.kept) ∙ (ap (λ (s : Summary). s.kept) same.rest ∙ kept-many q.state.model q.state.kept) in
    let one : length p.state.kept ≡ length root.state.kept + length here.turns = kept-played programs here.turns root p here.leads in
    let other : length q.state.kept ≡ length root.state.kept + length there.turns = kept-played programs there.turns root q there.leads in
    let long : length (order_of p) ≡ length (order_of root) + length here.turns = ap (λ (ts : List Turn). length ts) here.own ∙ length-append (order_of root) here.turns in
    let longer : length (order_of q) ≡ length (order_of root) + length there.turns = ap (λ (ts : List Turn). length ts) there.own ∙ length-append (order_of root) there.turns in
    omega (arith, kept, one, other, long, longer, less)

-- the points are n steps from the root, in order, and no two of them are equivalent
pub record IsLevel {A : Type 0} (programs : Programs A) (root : Point A) (n : ℕ) (points : List (Point A)) : Type 0 where
  pub reached : AllByRecursion (IsReached programs root) points
  pub long : AllByRecursion (HasLength (longer root n)) points
  pub rise : Pairs IsBefore points
  pub apart : Pairs (AreApart programs) points

-- the points are fewer than n steps from the root, in order, and no two of them are equivalent
pub record AreEarlier {A : Type 0} (programs : Programs A) (root : Point A) (n : ℕ) (points : List (Point A)) : Type 0 where
  pub reached : AllByRecursion (IsReached programs root) points
  pub short : AllByRecursion (IsShorter (longer root n)) points
  pub rise : Pairs IsBefore points
  pub apart : Pairs (AreApart programs) points

-- the ends are fewer than n steps from the root, in order, and no two of them have the same outcome
pub record AreEnded {A : Type 0} (programs : Programs A) (root : Point A) (n : ℕ) (ends : List (Point A)) : Type 0 where
  pub sound : AllByRecursion (IsEndReached programs root) ends
  pub short : AllByRecursion (IsShorter (longer root n)) ends
  pub in_order : Pairs IsBefore ends
  pub distinct : Pairs (HaveOthers programs) ends

-- the invariant when a search has reached level n: the points before this level, those on it, and the ends
pub record IsSearchedTo {A : Type 0} (programs : Programs A) (root : Point A) (n : ℕ) (earlier level ends : List (Point A)) : Type 0 where
  pub numbered : IsNumbered root
  pub before : AreEarlier programs root n earlier
  pub here : IsLevel programs root n level
  pub found : AreEnded programs root n ends
  pub passed : (turns : List Turn) (q : Point A) → length turns < n → played programs root turns ≡ Some q → IsAmong (AreEquivalent programs) earlier (order_of root ++ turns) q
  pub covers : (turns : List Turn) (q : Point A) → length turns ≡ n → played programs root turns ≡ Some q → IsAmong (AreEquivalent programs) level (order_of root ++ turns) q
  pub complete : (turns : List Turn) (q : Point A) → length turns < n → played programs root turns ≡ Some q → IsEnd programs q → IsAmong (HaveSameOutcome programs) ends (order_of root ++ turns) q

no-turns : {A : Type 0} (programs : Programs A) (root : Point A) (turns : List Turn) (q : Point A) → length turns ≡ 0 → played programs root turns ≡ Some q → IsAmong (AreEquivalent programs) (root ∷ []) (order_of root ++ turns) q
no-turns programs root [] q e h =
    let same : root ≡ q = cc in
    record {
      by = root;
      within = (0, omega arith, refl);
      related = subst (AreEquivalent programs root) same (equivalent-refl programs root);
      first = ap (λ (ts : List Turn). is_le (order_cmp (order_of root) ts)) (append-nil (order_of root)) ∙ ap is_le (order-same (order_of root));
    }
no-turns programs root (t ∷ turns) q e h = absurd (omega arith)

-- at the root
root-level : {A : Type 0} (programs : Programs A) (root : Point A) → IsLevel programs root 0 (root ∷ [])
root-level programs root = record {
  reached = (record { turns = []; own = sym (append-nil (order_of root)); leads = refl }, tt);
  long = (omega arith, tt);
  rise = (tt, tt);
  apart = (tt, tt);
}

none-earlier : {A : Type 0} (programs : Programs A) (root : Point A) → AreEarlier programs root 0 []
none-earlier programs root = record { reached = tt; short = tt; rise = tt; apart = tt }

none-ended : {A : Type 0} (programs : Programs A) (root : Point A) → AreEnded programs root 0 []
none-ended programs root = record { sound = tt; short = tt; in_order = tt; distinct = tt }

pub searched-start : {A : Type 0} (programs : Programs A) (root : Point A) → IsNumbered root → IsSearchedTo programs root 0 [] (root ∷ []) []
searched-start programs root numbered = record {
  numbered = numbered;
  before = none-earlier programs root;
  here = root-level programs root;
  found = none-ended programs root;
  passed = λ turns q less h. absurd (omega arith);
  covers = no-turns programs root;
  complete = λ turns q less h ended. absurd (omega arith);
}

-- points that have no step
end-by : {A : Type 0} (programs : Programs A) (p : Point A) (turn : Turn) → is_nil (successors programs p) ≡ true → (o : Option (Point A)) → stepped programs p turn ≡ o → o ≡ None
end-by {A} programs p turn none None e = refl
end-by {A} programs p turn none (Some q) e = absurd (nil-contains (successors programs p) q none (successor-among programs p turn q e))
  where
    nil-contains : (ps : List (Point A)) (q : Point A) → is_nil ps ≡ true → Contains ps q → ⊥
    nil-contains [] q e within = contains-nil q within
    nil-contains (p ∷ ps) q e within = absurd cc

is-end : {A : Type 0} (programs : Programs A) (p : Point A) → is_nil (successors programs p) ≡ true → IsEnd programs p
is-end programs p none turn = end-by programs p turn none (stepped programs p turn) refl

ended-nil : {A : Type 0} (programs : Programs A) (p : Point A) → IsEnd programs p → is_nil (successors programs p) ≡ true
ended-nil {A} programs p ended = by-steps (successors programs p) (successors-step programs p)
  where
    by-steps : (qs : List (Point A)) → AllByRecursion (IsSuccessor programs p) qs → is_nil qs ≡ true
    by-steps [] all = refl
    by-steps (q ∷ qs) all = let e : None ≡ Some q = sym (ended all.0.0) ∙ all.0.1 in absurd cc

-- those of a list that pass a test
filter-all : {X : Type 0} (P : X → Type 0) (test : X → Bool) (xs : List X) → AllByRecursion P xs → AllByRecursion P (filter test xs)
filter-all {X} P test [] all = tt
filter-all {X} P test (x ∷ xs) all = by-test (test x) (filter-all P test xs all.1)
  where
    by-test : (b : Bool) → AllByRecursion P (filter test xs) → AllByRecursion P (cond b (x ∷ filter test xs) (filter test xs))
    by-test true rest = (all.0, rest)
    by-test false rest = rest

filter-passes : {X : Type 0} (test : X → Bool) (xs : List X) → AllByRecursion (λ x. test x ≡ true) (filter test xs)
filter-passes {X} test [] = tt
filter-passes {X} test (x ∷ xs) = by-test (test x) refl (filter-passes test xs)
  where
    by-test : (b : Bool) → test x ≡ b → AllByRecursion (λ x. test x ≡ true) (filter test xs) → AllByRecursion (λ x. test x ≡ true) (cond b (x ∷ filter test xs) (filter test xs))
    by-test true e rest = (e, rest)
    by-test false e rest = rest

filter-pairs : {X : Type 0} (B : X → X → Type 0) (test : X → Bool) (xs : List X) → Pairs B xs → Pairs B (filter test xs)
filter-pairs {X} B test [] pairs = tt
filter-pairs {X} B test (x ∷ xs) pairs = by-test (test x) (filter-pairs B test xs pairs.1)
  where
    by-test : (b : Bool) → Pairs B (filter test xs) → Pairs B (cond b (x ∷ filter test xs) (filter test xs))
    by-test true rest = (filter-all (B x) test xs pairs.0, rest)
    by-test false rest = rest

filter-contains : {X : Type 0} (test : X → Bool) (xs : List X) (x : X) → Contains xs x → test x ≡ true → Contains (filter test xs) x
filter-contains {X} test [] x within e = absurd (contains-nil x within)
filter-contains {X} test (z ∷ xs) x within e = elim (contains-cases z x xs within) [
  | inl same ↦ subst (λ (b : Bool). Contains (cond b (z ∷ filter test xs) (filter test xs)) x) (sym (ap test same ∙ e)) (subst (Contains (z ∷ filter test xs)) same (contains-head z (filter test xs)))
  | inr there ↦ later (test z) (filter-contains test xs x there e)
]
  where
    later : (b : Bool) → Contains (filter test xs) x → Contains (cond b (z ∷ filter test xs) (filter test xs)) x
    later true within = contains-tail z x (filter test xs) within
    later false within = within

both-all : {X : Type 0} (P Q R : X → Type 0) → ((x : X) → P x → Q x → R x) → (xs : List X) → AllByRecursion P xs → AllByRecursion Q xs → AllByRecursion R xs
both-all P Q R f [] here there = tt
both-all P Q R f (x ∷ xs) here there = (f x here.0 there.0, both-all P Q R f xs here.1 there.1)

less-or : (k n : ℕ) → k < n + 1 → (k < n) ⊎ (k ≡ n)
less-or k n less = elim (cases_lt k n) [ inl below ↦ inl below | inr above ↦ inr (omega arith) ]

-- the points of a level count to the earlier ones at the next
module _ {A : Type 0} (programs : Programs A) (root : Point A) (n : ℕ) (earlier level : List (Point A)) (old : AreEarlier programs root n earlier) (here : IsLevel programs root n level) where
  short-next : (ps : List (Point A)) → AllByRecursion (IsShorter (longer root n)) ps → AllByRecursion (IsShorter (longer root (n + 1))) ps
  short-next ps all = all-map (IsShorter (longer root n)) (IsShorter (longer root (n + 1))) (λ p less. omega arith) ps all

  long-short : (ps : List (Point A)) → AllByRecursion (HasLength (longer root n)) ps → AllByRecursion (IsShorter (longer root (n + 1))) ps
  long-short ps all = all-map (HasLength (longer root n)) (IsShorter (longer root (n + 1))) (λ p long. subst (λ (k : ℕ). k < longer root (n + 1)) (sym long) (omega arith)) ps all

  before-level : (p : Point A) → IsShorter (longer root n) p → AllByRecursion (IsBefore p) level
  before-level p less =
      all-map (HasLength (longer root n)) (IsBefore p) (λ q long. short-less (order_of p) (order_of q) (subst (λ (k : ℕ). length (order_of p) < k) (sym long) less)) level here.long

  apart-level : (p : Point A) → IsReached programs root p → IsShorter (longer root n) p → AllByRecursion (AreApart programs p) level
  apart-level p reached less =
      both-all (IsReached programs root) (HasLength (longer root n)) (AreApart programs p) (λ q there long. apart-by-length programs root p q reached there (subst (λ (k : ℕ). length (order_of p) < k) (sym long) less)) level here.reached here.long

  pub earlier-next : AreEarlier programs root (n + 1) (earlier ++ level)
  earlier-next = record {
    reached = all-append (IsReached programs root) earlier level old.reached here.reached;
    short = all-append (IsShorter (longer root (n + 1))) earlier level (short-next earlier old.short) (long-short level here.long);
    rise = pairs-append IsBefore earlier level old.rise here.rise (all-map (IsShorter (longer root n)) (λ p. AllByRecursion (IsBefore p) level) before-level earlier old.short);
    apart = pairs-append (AreApart programs) earlier level old.apart here.apart (both-all (IsReached programs root) (IsShorter (longer root n)) (λ p. AllByRecursion (AreApart programs p) level) apart-level earlier old.reached old.short);
  }

-- from a level to the next
module _ {A : Type 0} (programs : Programs A) (root : Point A) (n : ℕ) (level ends next more : List (Point A)) (here : IsLevel programs root n level) (old : AreEnded programs root n ends) (after : IsNextLevel programs level ends next more) where
  -- each point of the level and each step from it
  after-reached : (p : Point A) → IsReached programs root p → (qs : List (Point A)) → AllByRecursion (IsSuccessor programs p) qs → AllByRecursion (IsReached programs root) qs
  after-reached p here [] all = tt
  after-reached p here (q ∷ qs) all = (reached-step programs root p all.0.0 q here all.0.1, after-reached p here qs all.1)

  all-reached : (ps : List (Point A)) → AllByRecursion (IsReached programs root) ps → AllByRecursion (IsReached programs root) (flat_map (successors programs) ps)
  all-reached [] all = tt
  all-reached (p ∷ ps) all = all-append (IsReached programs root) (successors programs p) (flat_map (successors programs) ps) (after-reached p all.0 (successors programs p) (successors-step programs p)) (all-reached ps all.1)

  after-long : (p : Point A) → HasLength (longer root n) p → (qs : List (Point A)) → AllByRecursion (IsSuccessor programs p) qs → AllByRecursion (HasLength (longer root (n + 1))) qs
  after-long p here [] all = tt
  after-long p here (q ∷ qs) all =
      let more : length (order_of q) ≡ length (order_of p) + 1 = ap (λ (ts : List Turn). length ts) (order-step programs p all.0.0 q all.0.1) ∙ length-append (order_of p) (all.0.0 ∷ []) in
      (omega (arith, more, here), after-long p here qs all.1)

  all-long : (ps : List (Point A)) → AllByRecursion (HasLength (longer root n)) ps → AllByRecursion (HasLength (longer root (n + 1))) (flat_map (successors programs) ps)
  all-long [] all = tt
  all-long (p ∷ ps) all = all-append (HasLength (longer root (n + 1))) (successors programs p) (flat_map (successors programs) ps) (after-long p all.0 (successors programs p) (successors-step programs p)) (all-long ps all.1)

  level-rises : Pairs IsBefore (flat_map (successors programs) level)
  level-rises = level-rise programs (longer root n) level here.long here.rise

  -- the ends of the level
  ends-sound : AllByRecursion (IsEndReached programs root) (ends_among programs level)
  ends-sound =
      both-all (IsReached programs root) (λ p. is_nil (successors programs p) ≡ true) (IsEndReached programs root) (λ p reached none. record { reached = reached; ended = is-end programs p none }) (ends_among programs level)
      (filter-all (IsReached programs root) (λ p. is_nil (successors programs p)) level here.reached)
      (filter-passes (λ p. is_nil (successors programs p)) level)

  ends-long : AllByRecursion (HasLength (longer root n)) (ends_among programs level)
  ends-long = filter-all (HasLength (longer root n)) (λ p. is_nil (successors programs p)) level here.long

  ends-rise : Pairs IsBefore (ends ++ ends_among programs level)
  ends-rise =
      pairs-append IsBefore ends (ends_among programs level) old.in_order (filter-pairs IsBefore (λ p. is_nil (successors programs p)) level here.rise)
      (all-map (IsShorter (longer root n)) (λ p. AllByRecursion (IsBefore p) (ends_among programs level)) (λ p less.
      all-map (HasLength (longer root n)) (IsBefore p) (λ q long. short-less (order_of p) (order_of q) (subst (λ (k : ℕ). length (order_of p) < k) (sym long) less)) (ends_among programs level) ends-long) ends old.short)

  pub next-level : IsLevel programs root (n + 1) next
  next-level = record {
    reached = all-merged (AreEquivalent programs) (AreApart programs) (IsReached programs root) (flat_map (successors programs) level) [] next after.points tt (all-reached level here.reached);
    long = all-merged (AreEquivalent programs) (AreApart programs) (HasLength (longer root (n + 1))) (flat_map (successors programs) level) [] next after.points tt (all-long level here.long);
    rise = rise-merged (AreEquivalent programs) (AreApart programs) (flat_map (successors programs) level) [] next after.points level-rises;
    apart = unlike-merged (AreEquivalent programs) (AreApart programs) (flat_map (successors programs) level) [] next after.points tt;
  }

  pub next-ended : AreEnded programs root (n + 1) more
  next-ended = record {
    sound = all-merged (HaveSameOutcome programs) (HaveOthers programs) (IsEndReached programs root) (ends_among programs level) ends more after.ends old.sound ends-sound;
    short = all-merged (HaveSameOutcome programs) (HaveOthers programs) (IsShorter (longer root (n + 1))) (ends_among programs level) ends more after.ends
        (all-map (IsShorter (longer root n)) (IsShorter (longer root (n + 1))) (λ p less. omega arith) ends old.short)
        (all-map (HasLength (longer root n)) (IsShorter (longer root (n + 1))) (λ p long. subst (λ (k : ℕ). k < longer root (n + 1)) (sym long) (omega arith)) (ends_among programs level) ends-long);
    in_order = rise-merged (HaveSameOutcome programs) (HaveOthers programs) (ends_among programs level) ends more after.ends ends-rise;
    distinct = unlike-merged (HaveSameOutcome programs) (HaveOthers programs) (ends_among programs level) ends more after.ends old.distinct;
  }

-- and all that can be reached with one step more
module _ {A : Type 0} (programs : Programs A) (root : Point A) (n : ℕ) (earlier level ends next more : List (Point A)) (s : IsSearchedTo programs root n earlier level ends) (after : IsNextLevel programs level ends next more) where
  -- a point of the level that is equivalent to one that an order leads to, and the same turn
  covers-last : (turns : List Turn) (t : Turn) (r q : Point A) → length turns ≡ n → played programs root turns ≡ Some r → stepped programs r t ≡ Some q → IsAmong (AreEquivalent programs) next (order_of root ++ (turns ++ t ∷ [])) q
  covers-last turns t r q e h step =
      let c = s.covers turns r e h in
      let by-reached = All-contains (IsReached programs root) level c.by (All-from_recursion (IsReached programs root) level s.here.reached) c.within in
      let by-long = All-contains (HasLength (longer root n)) level c.by (All-from_recursion (HasLength (longer root n)) level s.here.long) c.within in
      let long : length (order_of c.by) ≡ length (order_of root ++ turns) = by-long ∙ (ap (λ (k : ℕ). length (order_of root) + k) (sym e) ∙ sym (length-append (order_of root) turns)) in
      let like = step-like programs c.by r t q (numbered-played programs by-reached.turns root c.by s.numbered by-reached.leads) (numbered-played programs turns root r s.numbered h) (model-reached programs root by-reached.turns turns c.by r by-reached.leads h) c.related step in
      let among = among-merged (AreEquivalent programs) (AreApart programs) (equivalent-refl programs) (flat_map (successors programs) level) [] next like.to after.points (level-rise programs (longer root n) level s.here.long s.here.rise)
      (contains-flat_map (successors programs) level c.by like.to c.within (successor-among programs c.by t like.to like.stepped)) in
      subst (λ (ts : List Turn). IsAmong (AreEquivalent programs) next ts q) (append_assoc (order_of root) turns (t ∷ [])) (record {
        by = among.by;
        within = among.within;
        related = equivalent-trans programs among.by like.to q among.related like.equivalent;
        first = le-trans (order_of among.by) (order_of like.to) ((order_of root ++ turns) ++ t ∷ []) among.first
            (ap (λ (ts : List Turn). is_le (order_cmp ts ((order_of root ++ turns) ++ t ∷ []))) (order-step programs c.by t like.to like.stepped)
            ∙ le-more (order_of c.by) (order_of root ++ turns) t long c.first);
      })

  covers-next : (turns : List Turn) (q : Point A) → length turns ≡ n + 1 → played programs root turns ≡ Some q → IsAmong (AreEquivalent programs) next (order_of root ++ turns) q
  covers-next turns q e h =
      let split = with-last turns n e in
      let front-long : length split.front ≡ n = front-length split.front split.last turns split.is e in
      let last = played-last programs root split.front split.last q (ap (played programs root) (sym split.is) ∙ h) in
      subst (λ (ts : List Turn). IsAmong (AreEquivalent programs) next (order_of root ++ ts) q) (sym split.is)
      (covers-last split.front split.last last.point q front-long last.before last.last)
    where
      front-length : (front : List Turn) (t : Turn) (turns : List Turn) → turns ≡ front ++ t ∷ [] → length turns ≡ n + 1 → length front ≡ n
      front-length front t turns is e = let f : length turns ≡ length front + 1 = ap (λ (ts : List Turn). length ts) is ∙ length-append front (t ∷ []) in omega arith

  same-outcome-refl : (p : Point A) → HaveSameOutcome programs p p
  same-outcome-refl p = refl

  complete-here : (turns : List Turn) (q : Point A) → length turns ≡ n → played programs root turns ≡ Some q → IsEnd programs q → IsAmong (HaveSameOutcome programs) more (order_of root ++ turns) q
  complete-here turns q e h done =
      let c = s.covers turns q e h in
      let by-reached = All-contains (IsReached programs root) level c.by (All-from_recursion (IsReached programs root) level s.here.reached) c.within in
      let here = numbered-played programs by-reached.turns root c.by s.numbered by-reached.leads in
      let there = numbered-played programs turns root q s.numbered h in
      let on = model-reached programs root by-reached.turns turns c.by q by-reached.leads h in
      let by-ended = end-like programs c.by q here there on c.related done in
      let among = among-merged (HaveSameOutcome programs) (HaveOthers programs) same-outcome-refl (ends_among programs level) ends more c.by after.ends (ends-rise programs root n level ends next more s.here s.found after)
      (filter-contains (λ p. is_nil (successors programs p)) level c.by c.within (ended-nil programs c.by by-ended)) in
      record {
        by = among.by;
        within = among.within;
        related = among.related ∙ outcome-same programs c.by q here there on c.related;
        first = le-trans (order_of among.by) (order_of c.by) (order_of root ++ turns) among.first c.first;
      }

  complete-by : (turns : List Turn) (q : Point A) → ((length turns < n) ⊎ (length turns ≡ n)) → played programs root turns ≡ Some q → IsEnd programs q → IsAmong (HaveSameOutcome programs) more (order_of root ++ turns) q
  complete-by turns q (inl less) h done =
      let old = s.complete turns q less h done in
      record { by = old.by; within = kept-merged (HaveSameOutcome programs) (HaveOthers programs) (ends_among programs level) ends more old.by after.ends old.within; related = old.related; first = old.first }
  complete-by turns q (inr e) h done = complete-here turns q e h done

  passed-next : (turns : List Turn) (q : Point A) → length turns < n + 1 → played programs root turns ≡ Some q → IsAmong (AreEquivalent programs) (earlier ++ level) (order_of root ++ turns) q
  passed-next turns q less h = elim (less-or (length turns) n less) [
    | inl below ↦ let a = s.passed turns q below h in record { by = a.by; within = Contains-append_left earlier level a.by a.within; related = a.related; first = a.first }
    | inr e ↦ let a = s.covers turns q e h in record { by = a.by; within = Contains-append_right earlier level a.by a.within; related = a.related; first = a.first }
  ]

  pub searched-next : IsSearchedTo programs root (n + 1) (earlier ++ level) next more
  searched-next = record {
    numbered = s.numbered;
    before = earlier-next programs root n earlier level s.before s.here;
    here = next-level programs root n level ends next more s.here s.found after;
    found = next-ended programs root n level ends next more s.here s.found after;
    passed = passed-next;
    covers = covers-next;
    complete = λ turns q less h done. complete-by turns q (less-or (length turns) n less) h done;
  }

-- if an order has a point, so has each front of it
front-none : {A : Type 0} (programs : Programs A) (p : Point A) (front back : List Turn) → played programs p front ≡ None → played programs p (front ++ back) ≡ None
front-none programs p [] back e = absurd cc
front-none {A} programs p (t ∷ front) back e = by-step (stepped programs p t) (λ q. front-none programs q front back) e
  where
    by-step : (o : Option (Point A)) → ((q : Point A) → played programs q front ≡ None → played programs q (front ++ back) ≡ None) → option_and_then (λ q. played programs q front) o ≡ None → option_and_then (λ q. played programs q (front ++ back)) o ≡ None
    by-step None later e = refl
    by-step (Some q) later e = later q e

none-some : {X : Type 0} {x : X} → None ≡ Some x → ⊥
none-some e = cc

-- no order continues from an empty level
beyond : {A : Type 0} (programs : Programs A) (root : Point A) (n : ℕ) (earlier ends : List (Point A)) → IsSearchedTo programs root n earlier [] ends → (front back : List Turn) (q : Point A) → length front ≡ n → played programs root (front ++ back) ≡ Some q → ⊥
beyond {A} programs root n earlier ends s front back q e h = by-front (played programs root front) refl
  where
    by-front : (o : Option (Point A)) → played programs root front ≡ o → ⊥
    by-front None f = none-some (sym (front-none programs root front back f) ∙ h)
    by-front (Some r) f = let c = s.covers front r e f in contains-nil c.by c.within

-- so that each order is shorter
shorter : {A : Type 0} (programs : Programs A) (root : Point A) (n : ℕ) (earlier ends : List (Point A)) → IsSearchedTo programs root n earlier [] ends → (turns : List Turn) (q : Point A) → played programs root turns ≡ Some q → length turns < n
shorter programs root n earlier ends s turns q h = elim (cases_lt (length turns) n) [
  | inl less ↦ less
  | inr long ↦ absurd (beyond programs root n earlier ends s (take n turns) (drop n turns) q (length-take-le n turns (omega arith)) (ap (played programs root) (take-append-drop n turns) ∙ h))
]

points-from : {A : Type 0} (programs : Programs A) (root : Point A) (n : ℕ) (points : List (Point A)) → AreEarlier programs root n points → ArePointsFrom programs root points
points-from programs root n points found = record {
  reached = All-from_recursion (IsReached programs root) points found.reached;
  distinct = λ i j d less within. pairs-at (AreApart programs) points i j d less within found.apart;
  in_order = λ i j d less within. pairs-at IsBefore points i j d less within found.rise;
}

ends-from : {A : Type 0} (programs : Programs A) (root : Point A) (n : ℕ) (ends : List (Point A)) → AreEnded programs root n ends → AreEndsFrom programs root ends
ends-from programs root n ends found = record {
  sound = All-from_recursion (IsEndReached programs root) ends found.sound;
  distinct = λ i j d less within. pairs-at (HaveOthers programs) ends i j d less within found.distinct;
  in_order = λ i j d less within. pairs-at IsBefore ends i j d less within found.in_order;
}

-- if a level is empty, all points and all ends were found
pub searched-points : {A : Type 0} (programs : Programs A) (root : Point A) (n : ℕ) (earlier ends : List (Point A)) → IsSearchedTo programs root n earlier [] ends → AreAllPointsFrom programs root earlier
searched-points programs root n earlier ends s = record {
  some = points-from programs root n earlier s.before;
  complete = λ turns q h. s.passed turns q (shorter programs root n earlier ends s turns q h) h;
}

pub searched-all : {A : Type 0} (programs : Programs A) (root : Point A) (n : ℕ) (earlier ends : List (Point A)) → IsSearchedTo programs root n earlier [] ends → AreAllEndsFrom programs root ends
searched-all programs root n earlier ends s = record {
  some = ends-from programs root n ends s.found;
  complete = λ turns q h done. s.complete turns q (shorter programs root n earlier ends s turns q h) h done;
}

-- the first points of a level
level-take : {A : Type 0} (programs : Programs A) (root : Point A) (n k : ℕ) (level : List (Point A)) → IsLevel programs root n level → IsLevel programs root n (take k level)
level-take {A} programs root n k level here =
    let split : level ≡ take k level ++ drop k level = sym (take-append-drop k level) in
    record {
      reached = all-left (IsReached programs root) (take k level) (drop k level) (subst (AllByRecursion (IsReached programs root)) split here.reached);
      long = all-left (HasLength (longer root n)) (take k level) (drop k level) (subst (AllByRecursion (HasLength (longer root n))) split here.long);
      rise = pairs-left IsBefore (take k level) (drop k level) (subst (Pairs IsBefore) split here.rise);
      apart = pairs-left (AreApart programs) (take k level) (drop k level) (subst (Pairs (AreApart programs)) split here.apart);
    }

-- what is found when a level is left in its midst
module _ {A : Type 0} (programs : Programs A) (root : Point A) (n k : ℕ) (earlier level ends next more : List (Point A)) (s : IsSearchedTo programs root n earlier level ends) (after : IsNextLevel programs (take k level) ends next more) where
  pub cut-points : ArePointsFrom programs root ((earlier ++ level) ++ next)
  cut-points =
      points-from programs root ((n + 1) + 1) ((earlier ++ level) ++ next)
      (earlier-next programs root (n + 1) (earlier ++ level) next (earlier-next programs root n earlier level s.before s.here)
      (next-level programs root n (take k level) ends next more (level-take programs root n k level s.here) s.found after))

  pub cut-ends : AreEndsFrom programs root more
  cut-ends = ends-from programs root (n + 1) more (next-ended programs root n (take k level) ends next more (level-take programs root n k level s.here) s.found after)

-- the root alone
pub root-points : {A : Type 0} (programs : Programs A) (root : Point A) → ArePointsFrom programs root (root ∷ [])
root-points programs root = points-from programs root 1 (root ∷ []) (earlier-next programs root 0 [] (root ∷ []) (none-earlier programs root) (root-level programs root))

pub no-ends : {A : Type 0} (programs : Programs A) (root : Point A) → AreEndsFrom programs root []
no-ends programs root = ends-from programs root 0 [] (none-ended programs root)
