-- Permits after one more item.
use Rattle.std.proofs.Common.{if◌then◌else◌, ◌≡◌, ℕ, Bool, true, false, ◌&&◌, ◌||◌, not, ◌==◌, List, [], ◌∷◌, ◌++◌, Option, Some, None, is_some, refl, sym, ap, ◌∙◌}
use Rattle.std.specs.List.{list_any}
use Rattle.std.proofs.lemmas.Bool.{and_parts, eqb-true, true≢false}
use Rattle.std.proofs.lemmas.List.Folds.{list_any-append}
use Rattle.acta_table.specs.declared.answer.Status.{Status}
use Rattle.acta_table.specs.declared.answer.Status.TheVariants.{NotBegun, InProgress, Committed, Aborted, Joined}
use Rattle.acta_table.specs.declared.event.Event.{Event}
use Rattle.acta_table.specs.declared.event.Event.TheVariants.{Begin, Spawn, Split, Join, Commit, Abort, Permit}
use Rattle.acta_table.specs.declared.event.Kept.{Kept}
use Rattle.acta_table.specs.declared.event.TxnId.{TxnId}
use Rattle.acta_table.specs.Events.{permits}
use Rattle.acta_sets.specs.Permits.{Permitted, none_permitted}
use Rattle.acta_axioms.specs.History.{starts, course, has_begun, has_ended, is_in_progress}
use Rattle.acta_axioms.specs.declared.course.Course.{Course}
use Rattle.acta_axioms.specs.Permits.{has_permitted, is_permitted}
use Rattle.acta_axioms.specs.Claims.{status_at}
use Rattle.acta_axioms.specs.inside.TxnRecords.{is_late}
use Rattle.acta_axioms.specs.inside.Walking.{permits_after, is_left}
use Rattle.acta_axioms.proofs.Growth.{ends, or_here, course-push}
use Rattle.acta_axioms.proofs.ValueGrowth.{eqb-turned}
use Rattle.acta_axioms.proofs.Statuses.{when_begun, when_aborted, when_joined, status_after, status_at-push, is_ended_status, has_ended-status}

or-false : (b : Bool) → (b || false) ≡ b
or-false true = refl
or-false false = refl

pub has_permitted-push : {A : Type 0} (h : List (Kept A)) (k : Kept A) (s t object : ℕ) → has_permitted (h ++ k ∷ []) s t object ≡ (has_permitted h s t object || permits s t object k.event)
has_permitted-push h k s t object =
    list_any-append (λ q. permits s t object q.event) h (k ∷ []) ∙ ap (λ b. has_permitted h s t object || b) (or-false (permits s t object k.event))

begun : (b : Bool) (s : Status) → is_ended_status (if b then when_begun s else s) ≡ (is_ended_status s || false)
begun false s = sym (or-false (is_ended_status s))
begun true NotBegun = refl
begun true InProgress = refl
begun true Committed = refl
begun true Aborted = refl
begun true Joined = refl

ended : (b : Bool) (end s : Status) → is_ended_status end ≡ true → is_ended_status (if b then end else s) ≡ (is_ended_status s || b)
ended false end s is = sym (or-false (is_ended_status s))
ended true end NotBegun is = is
ended true end InProgress is = is
ended true end Committed is = is
ended true end Aborted is = is
ended true end Joined is = is

aborted_ends : (s : Status) → is_ended_status (when_aborted s) ≡ true
aborted_ends NotBegun = refl
aborted_ends InProgress = refl
aborted_ends Committed = refl
aborted_ends Aborted = refl
aborted_ends Joined = refl

joined_ends : (s : Status) → is_ended_status (when_joined s) ≡ true
joined_ends NotBegun = refl
joined_ends InProgress = refl
joined_ends Committed = refl
joined_ends Aborted = refl
joined_ends Joined = refl

pub has_ended-push : {A : Type 0} (h : List (Kept A)) (k : Kept A) (t : ℕ) → has_ended (h ++ k ∷ []) t ≡ (has_ended h t || ends t k.event)
has_ended-push {A} h k t =
    has_ended-status (h ++ k ∷ []) t ∙ ap is_ended_status (status_at-push h k t) ∙ of_event k.event (status_at h t)
    ∙ ap (λ b. b || ends t k.event) (sym (has_ended-status h t))
  where
    of_event : (e : Event A) (s : Status) → is_ended_status (status_after t e s) ≡ (is_ended_status s || ends t e)
    of_event (Begin u class) s = begun (u.0 == t) s
    of_event (Spawn v u class) s = begun (u.0 == t) s
    of_event (Split v u class ops) s = begun (u.0 == t) s
    of_event (Join u v) s = ended (u.0 == t) (when_joined s) s (joined_ends s)
    of_event (Commit u) s = ended (u.0 == t) Committed s refl ∙ ap (λ b. is_ended_status s || b) (sym (or-false (u.0 == t)))
    of_event (Abort u) s = ended (u.0 == t) (when_aborted s) s (aborted_ends s) ∙ ap (λ b. is_ended_status s || b) (sym (or-false (u.0 == t)))
    of_event _ s = sym (or-false (is_ended_status s))

-- permits after a transaction ends: whether there is one, and whether either transaction has ended before or ends now
left_by : (p a b c d : Bool) → ((p || false) && not (a || c) && not (b || d)) ≡ (p && not a && not b && not c && not d)
left_by true true b c d = refl
left_by true false true true d = refl
left_by true false true false d = refl
left_by true false false true d = refl
left_by true false false false d = refl
left_by false a b c d = refl

-- permits after one more permit, unless it is late
with_one : (new p a b late : Bool) → (new ≡ true → late ≡ (a || b)) → ((p || new) && not (a || false) && not (b || false)) ≡ (if late then p && not a && not b else ((p && not a && not b) || new))
with_one false true true b true lateness = refl
with_one false true true b false lateness = refl
with_one false true false true true lateness = refl
with_one false true false true false lateness = refl
with_one false true false false true lateness = refl
with_one false true false false false lateness = refl
with_one false false a b true lateness = refl
with_one false false a b false lateness = refl
with_one true p a b late lateness =
    of p a b ∙ ap (λ l. if l then p && not a && not b else ((p && not a && not b) || true)) (sym (lateness refl))
  where
    of : (p a b : Bool) → ((p || true) && not (a || false) && not (b || false)) ≡ (if a || b then p && not a && not b else ((p && not a && not b) || true))
    of true true b = refl
    of true false true = refl
    of true false false = refl
    of false true b = refl
    of false false true = refl
    of false false false = refl

-- the permits that can still be in force
pub left-push : {A : Type 0} (h : List (Kept A)) (k : Kept A) (s t object : ℕ) → is_left (h ++ k ∷ []) s t object ≡ permits_after (is_late (has_ended h) k.event) k.event (is_left h) s t object
unfolding is_left
left-push {A} h k s t object =
    (λ i. has_permitted-push h k s t object i && not (has_ended-push h k s i) && not (has_ended-push h k t i)) ∙ of_event k.event
  where
    p : Bool
    p = has_permitted h s t object

    a : Bool
    a = has_ended h s

    b : Bool
    b = has_ended h t

    of_permit : (u v o : ℕ) → (let new = (u == s) && (v == t) && (o == object) in new ≡ true → (has_ended h u || has_ended h v) ≡ (a || b))
    of_permit u v o is =
        let two = and_parts ((u == s) && (v == t)) (o == object) is in
        let one = and_parts (u == s) (v == t) two.0 in
        λ i. has_ended h (eqb-true u s one.0 i) || has_ended h (eqb-true v t one.1 i)

    applied : (late : Bool) (f g : Permitted) → (if late then f s t object else g s t object) ≡ (if late then f else g) s t object
    applied true f g = refl
    applied false f g = refl

    of_event : (e : Event A) → ((p || permits s t object e) && not (a || ends s e) && not (b || ends t e)) ≡ permits_after (is_late (has_ended h) e) e (is_left h) s t object
    of_event (Permit u v o) =
        let new = (u.0 == s) && (v.0 == t) && (o.0 == object) in
        with_one new p a b (has_ended h u.0 || has_ended h v.0) (of_permit u.0 v.0 o.0)
        ∙ applied (has_ended h u.0 || has_ended h v.0) (is_left h) (λ g w other. is_left h g w other || ((u.0 == g) && (v.0 == w) && (o.0 == other)))
    of_event (Join u v) = (λ i. (p || false) && not (a || eqb-turned u.0 s i) && not (b || eqb-turned u.0 t i)) ∙ left_by p a b (s == u.0) (t == u.0)
    of_event (Commit u) = (λ i. (p || false) && not (a || (or-false (u.0 == s) ∙ eqb-turned u.0 s) i) && not (b || (or-false (u.0 == t) ∙ eqb-turned u.0 t) i)) ∙ left_by p a b (s == u.0) (t == u.0)
    of_event (Abort u) = (λ i. (p || false) && not (a || (or-false (u.0 == s) ∙ eqb-turned u.0 s) i) && not (b || (or-false (u.0 == t) ∙ eqb-turned u.0 t) i)) ∙ left_by p a b (s == u.0) (t == u.0)
    of_event _ = λ i. or-false p i && not (or-false a i) && not (or-false b i)

-- those in force are those both of whose transactions have begun
pub left-counts : {A : Type 0} (h : List (Kept A)) (s t object : ℕ) → (has_begun h s && has_begun h t && is_left h s t object) ≡ is_permitted h s t object
unfolding is_left is_permitted
left-counts h s t object = of (has_begun h s) (has_begun h t) (has_permitted h s t object) (has_ended h s) (has_ended h t)
  where
    of : (x y p a b : Bool) → (x && y && (p && not a && not b)) ≡ ((x && not a) && (y && not b) && p)
    of true true true true b = refl
    of true true true false true = refl
    of true true true false false = refl
    of true true false true b = refl
    of true true false false true = refl
    of true true false false false = refl
    of true false p true b = refl
    of true false p false b = refl
    of false y p a b = refl

-- there are no permits at the start
pub none-left : (A : Type 0) (s t object : ℕ) → none_permitted s t object ≡ is_left {A = A} [] s t object
unfolding is_left
none-left A s t object = refl

-- without a permit event there is no permit in force
pub unpermitted-counts : {A : Type 0} (h : List (Kept A)) (s t object : ℕ) → has_permitted h s t object ≡ false → is_permitted h s t object ≡ false
unfolding is_permitted
unpermitted-counts h s t object none = ap (λ b. is_in_progress h s && is_in_progress h t && b) none ∙ and-false (is_in_progress h s && is_in_progress h t)
  where
    and-false : (b : Bool) → (b && false) ≡ false
    and-false true = refl
    and-false false = refl

-- permits in force are those that can still be, if both transactions have begun
counts-left : {A : Type 0} (h : List (Kept A)) (s t object : ℕ) → (has_permitted h s t object ≡ true → (has_begun h s ≡ true) × (has_begun h t ≡ true)) → is_permitted h s t object ≡ is_left h s t object
unfolding is_left
counts-left h s t object begun = sym (left-counts h s t object) ∙ of (has_permitted h s t object) begun
  where
    rest : Bool → Bool
    rest p = p && not (has_ended h s) && not (has_ended h t)

    nothing : (x y : Bool) → (x && y && (false && not (has_ended h s) && not (has_ended h t))) ≡ (false && not (has_ended h s) && not (has_ended h t))
    nothing true true = refl
    nothing true false = refl
    nothing false y = refl

    of : (p : Bool) → (p ≡ true → (has_begun h s ≡ true) × (has_begun h t ≡ true)) → (has_begun h s && has_begun h t && rest p) ≡ rest p
    of true both = λ i. (both refl).0 i && (both refl).1 i && rest true
    of false both = nothing (has_begun h s) (has_begun h t)

-- so permits in force are updated like those that can still be
pub permitted-push : {A : Type 0} (h : List (Kept A)) (k : Kept A) (p : Permitted) → ((s t object : ℕ) → p s t object ≡ is_permitted h s t object)
    → ((s t object : ℕ) → has_permitted h s t object ≡ true → (has_begun h s ≡ true) × (has_begun h t ≡ true))
    → ((s t object : ℕ) → has_permitted (h ++ k ∷ []) s t object ≡ true → (has_begun (h ++ k ∷ []) s ≡ true) × (has_begun (h ++ k ∷ []) t ≡ true))
    → is_late (has_ended h) k.event ≡ false → (s t object : ℕ) → permits_after false k.event p s t object ≡ is_permitted (h ++ k ∷ []) s t object
permitted-push h k p are begun begun_later late s t object =
    (λ i. permits_after (sym late i) k.event (λ g u o. (are g u o ∙ counts-left h g u o (begun g u o)) i) s t object)
    ∙ sym (left-push h k s t object)
    ∙ sym (counts-left (h ++ k ∷ []) s t object (begun_later s t object))

begun_stays : {A : Type 0} (h : List (Kept A)) (k : Kept A) (t : ℕ) → has_begun h t ≡ true → has_begun (h ++ k ∷ []) t ≡ true
begun_stays h k t is = ap (λ (c : Course). is_some c.start) (course-push h k t) ∙ of (course h t).start is
  where
    of : (s : Option ℕ) → is_some s ≡ true → is_some (or_here h s (starts t k.event)) ≡ true
    of (Some n) e = refl
    of None e = absurd (true≢false (sym e))

-- both transactions of every permit have begun, after one more item
pub permits_begun-push : {A : Type 0} (h : List (Kept A)) (k : Kept A) → ((s t object : ℕ) → permits s t object k.event ≡ true → (has_begun h s ≡ true) × (has_begun h t ≡ true))
    → ((s t object : ℕ) → has_permitted h s t object ≡ true → (has_begun h s ≡ true) × (has_begun h t ≡ true))
    → (s t object : ℕ) → has_permitted (h ++ k ∷ []) s t object ≡ true → (has_begun (h ++ k ∷ []) s ≡ true) × (has_begun (h ++ k ∷ []) t ≡ true)
permits_begun-push h k new begun s t object is =
    of (has_permitted h s t object) (begun s t object) (new s t object) (sym (has_permitted-push h k s t object) ∙ is)
  where
    later : (has_begun h s ≡ true) × (has_begun h t ≡ true) → (has_begun (h ++ k ∷ []) s ≡ true) × (has_begun (h ++ k ∷ []) t ≡ true)
    later both = (begun_stays h k s both.0, begun_stays h k t both.1)

    of : (b : Bool) → (b ≡ true → (has_begun h s ≡ true) × (has_begun h t ≡ true)) → (permits s t object k.event ≡ true → (has_begun h s ≡ true) × (has_begun h t ≡ true)) → (b || permits s t object k.event) ≡ true
        → (has_begun (h ++ k ∷ []) s ≡ true) × (has_begun (h ++ k ∷ []) t ≡ true)
    of true old here e = later (old refl)
    of false old here e = later (here e)

-- no permit is in force in the empty history
pub none-permitted : (A : Type 0) (s t object : ℕ) → none_permitted s t object ≡ is_permitted {A = A} [] s t object
unfolding is_permitted
none-permitted A s t object = refl

-- of the transactions whose permits can still be in force, those whose permits are
pub all-permitters : {A : Type 0} (h : List (Kept A)) (u t object : ℕ) (left : List TxnId) → list_any (λ s. s.0 == u) left ≡ is_left h u t object
    → list_any (λ s. (s.0 == u) && is_permitted h s.0 t object) left ≡ is_permitted h u t object
all-permitters h u t object left are =
    only left ∙ ap (λ b. b && is_permitted h u t object) are ∙ counted
  where
    absorbed : (a b : Bool) → (a || (b && a)) ≡ a
    absorbed true b = refl
    absorbed false true = refl
    absorbed false false = refl

    only : (ss : List TxnId) → list_any (λ s. (s.0 == u) && is_permitted h s.0 t object) ss ≡ (list_any (λ s. s.0 == u) ss && is_permitted h u t object)
    only [] = refl
    only (s ∷ ss) = of (s.0 == u) refl (only ss)
      where
        of : (b : Bool) → (s.0 == u) ≡ b → list_any (λ x. (x.0 == u) && is_permitted h x.0 t object) ss ≡ (list_any (λ x. x.0 == u) ss && is_permitted h u t object)
            → ((b && is_permitted h s.0 t object) || list_any (λ x. (x.0 == u) && is_permitted h x.0 t object) ss) ≡ ((b || list_any (λ x. x.0 == u) ss) && is_permitted h u t object)
        of true is later = (λ i. is_permitted h (eqb-true s.0 u is i) t object || later i) ∙ absorbed (is_permitted h u t object) (list_any (λ x. x.0 == u) ss)
        of false is later = later

    within : (x y l : Bool) → (l && (x && y && l)) ≡ (x && y && l)
    within true true true = refl
    within true true false = refl
    within true false true = refl
    within true false false = refl
    within false y true = refl
    within false y false = refl

    counted : (is_left h u t object && is_permitted h u t object) ≡ is_permitted h u t object
    counted =
        ap (λ b. is_left h u t object && b) (sym (left-counts h u t object)) ∙ within (has_begun h u) (has_begun h t) (is_left h u t object) ∙ left-counts h u t object
