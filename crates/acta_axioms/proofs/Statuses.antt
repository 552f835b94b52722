-- The status of a transaction when one kept item is appended, and what the status implies.
use Rattle.std.proofs.Common.{◌≡◌, ℕ, ◌==◌, Bool, true, false, ◌&&◌, not, if◌then◌else◌, List, [], ◌∷◌, ◌++◌, Option, Some, None, is_some, refl, ap, ◌∙◌}
use Rattle.std.proofs.lemmas.Bool.{true≢false}
use Rattle.acta_table.specs.declared.answer.Status.{Status}
use Rattle.acta_table.specs.declared.answer.Status.TheVariants.{NotBegun, InProgress, Committed, Aborted, Joined}
use Rattle.acta_table.specs.declared.event.Event.{Event}
use Rattle.acta_table.specs.declared.event.Event.TheVariants.{Begin, Spawn, Split, Join, Commit, Abort}
use Rattle.acta_table.specs.declared.event.Kept.{Kept}
use Rattle.acta_axioms.specs.History.{starts, commits, aborts, joins, course, least, has_begun, has_ended, is_in_progress}
use Rattle.acta_axioms.specs.Claims.{course_status, status_at}
use Rattle.acta_axioms.proofs.Growth.{or_here, or_here-false, course-push}

-- a status after a begin, spawn or split of the transaction, after an abort, and after a join; after a commit it is
-- Committed
abbrev pub when_begun : Status → Status
when_begun NotBegun = InProgress
when_begun s = s

abbrev pub when_aborted : Status → Status
when_aborted Committed = Committed
when_aborted s = Aborted

abbrev pub when_joined : Status → Status
when_joined Committed = Committed
when_joined Aborted = Aborted
when_joined s = Joined

-- the status of t after an event
abbrev pub status_after : {A : Type 0} → ℕ → Event A → Status → Status
status_after t (Begin u class) s = if u.0 == t then when_begun s else s
status_after t (Spawn v u class) s = if u.0 == t then when_begun s else s
status_after t (Split v u class ops) s = if u.0 == t then when_begun s else s
status_after t (Join u v) s = if u.0 == t then when_joined s else s
status_after t (Commit u) s = if u.0 == t then Committed else s
status_after t (Abort u) s = if u.0 == t then when_aborted s else s
status_after t _ s = s

-- the status of a course that gets no new place, and of one that gets a start, a join, a commit or an abort
as_it_was : {A : Type 0} (h : List (Kept A)) (s c a j : Option ℕ) →
    course_status (record { start = or_here h s false; commit = or_here h c false; abort = or_here h a false; join = or_here h j false }) ≡ course_status (record { start = s; commit = c; abort = a; join = j })
as_it_was h s c a j = λ i. course_status (record { start = or_here-false h s i; commit = or_here-false h c i; abort = or_here-false h a i; join = or_here-false h j i })

begun_in : {A : Type 0} (h : List (Kept A)) (s c a j : Option ℕ) (b : Bool) →
    course_status (record { start = or_here h s b; commit = or_here h c false; abort = or_here h a false; join = or_here h j false }) ≡ (if b then when_begun (course_status (record { start = s; commit = c; abort = a; join = j })) else course_status (record { start = s; commit = c; abort = a; join = j }))
begun_in h s (Some i) a j true = refl
begun_in h s None (Some i) j true = refl
begun_in h s None None (Some i) true = refl
begun_in h None None None None true = refl
begun_in h (Some i) None None None true = refl
begun_in h s c a j false = as_it_was h s c a j

joined_in : {A : Type 0} (h : List (Kept A)) (s c a j : Option ℕ) (b : Bool) →
    course_status (record { start = or_here h s false; commit = or_here h c false; abort = or_here h a false; join = or_here h j b }) ≡ (if b then when_joined (course_status (record { start = s; commit = c; abort = a; join = j })) else course_status (record { start = s; commit = c; abort = a; join = j }))
joined_in h s (Some i) a j true = refl
joined_in h s None (Some i) j true = refl
joined_in h s None None (Some i) true = refl
joined_in h None None None None true = refl
joined_in h (Some i) None None None true = refl
joined_in h s c a j false = as_it_was h s c a j

committed_in : {A : Type 0} (h : List (Kept A)) (s c a j : Option ℕ) (b : Bool) →
    course_status (record { start = or_here h s false; commit = or_here h c b; abort = or_here h a false; join = or_here h j false }) ≡ (if b then Committed else course_status (record { start = s; commit = c; abort = a; join = j }))
committed_in h s (Some i) a j true = refl
committed_in h s None a j true = refl
committed_in h s c a j false = as_it_was h s c a j

aborted_in : {A : Type 0} (h : List (Kept A)) (s c a j : Option ℕ) (b : Bool) →
    course_status (record { start = or_here h s false; commit = or_here h c false; abort = or_here h a b; join = or_here h j false }) ≡ (if b then when_aborted (course_status (record { start = s; commit = c; abort = a; join = j })) else course_status (record { start = s; commit = c; abort = a; join = j }))
aborted_in h s (Some i) a j true = refl
aborted_in h s None (Some i) j true = refl
aborted_in h s None None (Some i) true = refl
aborted_in h None None None None true = refl
aborted_in h (Some i) None None None true = refl
aborted_in h s c a j false = as_it_was h s c a j

pub status_at-push : {A : Type 0} (h : List (Kept A)) (k : Kept A) (t : ℕ) → status_at (h ++ k ∷ []) t ≡ status_after t k.event (status_at h t)
status_at-push {A} h k t = ap course_status (course-push h k t) ∙ of_event k.event
  where
    of_event : (e : Event A) → course_status (record { start = or_here h (course h t).start (starts t e); commit = or_here h (course h t).commit (commits t e); abort = or_here h (course h t).abort (aborts t e); join = or_here h (course h t).join (joins t e) }) ≡ status_after t e (status_at h t)
    of_event (Begin u class) = begun_in h (course h t).start (course h t).commit (course h t).abort (course h t).join (u.0 == t)
    of_event (Spawn v u class) = begun_in h (course h t).start (course h t).commit (course h t).abort (course h t).join (u.0 == t)
    of_event (Split v u class ops) = begun_in h (course h t).start (course h t).commit (course h t).abort (course h t).join (u.0 == t)
    of_event (Join u v) = joined_in h (course h t).start (course h t).commit (course h t).abort (course h t).join (u.0 == t)
    of_event (Commit u) = committed_in h (course h t).start (course h t).commit (course h t).abort (course h t).join (u.0 == t)
    of_event (Abort u) = aborted_in h (course h t).start (course h t).commit (course h t).abort (course h t).join (u.0 == t)
    of_event _ = as_it_was h (course h t).start (course h t).commit (course h t).abort (course h t).join

-- whether this is the status of a transaction in progress
abbrev pub is_under_way : Status → Bool
is_under_way InProgress = true
is_under_way _ = false

-- a transaction is in progress exactly if its status is `InProgress`
pub in_progress-status : {A : Type 0} (h : List (Kept A)) (t : ℕ) → is_in_progress h t ≡ is_under_way (status_at h t)
in_progress-status h t = of_course (course h t).start (course h t).commit (course h t).abort (course h t).join
  where
    of_course : (s c a j : Option ℕ) → (is_some s && not (is_some (least c (least a j)))) ≡ is_under_way (course_status (record { start = s; commit = c; abort = a; join = j }))
    of_course None None None None = refl
    of_course None None None (Some l) = refl
    of_course None None (Some l) j = refl
    of_course None (Some l) a j = refl
    of_course (Some i) None None None = refl
    of_course (Some i) None None (Some l) = refl
    of_course (Some i) None (Some l) j = refl
    of_course (Some i) (Some l) a j = refl

-- the start and the end of a transaction, by its status; one that has ended may lack a start
abbrev pub is_ended_status : Status → Bool
is_ended_status Committed = true
is_ended_status Aborted = true
is_ended_status Joined = true
is_ended_status _ = false

pub has_ended-status : {A : Type 0} (h : List (Kept A)) (t : ℕ) → has_ended h t ≡ is_ended_status (status_at h t)
has_ended-status h t = of_course (course h t).start (course h t).commit (course h t).abort (course h t).join
  where
    of_course : (s c a j : Option ℕ) → is_some (least c (least a j)) ≡ is_ended_status (course_status (record { start = s; commit = c; abort = a; join = j }))
    of_course None None None None = refl
    of_course (Some i) None None None = refl
    of_course s None None (Some l) = refl
    of_course s None (Some l) j = refl
    of_course s (Some l) a j = refl

pub has_begun-status : {A : Type 0} (h : List (Kept A)) (t : ℕ) → is_ended_status (status_at h t) ≡ false → has_begun h t ≡ is_under_way (status_at h t)
has_begun-status h t open_still = of_course (course h t).start (course h t).commit (course h t).abort (course h t).join open_still
  where
    of_course : (s c a j : Option ℕ) → is_ended_status (course_status (record { start = s; commit = c; abort = a; join = j })) ≡ false → is_some s ≡ is_under_way (course_status (record { start = s; commit = c; abort = a; join = j }))
    of_course None None None None e = refl
    of_course (Some i) None None None e = refl
    of_course s None None (Some l) e = absurd (true≢false e)
    of_course s None (Some l) j e = absurd (true≢false e)
    of_course s (Some l) a j e = absurd (true≢false e)
