-- The effect of a start, a commit, an abort or a join on the formula of one edge.
use Rattle.std.proofs.Common.{◌≡◌, ℕ, ◌+◌, Bool, true, false, ◌&&◌, ◌||◌, not, Option, Some, None, is_some, is_none, refl, sym, ap, subst, ◌∙◌, arith, if◌then◌else◌}
use Rattle.std.proofs.lemmas.Bool.{lt-ltb, le-ltb}
use Rattle.acta_table.specs.declared.answer.Status.{Status}
use Rattle.acta_table.specs.declared.answer.Status.TheVariants.{NotBegun, InProgress}
use Rattle.acta_table.specs.declared.dep.Dep.{Dep}
use Rattle.acta_table.specs.declared.dep.Dep.TheVariants.{Cd, Wd, Td, Bd, Sd, Bcd, Bad, Wcd}
use Rattle.acta_table.specs.declared.dep.Missing.{Missing}
use Rattle.acta_table.specs.declared.dep.Missing.TheVariants.{Abort}
use Rattle.acta_table.specs.Dependencies.{is_begin_kind, is_commit, is_abort}
use Rattle.acta_deps.specs.Debts.{debt_by}
use Rattle.acta_deps.specs.Dependencies.{awaits_begin, awaits_end, awaits_commit, awaits_abort, ends_after, committed_first, began_first, cannot_pay_commit, cannot_pay_abort}
use Rattle.acta_axioms.specs.declared.course.Course.{Course}
use Rattle.acta_axioms.specs.History.{end}
use Rattle.acta_axioms.specs.Formulas.{is_before, is_false, is_broken, debt}
use Rattle.acta_axioms.specs.Claims.{course_status, is_orderly}
use Rattle.acta_axioms.specs.inside.Within.{IsWithin}

-- a course with one more event, at this place
abbrev pub begun : ℕ → Course → Course
begun p c = record c { start = Some p }

abbrev pub committed : ℕ → Course → Course
committed p c = record c { commit = Some p }

abbrev pub aborted : ℕ → Course → Course
aborted p c = record c { abort = Some p }

abbrev pub joined : ℕ → Course → Course
joined p c = record c { join = Some p }

-- the five shapes of an orderly course
data Shape : Type 0 where
  Fresh : Shape
  Begun : ℕ → Shape
  Done : ℕ → ℕ → Shape
  Undone : ℕ → ℕ → Shape
  Merged : ℕ → ℕ → Shape

abbrev course_of : Shape → Course
course_of Fresh = record { start = None; commit = None; abort = None; join = None }
course_of (Begun a) = record { start = Some a; commit = None; abort = None; join = None }
course_of (Done a b) = record { start = Some a; commit = Some b; abort = None; join = None }
course_of (Undone a b) = record { start = Some a; commit = None; abort = Some b; join = None }
course_of (Merged a b) = record { start = Some a; commit = None; abort = None; join = Some b }

shape : (c : Course) → is_orderly c ≡ true → (s : Shape) × (course_of s ≡ c)
shape c = of c.start c.commit c.abort c.join
  where
    of : (s d a j : Option ℕ) → is_orderly (record { start = s; commit = d; abort = a; join = j }) ≡ true → (x : Shape) × (course_of x ≡ record { start = s; commit = d; abort = a; join = j })
    of None None None None e = (Fresh, refl)
    of None None None (Some b) e = cc
    of None None (Some b) j e = cc
    of None (Some b) a j e = cc
    of (Some a) None None None e = (Begun a, refl)
    of (Some a) (Some b) None None e = (Done a b, refl)
    of (Some a) None (Some b) None e = (Undone a b, refl)
    of (Some a) None None (Some b) e = (Merged a b, refl)
    of (Some a) (Some b) (Some d) j e = cc
    of (Some a) (Some b) None (Some d) e = cc
    of (Some a) None (Some b) (Some d) e = cc

-- a property of two shapes is a property of courses with these shapes
of_shapes : (P : Course → Course → Type 0) {cj ci : Course} (j i : Shape) → course_of j ≡ cj → course_of i ≡ ci → P (course_of j) (course_of i) → P cj ci
of_shapes P {cj} j i is_j is_i h = subst (P cj) is_i (subst (λ c. P c (course_of i)) is_j h)

fresh_shape : (s : Shape) → course_status (course_of s) ≡ NotBegun → s ≡ Fresh
fresh_shape Fresh e = refl
fresh_shape (Begun a) e = cc
fresh_shape (Done a b) e = cc
fresh_shape (Undone a b) e = cc
fresh_shape (Merged a b) e = cc

fresh_course : (c : Course) → is_orderly c ≡ true → course_status c ≡ NotBegun → course_of Fresh ≡ c
fresh_course c orderly fresh =
    let s = shape c orderly in
    sym (ap course_of (fresh_shape s.0 (ap course_status s.1 ∙ fresh))) ∙ s.1

begun_shape : (s : Shape) → course_status (course_of s) ≡ InProgress → (a : ℕ) × (s ≡ Begun a)
begun_shape Fresh e = cc
begun_shape (Begun a) e = (a, refl)
begun_shape (Done a b) e = cc
begun_shape (Undone a b) e = cc
begun_shape (Merged a b) e = cc

begun_course : (c : Course) → is_orderly c ≡ true → course_status c ≡ InProgress → (a : ℕ) × (course_of (Begun a) ≡ c)
begun_course c orderly on =
    let s = shape c orderly in
    let b = begun_shape s.0 (ap course_status s.1 ∙ on) in
    (b.0, sym (ap course_of b.1) ∙ s.1)

-- whether a start, a commit or an abort of j breaks the formula of an edge, given the status of i
abbrev bars_begin : Dep → Status → Bool
bars_begin kind i = awaits_begin kind i || awaits_end kind i || awaits_commit kind i || awaits_abort kind i

abbrev bars_commit : Dep → Status → Bool
bars_commit kind i = ends_after kind i || is_abort (debt_by kind i InProgress)

abbrev bars_abort : Dep → Status → Bool
bars_abort kind i = ends_after kind i || is_commit (debt_by kind i InProgress)

-- whether j has a debt, given the status of i: after a join it could not be settled
abbrev bars_join : Dep → Status → Bool
bars_join kind i = is_abort (debt_by kind i InProgress) || is_commit (debt_by kind i InProgress)

-- whether a commit of i breaks the formula, given the status of j
abbrev is_late_commit : Dep → Status → Bool
is_late_commit kind j = committed_first kind j || began_first kind j || cannot_pay_commit kind j

begin_j-at : (kind : Dep) (n : ℕ) (i : Shape) → IsWithin n (course_of i) → is_broken kind (begun (n + 1) (course_of Fresh)) (course_of i) ≡ bars_begin kind (course_status (course_of i))
unfolding is_false
begin_j-at Bd n (Begun a) w = rw (lt-ltb a (n + 1) (omega (arith, w.start))) refl
begin_j-at Bd n (Done a b) w = rw (lt-ltb a (n + 1) (omega (arith, w.start))) refl
begin_j-at Bd n (Undone a b) w = rw (lt-ltb a (n + 1) (omega (arith, w.start))) refl
begin_j-at Bd n (Merged a b) w = rw (lt-ltb a (n + 1) (omega (arith, w.start))) refl
begin_j-at Sd n (Done a b) w = rw (lt-ltb b (n + 1) (omega (arith, w.commit))) refl
begin_j-at Sd n (Undone a b) w = rw (lt-ltb b (n + 1) (omega (arith, w.abort))) refl
begin_j-at Bcd n (Done a b) w = rw (lt-ltb b (n + 1) (omega (arith, w.commit))) refl
begin_j-at Bad n (Undone a b) w = rw (lt-ltb b (n + 1) (omega (arith, w.abort))) refl
begin_j-at Wcd n (Done a b) w = rw (lt-ltb b (n + 1) (omega (arith, w.commit))) refl
begin_j-at kind n Fresh w = refl
begin_j-at kind n i w = refl

-- j starts
pub begin-j : (kind : Dep) (n : ℕ) (cj ci : Course) → is_orderly cj ≡ true → is_orderly ci ≡ true → IsWithin n ci → course_status cj ≡ NotBegun
    → is_broken kind (begun (n + 1) cj) ci ≡ (awaits_begin kind (course_status ci) || awaits_end kind (course_status ci) || awaits_commit kind (course_status ci) || awaits_abort kind (course_status ci))
begin-j kind n cj ci orderly_j orderly_i within fresh =
    let i = shape ci orderly_i in
    of_shapes (λ j i. IsWithin n i → is_broken kind (begun (n + 1) j) i ≡ bars_begin kind (course_status i))
    Fresh i.0 (fresh_course cj orderly_j fresh) i.1 (begin_j-at kind n i.0) within

begin_i-at : (kind : Dep) (n : ℕ) (j : Shape) → is_broken kind (course_of j) (course_of Fresh) ≡ false → is_broken kind (course_of j) (begun (n + 1) (course_of Fresh)) ≡ false
unfolding is_false
begin_i-at Bd n Fresh e = refl
begin_i-at Bd n j e = cc
begin_i-at kind n j e = e

-- i starts
pub begin-i : (kind : Dep) (n : ℕ) (cj ci : Course) → is_orderly cj ≡ true → is_orderly ci ≡ true → course_status ci ≡ NotBegun
    → is_broken kind cj ci ≡ false → is_broken kind cj (begun (n + 1) ci) ≡ false
begin-i kind n cj ci orderly_j orderly_i fresh =
    let j = shape cj orderly_j in
    of_shapes (λ j i. is_broken kind j i ≡ false → is_broken kind j (begun (n + 1) i) ≡ false)
    j.0 Fresh j.1 (fresh_course ci orderly_i fresh) (begin_i-at kind n j.0)

-- for a kind without debts it makes no difference whether j has ended
whether_ended : (b c d : Bool) → (b && is_none {T = Missing} (if b && c then None else None)) ≡ false → (b && is_none {T = Missing} (if b && d then None else None)) ≡ false
whether_ended true true d e = cc
whether_ended true false d e = cc
whether_ended false c d e = refl

commit_j-at : (kind : Dep) (n a : ℕ) (i : Shape) → IsWithin n (course_of i) → is_broken kind (course_of (Begun a)) (course_of i) ≡ false
    → is_broken kind (committed (n + 1) (course_of (Begun a))) (course_of i) ≡ bars_commit kind (course_status (course_of i))
unfolding is_false
commit_j-at Cd n a (Done x y) w e = rw (lt-ltb y (n + 1) (omega (arith, w.commit))) refl
commit_j-at Wd n a (Undone x y) w e = rw (le-ltb (n + 1) y (omega (arith, w.abort))) refl
commit_j-at Td n a (Done x y) w e = rw (lt-ltb y (n + 1) (omega (arith, w.commit))) refl
commit_j-at Td n a (Undone x y) w e = rw (lt-ltb y (n + 1) (omega (arith, w.abort))) refl
commit_j-at Bd n a i w e = whether_ended (is_false Bd (course_of (Begun a)) (course_of i)) true false e
commit_j-at Sd n a i w e = whether_ended (is_false Sd (course_of (Begun a)) (course_of i)) true false e
commit_j-at Bcd n a i w e = whether_ended (is_false Bcd (course_of (Begun a)) (course_of i)) true false e
commit_j-at Bad n a i w e = whether_ended (is_false Bad (course_of (Begun a)) (course_of i)) true false e
commit_j-at Wcd n a i w e = whether_ended (is_false Wcd (course_of (Begun a)) (course_of i)) true false e
commit_j-at kind n a Fresh w e = refl
commit_j-at kind n a i w e = refl

-- j commits
pub commit-j : (kind : Dep) (n : ℕ) (cj ci : Course) → is_orderly cj ≡ true → is_orderly ci ≡ true → IsWithin n ci → course_status cj ≡ InProgress
    → is_broken kind cj ci ≡ false → is_broken kind (committed (n + 1) cj) ci ≡ (ends_after kind (course_status ci) || is_abort (debt_by kind (course_status ci) InProgress))
commit-j kind n cj ci orderly_j orderly_i within on =
    let j = begun_course cj orderly_j on in
    let i = shape ci orderly_i in
    of_shapes (λ j i. IsWithin n i → is_broken kind j i ≡ false → is_broken kind (committed (n + 1) j) i ≡ bars_commit kind (course_status i))
    (Begun j.0) i.0 j.1 i.1 (commit_j-at kind n j.0 i.0) within

abort_j-at : (kind : Dep) (n a : ℕ) (i : Shape) → IsWithin n (course_of i) → is_broken kind (course_of (Begun a)) (course_of i) ≡ false
    → is_broken kind (aborted (n + 1) (course_of (Begun a))) (course_of i) ≡ bars_abort kind (course_status (course_of i))
unfolding is_false
abort_j-at Td n a (Done x y) w e = rw (lt-ltb y (n + 1) (omega (arith, w.commit))) refl
abort_j-at Td n a (Undone x y) w e = rw (lt-ltb y (n + 1) (omega (arith, w.abort))) refl
abort_j-at Bd n a i w e = whether_ended (is_false Bd (course_of (Begun a)) (course_of i)) true false e
abort_j-at Sd n a i w e = whether_ended (is_false Sd (course_of (Begun a)) (course_of i)) true false e
abort_j-at Bcd n a i w e = whether_ended (is_false Bcd (course_of (Begun a)) (course_of i)) true false e
abort_j-at Bad n a i w e = whether_ended (is_false Bad (course_of (Begun a)) (course_of i)) true false e
abort_j-at Wcd n a i w e = whether_ended (is_false Wcd (course_of (Begun a)) (course_of i)) true false e
abort_j-at kind n a Fresh w e = refl
abort_j-at kind n a i w e = refl

-- j aborts
pub abort-j : (kind : Dep) (n : ℕ) (cj ci : Course) → is_orderly cj ≡ true → is_orderly ci ≡ true → IsWithin n ci → course_status cj ≡ InProgress
    → is_broken kind cj ci ≡ false → is_broken kind (aborted (n + 1) cj) ci ≡ (ends_after kind (course_status ci) || is_commit (debt_by kind (course_status ci) InProgress))
abort-j kind n cj ci orderly_j orderly_i within on =
    let j = begun_course cj orderly_j on in
    let i = shape ci orderly_i in
    of_shapes (λ j i. IsWithin n i → is_broken kind j i ≡ false → is_broken kind (aborted (n + 1) j) i ≡ bars_abort kind (course_status i))
    (Begun j.0) i.0 j.1 i.1 (abort_j-at kind n j.0 i.0) within

commit_i-at : (kind : Dep) (n x : ℕ) (j : Shape) → IsWithin n (course_of j) → is_broken kind (course_of j) (course_of (Begun x)) ≡ false
    → is_broken kind (course_of j) (committed (n + 1) (course_of (Begun x))) ≡ is_late_commit kind (course_status (course_of j))
unfolding is_false
commit_i-at Cd n x (Done a b) w e = rw (le-ltb (n + 1) b (omega (arith, w.commit))) refl
commit_i-at Td n x (Done a b) w e = cc
commit_i-at Td n x (Undone a b) w e = cc
commit_i-at Bd n x j w e = e
commit_i-at Sd n x Fresh w e = refl
commit_i-at Sd n x j w e = cc
commit_i-at Bcd n x Fresh w e = refl
commit_i-at Bcd n x j w e = cc
commit_i-at Bad n x j w e = e
commit_i-at Wcd n x (Begun a) w e = rw (le-ltb (n + 1) a (omega (arith, w.start))) refl
commit_i-at Wcd n x (Done a b) w e = rw (le-ltb (n + 1) a (omega (arith, w.start))) refl
commit_i-at Wcd n x (Undone a b) w e = rw (le-ltb (n + 1) a (omega (arith, w.start))) refl
commit_i-at Wcd n x (Merged a b) w e = rw (le-ltb (n + 1) a (omega (arith, w.start))) refl
commit_i-at kind n x Fresh w e = refl
commit_i-at kind n x j w e = refl

-- i commits
pub commit-i : (kind : Dep) (n : ℕ) (cj ci : Course) → is_orderly cj ≡ true → is_orderly ci ≡ true → IsWithin n cj → course_status ci ≡ InProgress
    → is_broken kind cj ci ≡ false → is_broken kind cj (committed (n + 1) ci) ≡ (committed_first kind (course_status cj) || began_first kind (course_status cj) || cannot_pay_commit kind (course_status cj))
commit-i kind n cj ci orderly_j orderly_i within on =
    let j = shape cj orderly_j in
    let i = begun_course ci orderly_i on in
    of_shapes (λ j i. IsWithin n j → is_broken kind j i ≡ false → is_broken kind j (committed (n + 1) i) ≡ is_late_commit kind (course_status j))
    j.0 (Begun i.0) j.1 i.1 (commit_i-at kind n i.0 j.0) within

abort_i-at : (kind : Dep) (n x : ℕ) (j : Shape) → IsWithin n (course_of j) → is_broken kind (course_of j) (course_of (Begun x)) ≡ false
    → is_broken kind (course_of j) (aborted (n + 1) (course_of (Begun x))) ≡ cannot_pay_abort kind (course_status (course_of j))
unfolding is_false
abort_i-at Wd n x (Done a b) w e = rw (lt-ltb b (n + 1) (omega (arith, w.commit))) refl
abort_i-at Td n x (Done a b) w e = cc
abort_i-at Td n x (Undone a b) w e = cc
abort_i-at Bd n x j w e = e
abort_i-at Sd n x Fresh w e = refl
abort_i-at Sd n x j w e = cc
abort_i-at Bcd n x j w e = e
abort_i-at Bad n x Fresh w e = refl
abort_i-at Bad n x j w e = cc
abort_i-at kind n x Fresh w e = refl
abort_i-at kind n x j w e = refl

-- i aborts
pub abort-i : (kind : Dep) (n : ℕ) (cj ci : Course) → is_orderly cj ≡ true → is_orderly ci ≡ true → IsWithin n cj → course_status ci ≡ InProgress
    → is_broken kind cj ci ≡ false → is_broken kind cj (aborted (n + 1) ci) ≡ cannot_pay_abort kind (course_status cj)
abort-i kind n cj ci orderly_j orderly_i within on =
    let j = shape cj orderly_j in
    let i = begun_course ci orderly_i on in
    of_shapes (λ j i. IsWithin n j → is_broken kind j i ≡ false → is_broken kind j (aborted (n + 1) i) ≡ cannot_pay_abort kind (course_status j))
    j.0 (Begun i.0) j.1 i.1 (abort_i-at kind n i.0 j.0) within

join_j-at : (kind : Dep) (n a : ℕ) (i : Shape) → is_broken kind (course_of (Begun a)) (course_of i) ≡ false
    → is_broken kind (joined (n + 1) (course_of (Begun a))) (course_of i) ≡ bars_join kind (course_status (course_of i))
unfolding is_false
join_j-at Bd n a i e = whether_ended (is_false Bd (course_of (Begun a)) (course_of i)) true false e
join_j-at Sd n a i e = whether_ended (is_false Sd (course_of (Begun a)) (course_of i)) true false e
join_j-at Bcd n a i e = whether_ended (is_false Bcd (course_of (Begun a)) (course_of i)) true false e
join_j-at Bad n a i e = whether_ended (is_false Bad (course_of (Begun a)) (course_of i)) true false e
join_j-at Wcd n a i e = whether_ended (is_false Wcd (course_of (Begun a)) (course_of i)) true false e
join_j-at kind n a Fresh e = refl
join_j-at kind n a i e = refl

-- j joins another
pub join-j : (kind : Dep) (n : ℕ) (cj ci : Course) → is_orderly cj ≡ true → is_orderly ci ≡ true → course_status cj ≡ InProgress
    → is_broken kind cj ci ≡ false → is_broken kind (joined (n + 1) cj) ci ≡ (is_abort (debt_by kind (course_status ci) InProgress) || is_commit (debt_by kind (course_status ci) InProgress))
join-j kind n cj ci orderly_j orderly_i on =
    let j = begun_course cj orderly_j on in
    let i = shape ci orderly_i in
    of_shapes (λ j i. is_broken kind j i ≡ false → is_broken kind (joined (n + 1) j) i ≡ bars_join kind (course_status i))
    (Begun j.0) i.0 j.1 i.1 (join_j-at kind n j.0 i.0)

-- i joins another: no formula depends on it
pub join-i : (kind : Dep) (n : ℕ) (cj ci : Course) → is_broken kind cj (joined (n + 1) ci) ≡ is_broken kind cj ci
unfolding is_false
join-i Cd n cj ci = refl
join-i kind n cj ci = refl

-- a kind without debts has no debt
nothing : (b : Bool) → ◌≡◌ {A = Option Missing} None (if b then None else None)
nothing true = refl
nothing false = refl

-- if j has ended, it owes nothing
ended_owes : (b : Bool) (missing : Option Missing) → None ≡ (if b && false then missing else None)
ended_owes true missing = refl
ended_owes false missing = refl

debts-at : (kind : Dep) (j i : Shape) → debt_by kind (course_status (course_of i)) (course_status (course_of j)) ≡ debt kind (course_of j) (course_of i)
unfolding is_false
debts-at Cd j i = nothing (is_false Cd (course_of j) (course_of i) && is_none (end (course_of j)))
debts-at Wd (Done a b) (Undone x y) = ended_owes (is_false Wd (course_of (Done a b)) (course_of (Undone x y))) (Some Abort)
debts-at Td j i = nothing (is_false Td (course_of j) (course_of i) && is_none (end (course_of j)))
debts-at Bd j i = nothing (is_false Bd (course_of j) (course_of i) && is_none (end (course_of j)))
debts-at Sd j i = nothing (is_false Sd (course_of j) (course_of i) && is_none (end (course_of j)))
debts-at Bcd j i = nothing (is_false Bcd (course_of j) (course_of i) && is_none (end (course_of j)))
debts-at Bad j i = nothing (is_false Bad (course_of j) (course_of i) && is_none (end (course_of j)))
debts-at Wcd j i = nothing (is_false Wcd (course_of j) (course_of i) && is_none (end (course_of j)))
debts-at kind Fresh Fresh = refl
debts-at kind j Fresh = refl
debts-at kind j i = refl

-- the debt by statuses is the debt by courses
pub debts-tie : (kind : Dep) (cj ci : Course) → is_orderly cj ≡ true → is_orderly ci ≡ true → debt_by kind (course_status ci) (course_status cj) ≡ debt kind cj ci
debts-tie kind cj ci orderly_j orderly_i =
    let j = shape cj orderly_j in
    let i = shape ci orderly_i in
    of_shapes (λ j i. debt_by kind (course_status i) (course_status j) ≡ debt kind j i) j.0 i.0 j.1 i.1 (debts-at kind j.0 i.0)

-- the formula of an edge is true if j has not begun, or if neither transaction has ended, when it is formed
pub formed-begin : (kind : Dep) (cj ci : Course) → is_begin_kind kind ≡ true → is_some cj.start ≡ false → is_false kind cj ci ≡ false
unfolding is_false
formed-begin Bd cj ci e fresh = rw fresh refl
formed-begin Sd cj ci e fresh = rw fresh refl
formed-begin Bcd cj ci e fresh = rw fresh refl
formed-begin Bad cj ci e fresh = rw fresh refl
formed-begin Wcd cj ci e fresh = rw fresh (nor_either (is_some ci.commit) (not (is_before ci.commit cj.start)))
  where
    nor_either : (b c : Bool) → (b && false && c) ≡ false
    nor_either true c = refl
    nor_either false c = refl
formed-begin kind cj ci e fresh = cc

-- the course of a transaction that has not ended has no commit, no abort and no join
endless : (c : Course) → is_some (end c) ≡ false → ◌≡◌ {A = Course} c (record { start = c.start; commit = None; abort = None; join = None })
endless c = of c.commit c.abort c.join
  where
    of : (d a j : Option ℕ) → is_some (end (record { start = c.start; commit = d; abort = a; join = j })) ≡ false → ◌≡◌ {A = Course} (record { start = c.start; commit = d; abort = a; join = j }) (record { start = c.start; commit = None; abort = None; join = None })
    of None None None e = refl
    of None None (Some b) e = cc
    of None (Some b) j e = cc
    of (Some b) a j e = cc

formed_other-at : (kind : Dep) (s t : Option ℕ) → is_begin_kind kind ≡ false → is_false kind (record { start = s; commit = None; abort = None; join = None }) (record { start = t; commit = None; abort = None; join = None }) ≡ false
unfolding is_false
formed_other-at Bd s t e = cc
formed_other-at Sd s t e = cc
formed_other-at Bcd s t e = cc
formed_other-at Bad s t e = cc
formed_other-at Wcd s t e = cc
formed_other-at kind s t e = refl

pub formed-other : (kind : Dep) (cj ci : Course) → is_begin_kind kind ≡ false → is_some (end cj) ≡ false → is_some (end ci) ≡ false → is_false kind cj ci ≡ false
formed-other kind cj ci e open_j open_i =
    (λ x. is_false kind (endless cj open_j x) (endless ci open_i x)) ∙ formed_other-at kind cj.start ci.start e
