-- Examples of the axioms on dependencies: for each kind the ways to make its formula false, and a history that satisfies it.
-- The edge is the second, of 4 on 3, and all faults name it.
use Rattle.std.specs.Prelude.{[], ◌∷◌, ◌≡◌, refl}
use Rattle.acta_table.specs.declared.dep.Dep.TheVariants.{Cd, Scd, Ad, Wd, Td, Ed, Cmd, Bd, Sd, Bcd, Bad, Wcd}
use Rattle.acta_table.specs.declared.dep.Missing.TheVariants.{Commit, Abort}
use Rattle.acta_table.specs.WellFormed.{bad_number, bad_class, bad_object, same_transaction}
use Rattle.acta_objects.specs.WellFormed.{bad_operation}
use Rattle.acta_axioms.specs.declared.fault.Axiom.TheVariants.{EndedAfterBegun, EndedOnce, Dependency}
use Rattle.acta_axioms.specs.Axioms.{axiom_number}
use Rattle.acta_axioms.specs.Faults.{breaches}
use Rattle.acta_axioms.specs.Formulas.{is_false}
use Rattle.acta_axioms.specs.Legal.{owed}
use Rattle.acta_axioms.proofs.Histories.{begin, join, commit, abort, owes, fault}
use Rattle.acta_judge.specs.Broken.{place_broken}
use Rattle.acta_judge.specs.Verdicts.{all_faults, verdict}
use Rattle.acta_judge.proofs.Histories.{found, owing, faultless, free, upon}

-- commit: 3 commits after 4: the fault is where it does
cd_breaks : verdict free (upon Cd (begin 3 0 ∷ begin 4 0 ∷ commit 4 ∷ commit 3 ∷ begin 5 0 ∷ []))
    ≡ found (fault (Dependency Cd) 6 2 ∷ [])
unfolding verdict all_faults owed breaches bad_number bad_class bad_object bad_operation same_transaction is_false place_broken
cd_breaks = refl

-- 3 commits first
cd_holds : verdict free (upon Cd (begin 3 0 ∷ begin 4 0 ∷ commit 3 ∷ commit 4 ∷ [])) ≡ faultless
unfolding verdict all_faults owed breaches bad_number bad_class bad_object bad_operation same_transaction is_false place_broken
cd_holds = refl

-- 3 aborts after the commit of 4
cd_holds_by_an_abort : verdict free (upon Cd (begin 3 0 ∷ begin 4 0 ∷ commit 4 ∷ abort 3 ∷ [])) ≡ faultless
unfolding verdict all_faults owed breaches bad_number bad_class bad_object bad_operation same_transaction is_false place_broken
cd_holds_by_an_abort = refl

-- strong-commit: 3 commits, and 4 can't any more
scd_breaks_by_the_commit : verdict free (upon Scd (begin 3 0 ∷ begin 4 0 ∷ abort 4 ∷ commit 3 ∷ begin 5 0 ∷ []))
    ≡ found (fault (Dependency Scd) 6 2 ∷ [])
unfolding verdict all_faults owed breaches bad_number bad_class bad_object bad_operation same_transaction is_false place_broken
scd_breaks_by_the_commit = refl

-- 4 aborts, which owes a commit
scd_breaks_by_an_abort : verdict free (upon Scd (begin 3 0 ∷ begin 4 0 ∷ commit 3 ∷ abort 4 ∷ begin 5 0 ∷ []))
    ≡ found (fault (Dependency Scd) 6 2 ∷ [])
unfolding verdict all_faults owed breaches bad_number bad_class bad_object bad_operation same_transaction is_false place_broken
scd_breaks_by_an_abort = refl

-- 4 joins another, which owes a commit
scd_breaks_by_a_join : verdict free (upon Scd (begin 3 0 ∷ begin 4 0 ∷ commit 3 ∷ begin 5 0 ∷ join 4 5 ∷ []))
    ≡ found (fault (Dependency Scd) 7 2 ∷ [])
unfolding verdict all_faults owed breaches bad_number bad_class bad_object bad_operation same_transaction is_false place_broken
scd_breaks_by_a_join = refl

-- 4 owes a commit
scd_is_owed : verdict free (upon Scd (begin 3 0 ∷ begin 4 0 ∷ commit 3 ∷ [])) ≡ owing (owes 2 4 Commit ∷ [])
unfolding verdict all_faults owed breaches bad_number bad_class bad_object bad_operation same_transaction is_false place_broken
scd_is_owed = refl

-- and pays it
scd_holds : verdict free (upon Scd (begin 3 0 ∷ begin 4 0 ∷ commit 3 ∷ commit 4 ∷ [])) ≡ faultless
unfolding verdict all_faults owed breaches bad_number bad_class bad_object bad_operation same_transaction is_false place_broken
scd_holds = refl

-- 4 has committed before
scd_holds_before : verdict free (upon Scd (begin 3 0 ∷ begin 4 0 ∷ commit 4 ∷ commit 3 ∷ [])) ≡ faultless
unfolding verdict all_faults owed breaches bad_number bad_class bad_object bad_operation same_transaction is_false place_broken
scd_holds_before = refl

-- abort: 3 aborts, and 4 can't any more
ad_breaks_by_the_abort : verdict free (upon Ad (begin 3 0 ∷ begin 4 0 ∷ commit 4 ∷ abort 3 ∷ begin 5 0 ∷ []))
    ≡ found (fault (Dependency Ad) 6 2 ∷ [])
unfolding verdict all_faults owed breaches bad_number bad_class bad_object bad_operation same_transaction is_false place_broken
ad_breaks_by_the_abort = refl

-- 4 commits, which owes an abort
ad_breaks_by_a_commit : verdict free (upon Ad (begin 3 0 ∷ begin 4 0 ∷ abort 3 ∷ commit 4 ∷ begin 5 0 ∷ []))
    ≡ found (fault (Dependency Ad) 6 2 ∷ [])
unfolding verdict all_faults owed breaches bad_number bad_class bad_object bad_operation same_transaction is_false place_broken
ad_breaks_by_a_commit = refl

-- 4 joins another, which owes an abort
ad_breaks_by_a_join : verdict free (upon Ad (begin 3 0 ∷ begin 4 0 ∷ abort 3 ∷ begin 5 0 ∷ join 4 5 ∷ []))
    ≡ found (fault (Dependency Ad) 7 2 ∷ [])
unfolding verdict all_faults owed breaches bad_number bad_class bad_object bad_operation same_transaction is_false place_broken
ad_breaks_by_a_join = refl

-- 4 owes an abort, before it begins
ad_is_owed : verdict free (upon Ad (begin 3 0 ∷ abort 3 ∷ [])) ≡ owing (owes 2 4 Abort ∷ [])
unfolding verdict all_faults owed breaches bad_number bad_class bad_object bad_operation same_transaction is_false place_broken
ad_is_owed = refl

-- and pays it
ad_holds : verdict free (upon Ad (begin 3 0 ∷ abort 3 ∷ begin 4 0 ∷ abort 4 ∷ [])) ≡ faultless
unfolding verdict all_faults owed breaches bad_number bad_class bad_object bad_operation same_transaction is_false place_broken
ad_holds = refl

-- weak-abort: 4 commits after the abort of 3
wd_breaks_by_a_commit : verdict free (upon Wd (begin 3 0 ∷ begin 4 0 ∷ abort 3 ∷ commit 4 ∷ begin 5 0 ∷ []))
    ≡ found (fault (Dependency Wd) 6 2 ∷ [])
unfolding verdict all_faults owed breaches bad_number bad_class bad_object bad_operation same_transaction is_false place_broken
wd_breaks_by_a_commit = refl

-- 4 joins another, which owes an abort
wd_breaks_by_a_join : verdict free (upon Wd (begin 3 0 ∷ begin 4 0 ∷ abort 3 ∷ begin 5 0 ∷ join 4 5 ∷ []))
    ≡ found (fault (Dependency Wd) 7 2 ∷ [])
unfolding verdict all_faults owed breaches bad_number bad_class bad_object bad_operation same_transaction is_false place_broken
wd_breaks_by_a_join = refl

-- 4 has joined another, and so has not committed, where 3 aborts
wd_breaks_by_the_abort : verdict free (upon Wd (begin 3 0 ∷ begin 4 0 ∷ begin 5 0 ∷ join 4 5 ∷ abort 3 ∷ begin 6 0 ∷ []))
    ≡ found (fault (Dependency Wd) 7 2 ∷ [])
unfolding verdict all_faults owed breaches bad_number bad_class bad_object bad_operation same_transaction is_false place_broken
wd_breaks_by_the_abort = refl

-- 4 owes an abort
wd_is_owed : verdict free (upon Wd (begin 3 0 ∷ begin 4 0 ∷ abort 3 ∷ [])) ≡ owing (owes 2 4 Abort ∷ [])
unfolding verdict all_faults owed breaches bad_number bad_class bad_object bad_operation same_transaction is_false place_broken
wd_is_owed = refl

-- and pays it
wd_holds : verdict free (upon Wd (begin 3 0 ∷ begin 4 0 ∷ abort 3 ∷ abort 4 ∷ [])) ≡ faultless
unfolding verdict all_faults owed breaches bad_number bad_class bad_object bad_operation same_transaction is_false place_broken
wd_holds = refl

-- 4 has committed where 3 aborts
wd_holds_by_a_commit : verdict free (upon Wd (begin 3 0 ∷ begin 4 0 ∷ commit 4 ∷ abort 3 ∷ [])) ≡ faultless
unfolding verdict all_faults owed breaches bad_number bad_class bad_object bad_operation same_transaction is_false place_broken
wd_holds_by_a_commit = refl

-- termination: 4 commits before 3 has ended
td_breaks_by_a_commit : verdict free (upon Td (begin 3 0 ∷ begin 4 0 ∷ commit 4 ∷ commit 3 ∷ []))
    ≡ found (fault (Dependency Td) 5 2 ∷ [])
unfolding verdict all_faults owed breaches bad_number bad_class bad_object bad_operation same_transaction is_false place_broken
td_breaks_by_a_commit = refl

-- 4 aborts, and 3 never ends
td_breaks_by_an_abort : verdict free (upon Td (begin 3 0 ∷ begin 4 0 ∷ begin 5 0 ∷ abort 4 ∷ commit 5 ∷ []))
    ≡ found (fault (Dependency Td) 6 2 ∷ [])
unfolding verdict all_faults owed breaches bad_number bad_class bad_object bad_operation same_transaction is_false place_broken
td_breaks_by_an_abort = refl

-- 4 ends twice; its first end breaks the formula
td_breaks_first : verdict free (upon Td (begin 3 0 ∷ begin 4 0 ∷ abort 4 ∷ commit 4 ∷ []))
    ≡ found (fault EndedOnce 6 4 ∷ fault (Dependency Td) 5 2 ∷ [])
unfolding verdict all_faults owed breaches bad_number bad_class bad_object bad_operation same_transaction is_false place_broken axiom_number
td_breaks_first = refl

-- 4 joins another, which is neither a commit nor an abort, and commits after it
td_breaks_after_the_join_of_4 : verdict free (upon Td (begin 3 0 ∷ begin 4 0 ∷ begin 5 0 ∷ join 4 5 ∷ commit 4 ∷ []))
    ≡ found (fault EndedOnce 7 4 ∷ fault (Dependency Td) 7 2 ∷ [])
unfolding verdict all_faults owed breaches bad_number bad_class bad_object bad_operation same_transaction is_false place_broken axiom_number
td_breaks_after_the_join_of_4 = refl

-- 3 joins another, which decides nothing
td_breaks_after_a_join : verdict free (upon Td (begin 3 0 ∷ begin 4 0 ∷ begin 5 0 ∷ join 3 5 ∷ commit 4 ∷ []))
    ≡ found (fault (Dependency Td) 7 2 ∷ [])
unfolding verdict all_faults owed breaches bad_number bad_class bad_object bad_operation same_transaction is_false place_broken
td_breaks_after_a_join = refl

-- 3 has aborted where 4 commits
td_holds : verdict free (upon Td (begin 3 0 ∷ begin 4 0 ∷ abort 3 ∷ commit 4 ∷ [])) ≡ faultless
unfolding verdict all_faults owed breaches bad_number bad_class bad_object bad_operation same_transaction is_false place_broken
td_holds = refl

-- 4 joins another, which decides nothing
td_holds_by_a_join : verdict free (upon Td (begin 3 0 ∷ begin 4 0 ∷ begin 5 0 ∷ join 4 5 ∷ [])) ≡ faultless
unfolding verdict all_faults owed breaches bad_number bad_class bad_object bad_operation same_transaction is_false place_broken
td_holds_by_a_join = refl

-- exclusion: 3 commits, and 4 has committed
ed_breaks_by_the_commit : verdict free (upon Ed (begin 3 0 ∷ begin 4 0 ∷ commit 4 ∷ commit 3 ∷ begin 5 0 ∷ []))
    ≡ found (fault (Dependency Ed) 6 2 ∷ [])
unfolding verdict all_faults owed breaches bad_number bad_class bad_object bad_operation same_transaction is_false place_broken
ed_breaks_by_the_commit = refl

-- 4 commits, which owes an abort
ed_breaks_by_a_commit : verdict free (upon Ed (begin 3 0 ∷ begin 4 0 ∷ commit 3 ∷ commit 4 ∷ begin 5 0 ∷ []))
    ≡ found (fault (Dependency Ed) 6 2 ∷ [])
unfolding verdict all_faults owed breaches bad_number bad_class bad_object bad_operation same_transaction is_false place_broken
ed_breaks_by_a_commit = refl

-- 4 joins another, which owes an abort
ed_breaks_by_a_join : verdict free (upon Ed (begin 3 0 ∷ begin 4 0 ∷ commit 3 ∷ begin 5 0 ∷ join 4 5 ∷ []))
    ≡ found (fault (Dependency Ed) 7 2 ∷ [])
unfolding verdict all_faults owed breaches bad_number bad_class bad_object bad_operation same_transaction is_false place_broken
ed_breaks_by_a_join = refl

-- 4 begins, which has committed before
ed_breaks_by_the_start : verdict free (upon Ed (begin 3 0 ∷ commit 3 ∷ commit 4 ∷ begin 4 0 ∷ begin 5 0 ∷ []))
    ≡ found (fault EndedAfterBegun 5 4 ∷ fault (Dependency Ed) 6 2 ∷ [])
unfolding verdict all_faults owed breaches bad_number bad_class bad_object bad_operation same_transaction is_false place_broken axiom_number
ed_breaks_by_the_start = refl

-- 4 owes an abort
ed_is_owed : verdict free (upon Ed (begin 3 0 ∷ begin 4 0 ∷ commit 3 ∷ [])) ≡ owing (owes 2 4 Abort ∷ [])
unfolding verdict all_faults owed breaches bad_number bad_class bad_object bad_operation same_transaction is_false place_broken
ed_is_owed = refl

-- but none before it begins
ed_is_owed_unbegun : verdict free (upon Ed (begin 3 0 ∷ commit 3 ∷ [])) ≡ faultless
unfolding verdict all_faults owed breaches bad_number bad_class bad_object bad_operation same_transaction is_false place_broken
ed_is_owed_unbegun = refl

-- 4 pays it
ed_holds : verdict free (upon Ed (begin 3 0 ∷ begin 4 0 ∷ commit 3 ∷ abort 4 ∷ [])) ≡ faultless
unfolding verdict all_faults owed breaches bad_number bad_class bad_object bad_operation same_transaction is_false place_broken
ed_holds = refl

-- 4 has aborted before
ed_holds_before : verdict free (upon Ed (begin 3 0 ∷ begin 4 0 ∷ abort 4 ∷ commit 3 ∷ [])) ≡ faultless
unfolding verdict all_faults owed breaches bad_number bad_class bad_object bad_operation same_transaction is_false place_broken
ed_holds_before = refl

-- force-commit-on-abort: 3 aborts, and 4 can't commit any more
cmd_breaks_by_the_abort : verdict free (upon Cmd (begin 3 0 ∷ begin 4 0 ∷ abort 4 ∷ abort 3 ∷ begin 5 0 ∷ []))
    ≡ found (fault (Dependency Cmd) 6 2 ∷ [])
unfolding verdict all_faults owed breaches bad_number bad_class bad_object bad_operation same_transaction is_false place_broken
cmd_breaks_by_the_abort = refl

-- 4 aborts, which owes a commit
cmd_breaks_by_an_abort : verdict free (upon Cmd (begin 3 0 ∷ begin 4 0 ∷ abort 3 ∷ abort 4 ∷ begin 5 0 ∷ []))
    ≡ found (fault (Dependency Cmd) 6 2 ∷ [])
unfolding verdict all_faults owed breaches bad_number bad_class bad_object bad_operation same_transaction is_false place_broken
cmd_breaks_by_an_abort = refl

-- 4 joins another, which owes a commit
cmd_breaks_by_a_join : verdict free (upon Cmd (begin 3 0 ∷ begin 4 0 ∷ abort 3 ∷ begin 5 0 ∷ join 4 5 ∷ []))
    ≡ found (fault (Dependency Cmd) 7 2 ∷ [])
unfolding verdict all_faults owed breaches bad_number bad_class bad_object bad_operation same_transaction is_false place_broken
cmd_breaks_by_a_join = refl

-- 4 owes a commit, before it begins
cmd_is_owed : verdict free (upon Cmd (begin 3 0 ∷ abort 3 ∷ [])) ≡ owing (owes 2 4 Commit ∷ [])
unfolding verdict all_faults owed breaches bad_number bad_class bad_object bad_operation same_transaction is_false place_broken
cmd_is_owed = refl

-- and pays it
cmd_holds : verdict free (upon Cmd (begin 3 0 ∷ abort 3 ∷ begin 4 0 ∷ commit 4 ∷ [])) ≡ faultless
unfolding verdict all_faults owed breaches bad_number bad_class bad_object bad_operation same_transaction is_false place_broken
cmd_holds = refl

-- begin: 4 begins before 3
bd_breaks : verdict free (upon Bd (begin 5 0 ∷ begin 4 0 ∷ begin 3 0 ∷ [])) ≡ found (fault (Dependency Bd) 4 2 ∷ [])
unfolding verdict all_faults owed breaches bad_number bad_class bad_object bad_operation same_transaction is_false place_broken
bd_breaks = refl

-- 3 never begins
bd_breaks_alone : verdict free (upon Bd (begin 5 0 ∷ begin 4 0 ∷ [])) ≡ found (fault (Dependency Bd) 4 2 ∷ [])
unfolding verdict all_faults owed breaches bad_number bad_class bad_object bad_operation same_transaction is_false place_broken
bd_breaks_alone = refl

-- 3 begins first
bd_holds : verdict free (upon Bd (begin 3 0 ∷ begin 4 0 ∷ [])) ≡ faultless
unfolding verdict all_faults owed breaches bad_number bad_class bad_object bad_operation same_transaction is_false place_broken
bd_holds = refl

-- serial: 4 begins before 3 has ended
sd_breaks : verdict free (upon Sd (begin 3 0 ∷ begin 4 0 ∷ commit 3 ∷ [])) ≡ found (fault (Dependency Sd) 4 2 ∷ [])
unfolding verdict all_faults owed breaches bad_number bad_class bad_object bad_operation same_transaction is_false place_broken
sd_breaks = refl

-- 3 joins another, which decides nothing
sd_breaks_after_a_join : verdict free (upon Sd (begin 3 0 ∷ begin 5 0 ∷ join 3 5 ∷ begin 4 0 ∷ []))
    ≡ found (fault (Dependency Sd) 6 2 ∷ [])
unfolding verdict all_faults owed breaches bad_number bad_class bad_object bad_operation same_transaction is_false place_broken
sd_breaks_after_a_join = refl

-- 3 has committed
sd_holds : verdict free (upon Sd (begin 3 0 ∷ commit 3 ∷ begin 4 0 ∷ [])) ≡ faultless
unfolding verdict all_faults owed breaches bad_number bad_class bad_object bad_operation same_transaction is_false place_broken
sd_holds = refl

-- 3 has aborted
sd_holds_by_an_abort : verdict free (upon Sd (begin 3 0 ∷ abort 3 ∷ begin 4 0 ∷ [])) ≡ faultless
unfolding verdict all_faults owed breaches bad_number bad_class bad_object bad_operation same_transaction is_false place_broken
sd_holds_by_an_abort = refl

-- begin-on-commit: 4 begins before 3 commits
bcd_breaks : verdict free (upon Bcd (begin 3 0 ∷ begin 4 0 ∷ commit 3 ∷ [])) ≡ found (fault (Dependency Bcd) 4 2 ∷ [])
unfolding verdict all_faults owed breaches bad_number bad_class bad_object bad_operation same_transaction is_false place_broken
bcd_breaks = refl

-- 4 begins after an abort of 3
bcd_breaks_after_an_abort : verdict free (upon Bcd (begin 3 0 ∷ abort 3 ∷ begin 4 0 ∷ []))
    ≡ found (fault (Dependency Bcd) 5 2 ∷ [])
unfolding verdict all_faults owed breaches bad_number bad_class bad_object bad_operation same_transaction is_false place_broken
bcd_breaks_after_an_abort = refl

-- 3 has committed
bcd_holds : verdict free (upon Bcd (begin 3 0 ∷ commit 3 ∷ begin 4 0 ∷ [])) ≡ faultless
unfolding verdict all_faults owed breaches bad_number bad_class bad_object bad_operation same_transaction is_false place_broken
bcd_holds = refl

-- begin-on-abort: 4 begins before 3 aborts
bad_breaks : verdict free (upon Bad (begin 3 0 ∷ begin 4 0 ∷ abort 3 ∷ [])) ≡ found (fault (Dependency Bad) 4 2 ∷ [])
unfolding verdict all_faults owed breaches bad_number bad_class bad_object bad_operation same_transaction is_false place_broken
bad_breaks = refl

-- 4 begins after a commit of 3
bad_breaks_after_a_commit : verdict free (upon Bad (begin 3 0 ∷ commit 3 ∷ begin 4 0 ∷ []))
    ≡ found (fault (Dependency Bad) 5 2 ∷ [])
unfolding verdict all_faults owed breaches bad_number bad_class bad_object bad_operation same_transaction is_false place_broken
bad_breaks_after_a_commit = refl

-- 3 has aborted
bad_holds : verdict free (upon Bad (begin 3 0 ∷ abort 3 ∷ begin 4 0 ∷ [])) ≡ faultless
unfolding verdict all_faults owed breaches bad_number bad_class bad_object bad_operation same_transaction is_false place_broken
bad_holds = refl

-- weak-begin-on-commit: 3 commits, and 4 has begun
wcd_breaks : verdict free (upon Wcd (begin 3 0 ∷ begin 4 0 ∷ commit 3 ∷ begin 5 0 ∷ []))
    ≡ found (fault (Dependency Wcd) 5 2 ∷ [])
unfolding verdict all_faults owed breaches bad_number bad_class bad_object bad_operation same_transaction is_false place_broken
wcd_breaks = refl

-- 3 has committed where 4 begins
wcd_holds : verdict free (upon Wcd (begin 3 0 ∷ commit 3 ∷ begin 4 0 ∷ [])) ≡ faultless
unfolding verdict all_faults owed breaches bad_number bad_class bad_object bad_operation same_transaction is_false place_broken
wcd_holds = refl

-- 3 aborts after the start of 4
wcd_holds_by_an_abort : verdict free (upon Wcd (begin 3 0 ∷ begin 4 0 ∷ abort 3 ∷ [])) ≡ faultless
unfolding verdict all_faults owed breaches bad_number bad_class bad_object bad_operation same_transaction is_false place_broken
wcd_holds_by_an_abort = refl
