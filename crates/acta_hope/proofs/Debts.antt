-- The debt of an edge while the owing transaction has not ended.
use Rattle.std.proofs.Common.{◌≡◌, Bool, true, false, ◌&&◌, Some, sym, ap, ◌∙◌, refl}
use Rattle.std.proofs.lemmas.Bool.{true≢false}
use Rattle.std.proofs.lemmas.Option.{same_Some}
use Rattle.acta_table.specs.declared.answer.Status.{Status}
use Rattle.acta_table.specs.declared.answer.Status.TheVariants.{NotBegun, InProgress, Committed, Aborted}
use Rattle.acta_table.specs.declared.dep.Dep.{Dep}
use Rattle.acta_table.specs.declared.dep.Dep.TheVariants.{Scd, Ad, Wd, Ed, Cmd}
use Rattle.acta_table.specs.declared.dep.Missing.{Missing}
use Rattle.acta_table.specs.declared.dep.Missing.TheVariants.{Commit, Abort}
use Rattle.acta_deps.specs.Debts.{missing_if, debt_by}
use Rattle.acta_deps.specs.Statuses.{has_begun, has_ended, has_committed, has_aborted, may_end, is_in_progress}

both : (a b : Bool) (k missing : Missing) → missing_if (a && b) k ≡ Some missing → (a ≡ true) × (b ≡ true)
both true true k missing e = (refl, refl)
both true false k missing e = absurd (cc)
both false b k missing e = absurd (cc)

pub missing-is : (b : Bool) (k missing : Missing) → missing_if b k ≡ Some missing → k ≡ missing
missing-is true k missing e = same_Some k missing e
missing-is false k missing e = absurd (cc)

committed-ended : (i : Status) → has_committed i ≡ true → has_ended i ≡ true
committed-ended Committed e = refl
committed-ended _ e = absurd (true≢false (sym e))

aborted-ended : (i : Status) → has_aborted i ≡ true → has_ended i ≡ true
aborted-ended Aborted e = refl
aborted-ended _ e = absurd (true≢false (sym e))

open-on : (j : Status) → may_end j ≡ true → has_ended j ≡ false
open-on NotBegun e = refl
open-on InProgress e = refl
open-on _ e = absurd (true≢false (sym e))

on-open : (j : Status) → is_in_progress j ≡ true → has_ended j ≡ false
on-open InProgress e = refl
on-open _ e = absurd (true≢false (sym e))

-- if an edge has a debt, its i has ended, and its j has not
pub debt-parts : (kind : Dep) (i j : Status) (missing : Missing) → debt_by kind i j ≡ Some missing → (has_ended i ≡ true) × (has_ended j ≡ false)
debt-parts Scd i j missing e = let p = both (has_committed i) (may_end j) Commit missing e in (committed-ended i p.0, open-on j p.1)
debt-parts Ad i j missing e = let p = both (has_aborted i) (may_end j) Abort missing e in (aborted-ended i p.0, open-on j p.1)
debt-parts Wd i j missing e = let p = both (has_aborted i) (may_end j) Abort missing e in (aborted-ended i p.0, open-on j p.1)
debt-parts Cmd i j missing e = let p = both (has_aborted i) (may_end j) Commit missing e in (aborted-ended i p.0, open-on j p.1)
debt-parts Ed i j missing e = let p = both (has_committed i) (is_in_progress j) Abort missing e in (committed-ended i p.0, on-open j p.1)
debt-parts _ i j missing e = absurd (cc)

still-open : (k : Status) → has_ended k ≡ false → may_end k ≡ true
still-open NotBegun e = refl
still-open InProgress e = refl
still-open _ e = absurd (true≢false e)

still-on : (j k : Status) → is_in_progress j ≡ true → (has_begun j ≡ true → has_begun k ≡ true) → has_ended k ≡ false → is_in_progress k ≡ true
still-on InProgress NotBegun is later e = absurd (true≢false (sym (later refl)))
still-on InProgress InProgress is later e = refl
still-on InProgress _ is later e = absurd (true≢false e)
still-on _ k is later e = absurd (true≢false (sym is))

-- it is owed until that transaction ends
pub debt-later : (kind : Dep) (i j k : Status) (missing : Missing) → debt_by kind i j ≡ Some missing → (has_begun j ≡ true → has_begun k ≡ true) → has_ended k ≡ false → debt_by kind i k ≡ Some missing
debt-later Scd i j k missing e later on =
    let p = both (has_committed i) (may_end j) Commit missing e in
    ap (λ b. missing_if (has_committed i && b) Commit) (still-open k on ∙ sym p.1) ∙ e
debt-later Ad i j k missing e later on =
    let p = both (has_aborted i) (may_end j) Abort missing e in
    ap (λ b. missing_if (has_aborted i && b) Abort) (still-open k on ∙ sym p.1) ∙ e
debt-later Wd i j k missing e later on =
    let p = both (has_aborted i) (may_end j) Abort missing e in
    ap (λ b. missing_if (has_aborted i && b) Abort) (still-open k on ∙ sym p.1) ∙ e
debt-later Cmd i j k missing e later on =
    let p = both (has_aborted i) (may_end j) Commit missing e in
    ap (λ b. missing_if (has_aborted i && b) Commit) (still-open k on ∙ sym p.1) ∙ e
debt-later Ed i j k missing e later on =
    let p = both (has_committed i) (is_in_progress j) Abort missing e in
    ap (λ b. missing_if (has_committed i && b) Abort) (still-on j k p.1 later on ∙ sym p.1) ∙ e
debt-later _ i j k missing e later on = e
