-- Facts about an event that breaks no rule.
use Rattle.std.proofs.Common.{◌≡◌, ◌<◌, ◌≤◌, ℕ, ◌==◌, Bool, true, false, ◌||◌, not, [], ◌∷◌, filter, Option, Some, None, refl, sym, ◌∙◌, arith, eq-eqb}
use Rattle.std.specs.Prelude.{if◌then◌else◌, nat_lt}
use Rattle.std.proofs.lemmas.Bool.{true≢false, lt-ltb}
use Rattle.std.specs.Option.{option_or}
use Rattle.acta_table.specs.declared.answer.Rule.{Rule}
use Rattle.acta_table.specs.declared.answer.Status.{Status}
use Rattle.acta_table.specs.declared.answer.Status.TheVariants.{NotBegun, InProgress, Committed, Aborted, Joined}
use Rattle.acta_table.specs.declared.answer.Rule.TheVariants.{BadNumber}
use Rattle.acta_table.specs.Numbered.{smallest}
use Rattle.acta_table.specs.WellFormed.{is_bad_number}
use Rattle.acta_table.specs.Refusals.{broken_if, broken_by}
use Rattle.acta_table.specs.declared.limits.TheConstants.{LAST_TXN}
use Rattle.acta_machine.specs.Summary.{Summary}
use Rattle.acta_deps.specs.Statuses.{is_new, is_in_progress}
use Rattle.acta_machine.specs.Rules.{fails}

-- if neither of two rules is broken, each is `None`
pub or_none : {X : Type 0} (a b : Option X) → option_or a b ≡ None → (a ≡ None) × (b ≡ None)
or_none None b e = (refl, e)
or_none (Some x) b e = cc

pub if_none : (test : Bool) (rule : Rule) → broken_if test rule ≡ None → test ≡ false
if_none true rule e = cc
if_none false rule e = refl

pub by_none : (rule : Rule) (n : Option ℕ) → broken_by rule n ≡ None → n ≡ None
by_none rule None e = refl
by_none rule (Some n) e = cc

not_false : (b : Bool) → not b ≡ false → b ≡ true
not_false true e = refl
not_false false e = cc

pub not_broken : (test : Bool) (rule : Rule) → broken_if (not test) rule ≡ None → test ≡ true
not_broken test rule e = not_false test (if_none (not test) rule e)

passes : (b : Bool) (t : ℕ) → (if b then None else Some t) ≡ None → b ≡ true
passes true t e = refl
passes false t e = cc

pub is_begun : (x : Status) → is_in_progress x ≡ true → x ≡ InProgress
is_begun NotBegun e = cc
is_begun InProgress e = refl
is_begun Committed e = cc
is_begun Aborted e = cc
is_begun Joined e = cc

is_fresh : (x : Status) → is_new x ≡ true → x ≡ NotBegun
is_fresh NotBegun e = refl
is_fresh InProgress e = cc
is_fresh Committed e = cc
is_fresh Aborted e = cc
is_fresh Joined e = cc

-- the status that a rule requires
pub in_progress : (s : Summary) (rule : Rule) (t : ℕ) → broken_by rule (fails s is_in_progress t) ≡ None → s.status t ≡ InProgress
in_progress s rule t e = is_begun (s.status t) (passes (is_in_progress (s.status t)) t (by_none rule (fails s is_in_progress t) e))

pub not_begun : (s : Summary) (rule : Rule) (t : ℕ) → broken_by rule (fails s is_new t) ≡ None → s.status t ≡ NotBegun
not_begun s rule t e = is_fresh (s.status t) (passes (is_new (s.status t)) t (by_none rule (fails s is_new t) e))

none_bad : (t : ℕ) → (b : Bool) → smallest (if b then t ∷ [] else []) ≡ None → b ≡ false
none_bad t true e = cc
none_bad t false e = refl

neither : (a b : Bool) → (a || b) ≡ false → (a ≡ false) × (b ≡ false)
neither true b e = cc
neither false b e = (refl, e)

-- a valid transaction number is from 1 to 16,383
pub good_number : (t : ℕ) → broken_by BadNumber (smallest (filter is_bad_number (t ∷ []))) ≡ None → (0 < t) × (t ≤ LAST_TXN)
good_number t e =
    let parts = neither (t == 0) (nat_lt LAST_TXN t) (none_bad t (is_bad_number t) (by_none BadNumber _ e)) in
    let low : t ≡ 0 → ⊥ = λ z. true≢false (sym (eq-eqb t 0 z) ∙ parts.0) in
    let high : LAST_TXN < t → ⊥ = λ l. true≢false (sym (lt-ltb LAST_TXN t l) ∙ parts.1) in
    (omega (arith, low), omega (arith, high))
