-- The words of each line of a canonical text have the form for which they were written.
use Rattle.std.proofs.Common.{◌≡◌, ℕ, ◌<◌, ◌^◌, Bool, true, false, ◌==◌, [], ◌∷◌, codes, Some, option_map, option_and_then, unwrap_or, pos, negsuc, ℤ, refl, sym, ap, true≢false, arith}
use Rattle.std.specs.Fmt.{signed_decimal}
use Rattle.std.proofs.lemmas.Bool.{agree_below_at, eqb-true}
use Rattle.std.specs.Prelude.{FitsSigned}
use Rattle.std.specs.Int.{w32}
use Rattle.acta_words.proofs.NumeralsAgain.{positive_again, negative_again}
use Rattle.acta_table.specs.declared.dep.Dep.{Dep}
use Rattle.acta_table.specs.declared.dep.Dep.TheVariants.{Cd, Scd, Ad, Wd, Td, Ed, Cmd, Bd, Sd, Bcd, Bad, Wcd}
use Rattle.acta_table.specs.declared.model.AtCommit.{AtCommit}
use Rattle.acta_table.specs.declared.model.AtCommit.TheVariants.{Keeps, ToParent}
use Rattle.acta_table.specs.declared.model.Extent.{Extent}
use Rattle.acta_table.specs.declared.model.Extent.TheVariants.{Whole, Any}
use Rattle.acta_table.specs.declared.model.Scope.{Scope}
use Rattle.acta_table.specs.declared.model.Scope.TheVariants.{Others, NonAncestors}
use Rattle.acta_table.specs.declared.policy.Policy.{Policy}
use Rattle.acta_table.specs.declared.policy.Policy.TheVariants.{Refuse, Depend}
use Rattle.acta_table.specs.declared.start_edges.Dependent.{Dependent}
use Rattle.acta_table.specs.declared.start_edges.Dependent.TheVariants.{Starter, Started}
use Rattle.acta_table.specs.Dependencies.{word_of}
use Rattle.acta_words.specs.Numerals.{read_integer}
use Rattle.acta_lang.specs.declared.form.Form.{Form}
use Rattle.acta_lang.specs.declared.form.Form.TheVariants as form
use Rattle.acta_lang.specs.Canonical.{dep_words, edge_words, may_words, policy_words, starts_words}
use Rattle.acta_table.specs.Typed.{HasDeps}
use Rattle.acta_lang.specs.Drafts.{first_value}
use Rattle.acta_lang.specs.Forms.{depend_form, dependent_named, form_of, known, may_form}
use Rattle.acta_lang.specs.Words.{commit_word, dep_named, extent_word, scope_word}

pub integer_again : (z : ℤ) → FitsSigned w32 z → read_integer 0x8000_0000 (signed_decimal z) ≡ Some z
integer_again (pos n) small = positive_again 0x8000_0000 n (omega (arith, small)) (omega (arith, small))
integer_again (negsuc n) small = negative_again 0x8000_0000 n (omega (arith, small)) (omega (arith, small))

pub first_again : (z : ℤ) → FitsSigned w32 z → first_value (signed_decimal z) ≡ z
first_again z small = ap (λ o. unwrap_or o (pos 0)) (integer_again z small)

abbrev is_may : ℕ → Form → Bool
is_may bits (form.May kinds) = kinds == bits
is_may bits _ = false

abbrev is_depend : ℕ → Form → Bool
is_depend bits (form.Policy (Depend kinds)) = kinds == bits
is_depend bits _ = false

may_is : (bits : ℕ) (parsed : Form) → is_may bits parsed ≡ true → parsed ≡ form.May bits
may_is bits (form.May kinds) h = ap (λ k. form.May k) (eqb-true kinds bits h)
may_is bits form.Blank h = absurd (true≢false (sym h))
may_is bits form.Register h = absurd (true≢false (sym h))
may_is bits form.Counter h = absurd (true≢false (sym h))
may_is bits form.Elements h = absurd (true≢false (sym h))
may_is bits form.Class h = absurd (true≢false (sym h))
may_is bits (form.Starts s) h = absurd (true≢false (sym h))
may_is bits (form.Scope s) h = absurd (true≢false (sym h))
may_is bits (form.Policy p) h = absurd (true≢false (sym h))
may_is bits (form.Commit s) h = absurd (true≢false (sym h))
may_is bits (form.Delegation s) h = absurd (true≢false (sym h))
may_is bits (form.Spawn s) h = absurd (true≢false (sym h))
may_is bits (form.Split s) h = absurd (true≢false (sym h))
may_is bits form.End h = absurd (true≢false (sym h))
may_is bits form.Unknown h = absurd (true≢false (sym h))

depend_is : (bits : ℕ) (parsed : Form) → is_depend bits parsed ≡ true → parsed ≡ form.Policy (Depend bits)
depend_is bits (form.Policy (Depend kinds)) h = ap (λ k. form.Policy (Depend k)) (eqb-true kinds bits h)
depend_is bits (form.Policy Refuse) h = absurd (true≢false (sym h))
depend_is bits form.Blank h = absurd (true≢false (sym h))
depend_is bits form.Register h = absurd (true≢false (sym h))
depend_is bits form.Counter h = absurd (true≢false (sym h))
depend_is bits form.Elements h = absurd (true≢false (sym h))
depend_is bits form.Class h = absurd (true≢false (sym h))
depend_is bits (form.Starts s) h = absurd (true≢false (sym h))
depend_is bits (form.May s) h = absurd (true≢false (sym h))
depend_is bits (form.Scope s) h = absurd (true≢false (sym h))
depend_is bits (form.Commit s) h = absurd (true≢false (sym h))
depend_is bits (form.Delegation s) h = absurd (true≢false (sym h))
depend_is bits (form.Spawn s) h = absurd (true≢false (sym h))
depend_is bits (form.Split s) h = absurd (true≢false (sym h))
depend_is bits form.End h = absurd (true≢false (sym h))
depend_is bits form.Unknown h = absurd (true≢false (sym h))

-- each set of kinds, written and read again, is the same set
pub may_again : (kinds : ℕ) → kinds < 2 ^ 9 → may_form (may_words kinds) ≡ form.May kinds
may_again kinds small = may_is kinds _ (agree_below_at (λ bits. is_may bits (may_form (may_words bits))) (λ _. true) 512 kinds refl small)

pub deps_again : (kinds : ℕ) → kinds < 2 ^ 12 → depend_form (dep_words kinds) ≡ form.Policy (Depend kinds)
deps_again kinds small = depend_is kinds _ (agree_below_at (λ bits. is_depend bits (depend_form (dep_words bits))) (λ _. true) 4096 kinds refl small)

pub policy_again : (p : Policy) → HasDeps p → form_of (codes "policy" ∷ policy_words p) ≡ form.Policy p
policy_again Refuse has = refl
policy_again (Depend kinds) has = deps_again kinds has

pub starts_again : (b s p : Bool) → form_of (codes "starts" ∷ starts_words (record { begin = b; spawned = s; split = p })) ≡ form.Starts (record { begin = b; spawned = s; split = p })
starts_again true true true = refl
starts_again true true false = refl
starts_again true false true = refl
starts_again true false false = refl
starts_again false true true = refl
starts_again false true false = refl
starts_again false false true = refl
starts_again false false false = refl

pub scope_again : (s : Scope) → form_of (codes "scope" ∷ scope_word s ∷ []) ≡ form.Scope s
scope_again Others = refl
scope_again NonAncestors = refl

pub commit_again : (a : AtCommit) → form_of (codes "commit" ∷ commit_word a ∷ []) ≡ form.Commit a
commit_again Keeps = refl
commit_again ToParent = refl

pub extent_again : (e : Extent) → form_of (codes "delegation" ∷ extent_word e ∷ []) ≡ form.Delegation e
extent_again Whole = refl
extent_again Any = refl

dep_again : (k : Dep) → dep_named (word_of k) ≡ Some k
dep_again Cd = refl
dep_again Scd = refl
dep_again Ad = refl
dep_again Wd = refl
dep_again Td = refl
dep_again Ed = refl
dep_again Cmd = refl
dep_again Bd = refl
dep_again Sd = refl
dep_again Bcd = refl
dep_again Bad = refl
dep_again Wcd = refl

pub spawn_again : (k : Dep) (d : Dependent) → form_of (edge_words (codes "spawn") (record { kind = k; dependent = d })) ≡ form.Spawn (record { kind = k; dependent = d })
spawn_again k Starter = ap (λ o. known (option_map (λ e. form.Spawn e) (option_and_then (λ kind. option_map (λ d. record { kind = kind; dependent = d }) (dependent_named (codes "starter") (codes "started"))) o))) (dep_again k)
spawn_again k Started = ap (λ o. known (option_map (λ e. form.Spawn e) (option_and_then (λ kind. option_map (λ d. record { kind = kind; dependent = d }) (dependent_named (codes "started") (codes "starter"))) o))) (dep_again k)

pub split_again : (k : Dep) (d : Dependent) → form_of (edge_words (codes "split") (record { kind = k; dependent = d })) ≡ form.Split (record { kind = k; dependent = d })
split_again k Starter = ap (λ o. known (option_map (λ e. form.Split e) (option_and_then (λ kind. option_map (λ d. record { kind = kind; dependent = d }) (dependent_named (codes "starter") (codes "started"))) o))) (dep_again k)
split_again k Started = ap (λ o. known (option_map (λ e. form.Split e) (option_and_then (λ kind. option_map (λ d. record { kind = kind; dependent = d }) (dependent_named (codes "started") (codes "starter"))) o))) (dep_again k)
