-- The partners of the grants on an object are ascending.
use Rattle.std.specs.Prelude.{◌≡◌, ℕ, Bool, true, false, ◌==◌, nat_le, List, [], ◌∷◌, filter, if◌then◌else◌}
use Rattle.std.proofs.Common.{arith, refl, sym, ap, subst, ◌∙◌, Less, Equal}
use Rattle.std.proofs.lemmas.Bool.{eqb-true, and_parts}
use Rattle.std.proofs.lemmas.Bool.Decides.{nat_tests}
use Rattle.std.proofs.lemmas.List.Kept.{IsStrictlySortedBy-filter}
use Rattle.std.specs.List.{AllByRecursion}
use Rattle.std.specs.List.Sorted.{IsStrictlySortedBy}
use Rattle.std.specs.Ordering.{nat_cmp, ordering_then}
use Rattle.std.specs.declared.ops.Bound.TheVariants.{Included}
use Rattle.std.specs.BTreeMap.Range.{range_contains}
use Rattle.acta_sets.specs.declared.grant.Grant.{Grant}
use Rattle.acta_sets.specs.Permits.{grant_cmp, txn_cmp}
use Rattle.acta_sets.specs.inside.Granted.{partners_of}
use Rattle.acta_sets.proofs.Grants.{object-between}

equal-self : (n : ℕ) → nat_cmp n n ≡ Equal
equal-self n = grind (arith, nat_tests)

-- whether the grant is on the object
abbrev on : ℕ → Grant → Bool
on ob = range_contains grant_cmp (Included (record { object = record { 0 = ob }; partner = record { 0 = 0 } })) (Included (record { object = record { 0 = ob }; partner = record { 0 = 65535 } }))

all-on-by : (ob : ℕ) (passes : Bool) (k : Grant) (ks : List Grant) → on ob k ≡ passes → AllByRecursion (λ g. g.object.0 ≡ ob) ks → AllByRecursion (λ g. g.object.0 ≡ ob) (if passes then k ∷ ks else ks)
all-on-by ob true k ks passes all = (eqb-true _ _ (and_parts (k.object.0 == ob) (nat_le k.partner.0 65535) (sym (object-between ob k) ∙ passes)).0, all)
all-on-by ob false k ks passes all = all

all-on : (ob : ℕ) (gs : List Grant) → AllByRecursion (λ g. g.object.0 ≡ ob) (filter (on ob) gs)
all-on ob [] = tt
all-on ob (k ∷ gs) = all-on-by ob (on ob k) k (filter (on ob) gs) refl (all-on ob gs)

-- grants on one object are ordered by partner
all-less : (ob : ℕ) (g : Grant) (gs : List Grant) → g.object.0 ≡ ob → AllByRecursion (λ k. k.object.0 ≡ ob) gs → AllByRecursion (λ k. grant_cmp g k ≡ Less) gs → AllByRecursion (λ u. txn_cmp g.partner u ≡ Less) (partners_of gs)
all-less ob g [] here all less = tt
all-less ob g (k ∷ gs) here all less =
    let same : nat_cmp g.object.0 k.object.0 ≡ Equal = (λ i. nat_cmp (here i) (all.0 i)) ∙ equal-self ob in
    (sym (ap (λ o. ordering_then o (nat_cmp g.partner.0 k.partner.0)) same) ∙ less.0, all-less ob g gs here all.1 less.1)

sorted : (ob : ℕ) (gs : List Grant) → AllByRecursion (λ g. g.object.0 ≡ ob) gs → IsStrictlySortedBy grant_cmp gs → IsStrictlySortedBy txn_cmp (partners_of gs)
unfolding IsStrictlySortedBy
sorted ob [] all up = tt
sorted ob (g ∷ gs) all up = (all-less ob g gs all.0 all.1 up.0, sorted ob gs all.1 up.1)

pub partners_sorted : (ob : ℕ) (gs found : List Grant)
    → found ≡ filter (range_contains grant_cmp (Included (record { object = record { 0 = ob }; partner = record { 0 = 0 } })) (Included (record { object = record { 0 = ob }; partner = record { 0 = 65535 } }))) gs
    → IsStrictlySortedBy grant_cmp gs → IsStrictlySortedBy txn_cmp (partners_of found)
partners_sorted ob gs found are up =
    sorted ob found (subst (AllByRecursion (λ g. g.object.0 ≡ ob)) (sym are) (all-on ob gs))
    (subst (IsStrictlySortedBy grant_cmp) (sym are) (IsStrictlySortedBy-filter grant_cmp (on ob) gs up))

pub none_sorted : IsStrictlySortedBy txn_cmp []
unfolding IsStrictlySortedBy
none_sorted = tt
