-- The grants of each transaction as one list of permits, in order.
use Rattle.std.specs.Prelude.{◌≡◌, ◌<◌, ◌+◌, ℕ, Bool, true, false, ◌&&◌, ◌||◌, ◌==◌, nat_lt, List, [], ◌∷◌, ◌++◌, length}
use Rattle.std.proofs.Common.{arith, refl, sym, ap, ◌∙◌, Ordering, Less, Equal}
use Rattle.std.proofs.lemmas.Bool.Decides.{nat_tests}
use Rattle.std.proofs.lemmas.List.{length-map, get_or_past}
use Rattle.std.proofs.lemmas.List.Folds.{list_any-append}
use Rattle.std.specs.List.{AllByRecursion}
use Rattle.std.specs.List.Sorted.{IsStrictlySortedBy}
use Rattle.std.specs.Ordering.{nat_cmp, ordering_then}
use Rattle.std.specs.BTreeSet.{BTreeSet}
use Rattle.acta_table.specs.declared.event.TxnId.{TxnId}
use Rattle.acta_sets.specs.declared.grant.Grant.{Grant}
use Rattle.acta_sets.specs.declared.permit.Permit.{Permit}
use Rattle.acta_sets.specs.Permits.{has_grant, is_grant, grant_cmp, is_permit, is_listed, permit_cmp}
use Rattle.acta_sets.specs.inside.Granted.{grant_lists, grants_at, is_granted, permits_to}
use Rattle.acta_sets.proofs.Grants.{and-false}

both_or : (a b c : Bool) → ((a && b) || (a && c)) ≡ (a && (b || c))
both_or true b c = refl
both_or false b c = refl

listed_to : (to : TxnId) (gs : List Grant) (h t object : ℕ) → is_listed (permits_to to gs) h t object ≡ ((to.0 == t) && has_grant gs object h)
listed_to to [] h t object = sym (and-false (to.0 == t))
listed_to to (g ∷ gs) h t object =
    ap (λ b. ((to.0 == t) && is_grant object h g) || b) (listed_to to gs h t object)
    ∙ both_or (to.0 == t) (is_grant object h g) (has_grant gs object h)

-- the permits of the transactions below a number, and of that number
one_more : (t n : ℕ) (b c : Bool) → (n ≡ t → c ≡ b) → ((nat_lt t n && b) || ((n == t) && c)) ≡ (nat_lt t (n + 1) && b)
one_more t n b c here = grind (arith, nat_tests, here)

pub listed_more : (table : List (BTreeSet Grant)) (permits : List Permit) (to : TxnId) (gs : List Grant) → grants_at table to.0 ≡ gs
    → ((h t object : ℕ) → is_listed permits h t object ≡ (nat_lt t to.0 && is_granted table t object h))
    → (h t object : ℕ) → is_listed (permits ++ permits_to to gs) h t object ≡ (nat_lt t (to.0 + 1) && is_granted table t object h)
listed_more table permits to gs at before h t object =
    list_any-append (is_permit h t object) permits (permits_to to gs)
    ∙ (λ i. before h t object i || listed_to to gs h t object i)
    ∙ one_more t to.0 (is_granted table t object h) (has_grant gs object h)
    (λ same. ap (λ ks. has_grant ks object h) (sym at ∙ ap (grants_at table) same))

pub listed_none : (b : Bool) (t : ℕ) → false ≡ (nat_lt t 0 && b)
listed_none b t = grind (arith, nat_tests)

-- there are none past the end
pub listed_all : (table : List (BTreeSet Grant)) (permits : List Permit)
    → ((h t object : ℕ) → is_listed permits h t object ≡ (nat_lt t (length table) && is_granted table t object h))
    → (h t object : ℕ) → is_listed permits h t object ≡ is_granted table t object h
listed_all table permits all h t object = all h t object ∙ of (nat_lt t (length table)) refl
  where
    of : (b : Bool) → nat_lt t (length table) ≡ b → (b && is_granted table t object h) ≡ is_granted table t object h
    of true within = refl
    of false past =
        let long = length-map table (λ s. s.keys) in
        sym (ap (λ ks. has_grant ks object h) (get_or_past (grant_lists table) t [] (grind (arith, nat_tests, past, long))))

-- ---- in order
all_append : {X : Type 0} (P : X → Type 0) (xs ys : List X) → AllByRecursion P xs → AllByRecursion P ys → AllByRecursion P (xs ++ ys)
all_append P [] ys all more = more
all_append P (x ∷ xs) ys all more = (all.0, all_append P xs ys all.1 more)

all_weaker : {X : Type 0} (P Q : X → Type 0) (xs : List X) → ((x : X) → P x → Q x) → AllByRecursion P xs → AllByRecursion Q xs
all_weaker P Q [] weaker all = tt
all_weaker P Q (x ∷ xs) weaker all = (weaker x all.0, all_weaker P Q xs weaker all.1)

sorted_append : {X : Type 0} (c : X → X → Ordering) (xs ys : List X) → IsStrictlySortedBy c xs → IsStrictlySortedBy c ys
    → AllByRecursion (λ x. AllByRecursion (λ y. c x y ≡ Less) ys) xs → IsStrictlySortedBy c (xs ++ ys)
unfolding IsStrictlySortedBy
sorted_append c [] ys up more less = more
sorted_append c (x ∷ xs) ys up more less =
    (all_append (λ y. c x y ≡ Less) xs ys up.0 less.0, sorted_append c xs ys up.1 more less.1)

equal-self : (n : ℕ) → nat_cmp n n ≡ Equal
equal-self n = grind (arith, nat_tests)

less-by : (m n : ℕ) → m < n → nat_cmp m n ≡ Less
less-by m n below = grind (arith, nat_tests, below)

-- the permits of one transaction are in the order of its grants
all_to : (to : TxnId) (g : Grant) (gs : List Grant) → AllByRecursion (λ k. grant_cmp g k ≡ Less) gs
    → AllByRecursion (λ q. permit_cmp (record { by = g.partner; to = to; object = g.object }) q ≡ Less) (permits_to to gs)
all_to to g [] all = tt
all_to to g (k ∷ gs) all =
    (ap (λ o. ordering_then o (grant_cmp g k)) (equal-self to.0) ∙ all.0, all_to to g gs all.1)

sorted_to : (to : TxnId) (gs : List Grant) → IsStrictlySortedBy grant_cmp gs → IsStrictlySortedBy permit_cmp (permits_to to gs)
unfolding IsStrictlySortedBy
sorted_to to [] up = tt
sorted_to to (g ∷ gs) up = (all_to to g gs up.0, sorted_to to gs up.1)

-- the permits are those of the transactions below this number
abbrev pub AreBelow : ℕ → List Permit → Type 0
AreBelow n permits = AllByRecursion (λ p. p.to.0 < n) permits

below_to : (to : TxnId) (gs : List Grant) → AreBelow (to.0 + 1) (permits_to to gs)
below_to to [] = tt
below_to to (g ∷ gs) = (omega arith, below_to to gs)

pub below_more : (permits : List Permit) (to : TxnId) (gs : List Grant) → AreBelow to.0 permits → AreBelow (to.0 + 1) (permits ++ permits_to to gs)
below_more permits to gs below =
    all_append (λ p. p.to.0 < to.0 + 1) permits (permits_to to gs)
    (all_weaker (λ p. p.to.0 < to.0) (λ p. p.to.0 < to.0 + 1) permits (λ p less. omega arith) below) (below_to to gs)

all_less : (p : Permit) (to : TxnId) (gs : List Grant) → p.to.0 < to.0 → AllByRecursion (λ q. permit_cmp p q ≡ Less) (permits_to to gs)
all_less p to [] below = tt
all_less p to (g ∷ gs) below =
    (ap (λ o. ordering_then o (ordering_then (nat_cmp p.object.0 g.object.0) (nat_cmp p.by.0 g.partner.0))) (less-by p.to.0 to.0 below), all_less p to gs below)

pub sorted_more : (permits : List Permit) (to : TxnId) (gs : List Grant) → AreBelow to.0 permits → IsStrictlySortedBy permit_cmp permits → IsStrictlySortedBy grant_cmp gs
    → IsStrictlySortedBy permit_cmp (permits ++ permits_to to gs)
sorted_more permits to gs below up own =
    sorted_append permit_cmp permits (permits_to to gs) up (sorted_to to gs own)
    (all_weaker (λ p. p.to.0 < to.0) (λ p. AllByRecursion (λ q. permit_cmp p q ≡ Less) (permits_to to gs)) permits (λ p less. all_less p to gs less) below)

pub sorted_none : IsStrictlySortedBy permit_cmp []
unfolding IsStrictlySortedBy
sorted_none = tt
