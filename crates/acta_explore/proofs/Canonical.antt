-- Equivalent points have equal keys.
use Rattle.std.proofs.Common.{◌≡◌, ◌<◌, ◌≤◌, ℕ, ◌+◌, ◌-◌, suc, Bool, true, false, true≢false, ◌||◌, cond, List, [], ◌∷◌, Some, filter, length, get_or, drop, is_some, refl, sym, ap, ◌∙◌, arith, inl, inr}
use Rattle.std.specs.Cmp.{IsTotalOrder}
use Rattle.std.specs.List.{All, AllByRecursion, list_any}
use Rattle.std.specs.List.Sorted.{IsSortedByKey, IsStrictlySortedBy}
use Rattle.std.specs.Map.{lookup}
use Rattle.std.specs.Ordering.{is_lt, nat_cmp, ordering_then}
use Rattle.std.specs.declared.cmp.Ordering.TheVariants.{Less, Equal}
use Rattle.std.proofs.lemmas.Bool.{cases_order, eq-eqb, ne_eqb}
use Rattle.std.proofs.lemmas.Bool.Decides.{nat_tests}
use Rattle.std.proofs.lemmas.Cmp.{nat_cmp_total, on_total, then_total}
use Rattle.std.proofs.lemmas.List.Elements.{All-cons, All-head, All-nil, All-tail}
use Rattle.std.proofs.lemmas.List.Sorted.{ranks_by, sorted_far}
use Rattle.std.proofs.lemmas.Map.Lookups.{exact_unsigned}
use Rattle.acta_sets.specs.declared.permit.Permit.{Permit}
use Rattle.acta_sets.specs.Permits.{is_listed, is_permit, permit_cmp}
use Rattle.acta_machine.specs.Summary.{Summary}
use Rattle.acta_machine.proofs.FamilyTies.{kept-many}
use Rattle.acta_explore.specs.declared.key.Key.{Key}
use Rattle.acta_explore.specs.declared.key.LineOp.{LineOp}
use Rattle.acta_explore.specs.declared.key.Txn.{Txn}
use Rattle.acta_explore.specs.Equivalence.{known, is_on, AreApart, AreEquivalent, AreSameByObject}
use Rattle.acta_explore.specs.Points.{Point}
use Rattle.acta_explore.specs.Programs.{Programs}
use Rattle.acta_explore.specs.inside.Keys.{IsKeyOf, IsTrimmed, no_txn}
use Rattle.acta_explore.specs.inside.Merging.{AreKeyed, points_of}
use Rattle.acta_explore.proofs.Comparing.{AreSameKeys, key_test, keys-tied, same-back}
use Rattle.acta_explore.proofs.Edges.{once-edges, sorted-edges-same}
use Rattle.acta_explore.proofs.Ending.{then-equal}
use Rattle.acta_explore.proofs.Looping.{past}
use Rattle.acta_explore.proofs.OrderedSets.{same-rise}
use Rattle.acta_explore.proofs.Pairs.{Pairs, all-map, pairs-from}

-- records of transactions, where the last is that of one that has begun
same-items : {X : Type 0} (xs ys : List X) (d : X) → length xs ≡ length ys → ((i : ℕ) → get_or xs i d ≡ get_or ys i d) → xs ≡ ys
same-items [] [] d many same = refl
same-items [] (y ∷ ys) d many same = absurd (omega (arith, many))
same-items (x ∷ xs) [] d many same = absurd (omega (arith, many))
same-items (x ∷ xs) (y ∷ ys) d many same =
    let head : x ≡ y = same 0 in
    let tail : xs ≡ ys = same-items xs ys d (omega (arith, many)) (λ i. same (suc i)) in
    λ i. head i ∷ tail i

none-longer : (xs ys : List Txn) → IsTrimmed ys → ((t : ℕ) → get_or xs t no_txn ≡ get_or ys t no_txn) → length xs < length ys → ⊥
none-longer xs ys trimmed same less =
    let last : length ys ≡ (length ys - 1) + 1 = omega (arith, less) in
    trimmed (length ys - 1) last (sym (same (length ys - 1)) ∙ past xs (length ys - 1) no_txn (omega (arith, less)))

same-txns : (xs ys : List Txn) → IsTrimmed xs → IsTrimmed ys → ((t : ℕ) → get_or xs t no_txn ≡ get_or ys t no_txn) → xs ≡ ys
same-txns xs ys here there same = elim (cases_order (length xs) (length ys)) [
  | inl many ↦ same-items xs ys no_txn many same
  | inr differ ↦ elim differ [
    | inl less ↦ absurd (none-longer xs ys there same less)
    | inr more ↦ absurd (none-longer ys xs here (λ t. sym (same t)) more)
  ]
]

-- operations sorted by object
abbrev pub Up : LineOp → LineOp → Type 0
Up o p = o.held.ob.0 ≤ p.held.ob.0

not-below : (a b : ℕ) → is_lt (nat_cmp b a) ≡ false → a ≤ b
not-below a b h = grind (arith, nat_tests)

ops-up : (xs : List LineOp) → IsSortedByKey (λ o. o.held.ob.0) nat_cmp xs → Pairs Up xs
ops-up xs sorted =
    pairs-from Up xs (λ i j d less within. not-below (get_or xs i d).held.ob.0 (get_or xs j d).held.ob.0
    (sorted_far (λ o p. is_lt (nat_cmp o.held.ob.0 p.held.ob.0)) (ranks_by nat_cmp_total (λ (o : LineOp). o.held.ob.0)) xs sorted i j d (omega (arith, less)) within))

on-own : (x : LineOp) (xs : List LineOp) (ob : ℕ) → x.held.ob.0 ≡ ob → filter (is_on ob) (x ∷ xs) ≡ x ∷ filter (is_on ob) xs
on-own x xs ob e = ap (λ (b : Bool). cond b (x ∷ filter (is_on ob) xs) (filter (is_on ob) xs)) (eq-eqb x.held.ob.0 ob e)

none-on : (ob : ℕ) (xs : List LineOp) → AllByRecursion (λ o. ob < o.held.ob.0) xs → filter (is_on ob) xs ≡ []
none-on ob [] all = refl
none-on ob (x ∷ xs) all =
    ap (λ (b : Bool). cond b (x ∷ filter (is_on ob) xs) (filter (is_on ob) xs)) (ne_eqb x.held.ob.0 ob (λ e. omega (arith, e, all.0))) ∙ none-on ob xs all.1

above-all : (ob : ℕ) (y : LineOp) (ys : List LineOp) → Pairs Up (y ∷ ys) → ob < y.held.ob.0 → AllByRecursion (λ o. ob < o.held.ob.0) (y ∷ ys)
above-all ob y ys up less = (less, all-map (Up y) (λ o. ob < o.held.ob.0) (λ o more. omega (arith, less, more)) ys up.0)

not-nil : {X : Type 0} (x : X) (xs : List X) → x ∷ xs ≡ [] → ⊥
not-nil x xs e = cc

tail-same : {X : Type 0} (b : Bool) (x : X) (us vs : List X) → cond b (x ∷ us) us ≡ cond b (x ∷ vs) vs → us ≡ vs
tail-same true x us vs e = ap (λ (l : List _). drop 1 l) e
tail-same false x us vs e = e

same-ops : (xs ys : List LineOp) → Pairs Up xs → Pairs Up ys → AreSameByObject xs ys → xs ≡ ys
same-ops [] [] here there same = refl
same-ops [] (y ∷ ys) here there same = absurd (not-nil y (filter (is_on y.held.ob.0) ys) (sym (on-own y ys y.held.ob.0 refl) ∙ sym (same y.held.ob.0)))
same-ops (x ∷ xs) [] here there same = absurd (not-nil x (filter (is_on x.held.ob.0) xs) (sym (on-own x xs x.held.ob.0 refl) ∙ same x.held.ob.0))
same-ops (x ∷ xs) (y ∷ ys) here there same = elim (cases_order x.held.ob.0 y.held.ob.0) [
  | inl e ↦ by-head e (same-ops xs ys here.1 there.1)
  | inr differ ↦ elim differ [
    | inl less ↦ absurd (not-nil x (filter (is_on x.held.ob.0) xs) (sym (on-own x xs x.held.ob.0 refl) ∙ (same x.held.ob.0 ∙ none-on x.held.ob.0 (y ∷ ys) (above-all x.held.ob.0 y ys there less))))
    | inr more ↦ absurd (not-nil y (filter (is_on y.held.ob.0) ys) (sym (on-own y ys y.held.ob.0 refl) ∙ (sym (same y.held.ob.0) ∙ none-on y.held.ob.0 (x ∷ xs) (above-all y.held.ob.0 x xs here more))))
  ]
]
  where
    by-head : x.held.ob.0 ≡ y.held.ob.0 → (AreSameByObject xs ys → xs ≡ ys) → x ∷ xs ≡ y ∷ ys
    by-head e later =
        let ob = y.held.ob.0 in
        let lists : x ∷ filter (is_on ob) xs ≡ y ∷ filter (is_on ob) ys = sym (on-own x xs ob e) ∙ (same ob ∙ on-own y ys ob refl) in
        let head : x ≡ y = ap (λ (l : List LineOp). get_or l 0 x) lists in
        let tails : AreSameByObject xs ys = λ object. tail-same (is_on object x) x (filter (is_on object) xs) (filter (is_on object) ys) (same object ∙ ap (λ (z : LineOp). filter (is_on object) (z ∷ ys)) (sym head)) in
        let tail : xs ≡ ys = later tails in
        λ i. head i ∷ tail i

-- permits that ascend
permit-total : IsTotalOrder permit_cmp
permit-total = then_total (on_total (λ p. p.to.0) nat_cmp_total) (then_total (on_total (λ p. p.object.0) nat_cmp_total) (on_total (λ p. p.by.0) nat_cmp_total))

permit-exact : (p q : Permit) → permit_cmp p q ≡ Equal → p ≡ q
permit-exact p q h =
    let (a, b) = then-equal (nat_cmp p.to.0 q.to.0) (ordering_then (nat_cmp p.object.0 q.object.0) (nat_cmp p.by.0 q.by.0)) h in
    let (c, d) = then-equal (nat_cmp p.object.0 q.object.0) (nat_cmp p.by.0 q.by.0) b in
    let to = exact_unsigned p.to.0 q.to.0 a in
    let object = exact_unsigned p.object.0 q.object.0 c in
    let by = exact_unsigned p.by.0 q.by.0 d in
    λ n. record { by = record { 0 = by n }; to = record { 0 = to n }; object = record { 0 = object n } }

permits-up : (ps : List Permit) → IsStrictlySortedBy permit_cmp ps → Pairs (λ p q. permit_cmp p q ≡ Less) ps
unfolding IsStrictlySortedBy
permits-up [] up = tt
permits-up (p ∷ ps) up = (up.0, permits-up ps up.1)

-- the permit is in the list
abbrev pub Lists : List Permit → Permit → Type 0
Lists ps p = is_listed ps p.by.0 p.to.0 p.object.0 ≡ true

is-itself : (p : Permit) → is_permit p.by.0 p.to.0 p.object.0 p ≡ true
is-itself p = grind (arith, nat_tests)

or-right : (a b : Bool) → b ≡ true → (a || b) ≡ true
or-right true b h = refl
or-right false b h = h

all-listed : (ps : List Permit) → AllByRecursion (Lists ps) ps
all-listed [] = tt
all-listed (p ∷ ps) = (
  ap (λ (b : Bool). b || is_listed ps p.by.0 p.to.0 p.object.0) (is-itself p),
  all-map (Lists ps) (Lists (p ∷ ps)) (λ q there. or-right (is_permit q.by.0 q.to.0 q.object.0 p) (is_listed ps q.by.0 q.to.0 q.object.0) there) ps (all-listed ps),
)

permit-same : (p q : Permit) → is_permit p.by.0 p.to.0 p.object.0 q ≡ true → q ≡ p
permit-same p q h =
    let to : q.to.0 ≡ p.to.0 = grind (arith, nat_tests) in
    let object : q.object.0 ≡ p.object.0 = grind (arith, nat_tests) in
    let by : q.by.0 ≡ p.by.0 = grind (arith, nat_tests) in
    λ n. record { by = record { 0 = by n }; to = record { 0 = to n }; object = record { 0 = object n } }

listed-passes : (test : Permit → Bool) (p : Permit) (qs : List Permit) → Lists qs p → test p ≡ true → list_any test qs ≡ true
listed-passes test p [] there h = absurd (true≢false (sym there))
listed-passes test p (q ∷ qs) there h = by (is_permit p.by.0 p.to.0 p.object.0 q) refl there (λ there. listed-passes test p qs there h)
  where
    by : (b : Bool) → is_permit p.by.0 p.to.0 p.object.0 q ≡ b → (b || is_listed qs p.by.0 p.to.0 p.object.0) ≡ true → (Lists qs p → list_any test qs ≡ true) → (test q || list_any test qs) ≡ true
    by true is there later = ap (λ (b : Bool). b || list_any test qs) (ap test (permit-same p q is) ∙ h)
    by false is there later = or-right (test q) (list_any test qs) (later there)

any-passes : (test : Permit → Bool) (ps qs : List Permit) → AllByRecursion (Lists qs) ps → list_any test ps ≡ true → list_any test qs ≡ true
any-passes test [] qs all h = absurd (true≢false (sym h))
any-passes test (p ∷ ps) qs all h = by (test p) refl h (any-passes test ps qs all.1)
  where
    by : (b : Bool) → test p ≡ b → (b || list_any test ps) ≡ true → (list_any test ps ≡ true → list_any test qs ≡ true) → list_any test qs ≡ true
    by true passes h later = listed-passes test p qs all.0 passes
    by false fails h later = later h

both-ways : (a b : Bool) → (a ≡ true → b ≡ true) → (b ≡ true → a ≡ true) → a ≡ b
both-ways true true f g = refl
both-ways true false f g = sym (f refl)
both-ways false true f g = g refl
both-ways false false f g = refl

same-permits : (ps qs : List Permit) → IsStrictlySortedBy permit_cmp ps → IsStrictlySortedBy permit_cmp qs → ((h t object : ℕ) → is_listed ps h t object ≡ is_listed qs h t object) → ps ≡ qs
same-permits ps qs here there same =
    same-rise permit_cmp permit-total permit-exact ps qs (permits-up ps here) (permits-up qs there)
    (λ test. both-ways (list_any test ps) (list_any test qs)
    (any-passes test ps qs (all-map (Lists ps) (Lists qs) (λ p is. sym (same p.by.0 p.to.0 p.object.0) ∙ is) ps (all-listed ps)))
    (any-passes test qs ps (all-map (Lists qs) (Lists ps) (λ p is. same p.by.0 p.to.0 p.object.0 ∙ is) qs (all-listed qs))))

-- equivalent points have equal keys
pub same-keys : {A : Type 0} (programs : Programs A) (p q : Point A) (a b : Key A) → IsKeyOf programs p a → IsKeyOf programs q b → AreEquivalent programs p q → AreSameKeys a b
same-keys programs p q a b here there same =
    let many : length p.state.kept ≡ length q.state.kept = sym (kept-many p.state.model p.state.kept) ∙ (ap (λ (s : Summary). s.kept) same.rest ∙ kept-many q.state.model q.state.kept) in
    let record_same : (t : ℕ) → get_or a.txns.items t no_txn ≡ get_or b.txns.items t no_txn =
    λ t. here.txns t ∙ (ap (λ (s : Summary). record { status = s.status t; class = s.class t; parent = s.parent t }) same.rest ∙ sym (there.txns t)) in
    record {
      kept = here.kept ∙ (many ∙ sym there.kept);
      lines = here.lines ∙ (same.lines ∙ sym there.lines);
      txns = same-txns a.txns.items b.txns.items here.trimmed there.trimmed record_same;
      edges = sorted-edges-same (known p).edges (known q).edges a.edges.items b.edges.items (once-edges p.state.model p.state.kept) (once-edges q.state.model q.state.kept) same.edges here.edges there.edges here.edges_ascend there.edges_ascend;
      operations = same-ops a.operations.items b.operations.items (ops-up a.operations.items here.operations_ascend) (ops-up b.operations.items there.operations_ascend)
          (λ ob. here.operations ob ∙ (same.operations ob ∙ sym (there.operations ob)));
      permits = same-permits a.permits.items b.permits.items here.permits_ascend there.permits_ascend
          (λ h t object. here.permits h t object ∙ (ap (λ (s : Summary). s.permits h t object) same.rest ∙ sym (there.permits h t object)));
    }

-- if no key of the list is the point's, no point of it is equivalent
pub apart-keyed : {A : Type 0} (programs : Programs A) (p : Point A) (key : Key A) (entries : List (Key A × Point A)) → AreKeyed programs entries → IsKeyOf programs p key → is_some (lookup (key_test key) entries) ≡ false → All (λ x. AreApart programs x p) (points_of entries)
apart-keyed programs p key [] keyed is none = All-nil (λ x. AreApart programs x p)
apart-keyed programs p key (e ∷ entries) keyed is none =
    by (key_test key e.0) refl none (apart-keyed programs p key entries (All-tail (λ e. IsKeyOf programs e.1 e.0) e entries keyed) is)
  where
    head : IsKeyOf programs e.1 e.0
    head = All-head (λ e. IsKeyOf programs e.1 e.0) e entries keyed

    by : (b : Bool) → key_test key e.0 ≡ b → is_some (cond b (Some e.1) (lookup (key_test key) entries)) ≡ false → (is_some (lookup (key_test key) entries) ≡ false → All (λ x. AreApart programs x p) (points_of entries)) → All (λ x. AreApart programs x p) (e.1 ∷ points_of entries)
    by true tied none later = absurd (true≢false none)
    by false differ none later =
        All-cons (λ x. AreApart programs x p) e.1 (points_of entries)
        (λ same. true≢false (sym (keys-tied key e.0 (same-back (same-keys programs e.1 p e.0 key head is same))) ∙ differ)) (later none)
