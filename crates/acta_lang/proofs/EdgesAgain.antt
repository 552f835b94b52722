-- Start edges that are in canonical order, each once, are unchanged.
use Rattle.std.proofs.Common.{◌≡◌, ℕ, ◌+◌, ◌*◌, ◌≤◌, ◌<◌, Bool, true, false, ◌||◌, ◌==◌, List, [], ◌∷◌, filter, flat_map, cond, slice_get, unwrap_or, inl, inr, refl, sym, ap, subst, ◌∙◌, true≢false, arith}
use Rattle.std.specs.declared.cmp.Ordering.TheVariants.{Less, Equal, Greater}
use Rattle.std.specs.Cmp.{nat_cmp_is}
use Rattle.std.specs.List.{AllByRecursion}
use Rattle.std.specs.List.Sorted.{IsStrictlySortedBy}
use Rattle.std.specs.Ordering.{nat_cmp, ordering_then}
use Rattle.std.proofs.lemmas.Bool.{and_from, and_parts, eq-eqb, cases_Bool, cases_order, eqb-true, false_from_ne_true, or_from}
use Rattle.acta_table.specs.declared.dep.Dep.{Dep}
use Rattle.acta_table.specs.declared.dep.Dep.TheVariants.{Cd, Scd, Ad, Wd, Td, Ed, Cmd, Bd, Sd, Bcd, Bad, Wcd}
use Rattle.acta_table.specs.declared.start_edges.Dependent.{Dependent}
use Rattle.acta_table.specs.declared.start_edges.Dependent.TheVariants.{Starter, Started}
use Rattle.acta_table.specs.declared.start_edges.StartEdge.{StartEdge}
use Rattle.acta_table.specs.Dependencies.{all_kinds, code_of}
use Rattle.acta_table.specs.Starts.{both_of, each_start_edge_once, is_listed, rank_of, same_start_edge, start_edge_cmp}
use Rattle.acta_table.proofs.StartOrder.{in_order}

-- the rank of an edge in the canonical order
key : StartEdge → ℕ
key e = 2 * code_of e.kind + rank_of e.dependent

less_is : (a b : ℕ) → nat_cmp a b ≡ Less → a < b
less_is a b h = elim (cases_order a b) [
  | inl e ↦ let clash : Equal ≡ Less = nat_cmp_is a b Equal e ∙ h in absurd (cc)
  | inr o ↦ elim o [
    | inl lt ↦ lt
    | inr gt ↦ let clash : Greater ≡ Less = nat_cmp_is a b Greater gt ∙ h in absurd (cc)
  ]
]

then_less : (a b c d : ℕ) → c ≤ 1 → d ≤ 1 → ordering_then (nat_cmp a b) (nat_cmp c d) ≡ Less → 2 * a + c < 2 * b + d
then_less a b c d small also h = elim (cases_order a b) [
  | inl e ↦ let rest : c < d = less_is c d (ap (λ o. ordering_then o (nat_cmp c d)) (nat_cmp_is a b Equal e) ∙ h) in omega (arith, e, rest)
  | inr o ↦ elim o [
    | inl lt ↦ omega (arith, lt, small, also)
    | inr gt ↦ let clash : Greater ≡ Less = ap (λ o. ordering_then o (nat_cmp c d)) (nat_cmp_is a b Greater gt) ∙ h in absurd (cc)
  ]
]

rank_small : (d : Dependent) → rank_of d ≤ 1
rank_small Starter = omega arith
rank_small Started = omega arith

less_key : (e f : StartEdge) → start_edge_cmp e f ≡ Less → key e < key f
unfolding key
less_key e f h = then_less (code_of e.kind) (code_of f.kind) (rank_of e.dependent) (rank_of f.dependent) (rank_small e.dependent) (rank_small f.dependent) h

kind_at : ℕ → Dep
kind_at n = unwrap_or (slice_get all_kinds n) Cd

kind_back : (k : Dep) → kind_at (code_of k) ≡ k
unfolding kind_at
kind_back Cd = refl
kind_back Scd = refl
kind_back Ad = refl
kind_back Wd = refl
kind_back Td = refl
kind_back Ed = refl
kind_back Cmd = refl
kind_back Bd = refl
kind_back Sd = refl
kind_back Bcd = refl
kind_back Bad = refl
kind_back Wcd = refl

dependent_at : ℕ → Dependent
dependent_at n = cond (n == 0) Starter Started

dependent_back : (d : Dependent) → dependent_at (rank_of d) ≡ d
unfolding dependent_at
dependent_back Starter = refl
dependent_back Started = refl

-- edges that count as the same are equal
same_is : (e f : StartEdge) → same_start_edge e f ≡ true → e ≡ f
same_is e f h =
    let parts = and_parts (code_of e.kind == code_of f.kind) (rank_of e.dependent == rank_of f.dependent) h in
    let kinds = sym (kind_back e.kind) ∙ ap kind_at (eqb-true (code_of e.kind) (code_of f.kind) parts.0) ∙ kind_back f.kind in
    let dependents = sym (dependent_back e.dependent) ∙ ap dependent_at (eqb-true (rank_of e.dependent) (rank_of f.dependent) parts.1) ∙ dependent_back f.dependent in
    λ i. record { kind = kinds i; dependent = dependents i }

same_self : (e : StartEdge) → same_start_edge e e ≡ true
same_self e = and_from _ _ (eq-eqb (code_of e.kind) (code_of e.kind) refl) (eq-eqb (rank_of e.dependent) (rank_of e.dependent) refl)

below_other : (e f : StartEdge) → key e < key f → same_start_edge e f ≡ false
below_other e f lt = false_from_ne_true _ (λ h. let same : key e ≡ key f = ap key (same_is e f h) in omega (arith, same, lt))

above_other : (e f : StartEdge) → key f < key e → same_start_edge e f ≡ false
above_other e f lt = false_from_ne_true _ (λ h. let same : key e ≡ key f = ap key (same_is e f h) in omega (arith, same, lt))

abbrev IsAbove : StartEdge → List StartEdge → Type 0
IsAbove e es = AllByRecursion (λ f. key e < key f) es

abbrev Ascends : List StartEdge → Type 0
Ascends [] = Unit {0}
Ascends (e ∷ es) = IsAbove e es × Ascends es

above_from : (e : StartEdge) (es : List StartEdge) → AllByRecursion (λ f. start_edge_cmp e f ≡ Less) es → IsAbove e es
above_from e [] h = tt
above_from e (f ∷ es) h = (less_key e f h.0, above_from e es h.1)

ascends_from : (es : List StartEdge) → IsStrictlySortedBy start_edge_cmp es → Ascends es
unfolding IsStrictlySortedBy
ascends_from [] h = tt
ascends_from (e ∷ es) h = (above_from e es h.0, ascends_from es h.1)

-- what stands above an edge isn't it, and has no place where only it stood
none_above : (e : StartEdge) (es : List StartEdge) → IsAbove e es → is_listed es e ≡ false
none_above e [] h = refl
none_above e (f ∷ es) h = or_from _ _ (below_other e f h.0) (none_above e es h.1)

above_all : (e f : StartEdge) (es : List StartEdge) → key e < key f → IsAbove f es → IsAbove e es
above_all e f [] lt h = tt
above_all e f (g ∷ es) lt h = (let more : key f < key g = h.0 in omega (arith, lt, more), above_all e f es lt h.1)

listed_above : (e f : StartEdge) (all : List StartEdge) → IsAbove e all → is_listed all f ≡ true → key e < key f
listed_above e f [] h listed = absurd (true≢false (sym listed))
listed_above e f (g ∷ all) h listed = elim (cases_Bool (same_start_edge f g)) [
  | inl same ↦ let is : key f ≡ key g = ap key (same_is f g same) in let lt : key e < key g = h.0 in omega (arith, is, lt)
  | inr other ↦ listed_above e f all h.1 (ap (λ b. b || is_listed all f) (sym other) ∙ listed)
]

same_filter : (p q : StartEdge → Bool) (xs : List StartEdge) → AllByRecursion (λ x. p x ≡ q x) xs → filter p xs ≡ filter q xs
same_filter p q [] h = refl
same_filter p q (x ∷ xs) h = λ i. cond (h.0 i) (x ∷ same_filter p q xs h.1 i) (same_filter p q xs h.1 i)

without_first : (e : StartEdge) (es all : List StartEdge) → IsAbove e all → AllByRecursion (λ x. is_listed (e ∷ es) x ≡ is_listed es x) all
without_first e es [] h = tt
without_first e es (x ∷ all) h = (ap (λ b. b || is_listed es x) (above_other x e h.0), without_first e es all h.1)

listed_after : (x : StartEdge) (all es : List StartEdge) → IsAbove x es → AllByRecursion (λ e. is_listed (x ∷ all) e ≡ true) es → AllByRecursion (λ e. is_listed all e ≡ true) es
listed_after x all [] above h = tt
listed_after x all (e ∷ es) above h =
    (ap (λ b. b || is_listed all e) (sym (above_other e x above.0)) ∙ h.0, listed_after x all es above.1 h.1)

kept : (all es : List StartEdge) → Ascends all → Ascends es → AllByRecursion (λ e. is_listed all e ≡ true) es → filter (is_listed es) all ≡ es
kept [] [] a b h = refl
kept [] (e ∷ es) a b h = absurd (true≢false (sym h.0))
kept (x ∷ all) [] a b h = kept all [] a.1 tt tt
kept (x ∷ all) (e ∷ es) a b h = elim (cases_Bool (same_start_edge e x)) [
  | inl same ↦
      let is = same_is e x same in
      let above : IsAbove e all = subst (λ (f : StartEdge). IsAbove f all) (sym is) a.0 in
      let over : IsAbove x es = subst (λ (f : StartEdge). IsAbove f es) is b.0 in
      let listed : is_listed (e ∷ es) x ≡ true = ap (λ f. same_start_edge x f || is_listed es x) is ∙ ap (λ b. b || is_listed es x) (same_self x) in
      ap (λ b. cond b (x ∷ filter (is_listed (e ∷ es)) all) (filter (is_listed (e ∷ es)) all)) listed
      ∙ (λ i. sym is i ∷ (same_filter (is_listed (e ∷ es)) (is_listed es) all (without_first e es all above) ∙ kept all es a.1 b.1 (listed_after x all es over h.1)) i)
  | inr other ↦
      let listed : is_listed all e ≡ true = ap (λ b. b || is_listed all e) (sym other) ∙ h.0 in
      let lt : key x < key e = listed_above x e all a.0 listed in
      let over : IsAbove x es = above_all x e es lt b.0 in
      let absent : is_listed (e ∷ es) x ≡ false = or_from _ _ (below_other x e lt) (none_above x es over) in
      ap (λ b. cond b (x ∷ filter (is_listed (e ∷ es)) all) (filter (is_listed (e ∷ es)) all)) absent
      ∙ kept all (e ∷ es) a.1 b (listed, listed_after x all es over h.1)
]

is_there : (k : Dep) (d : Dependent) → is_listed (flat_map both_of all_kinds) (record { kind = k; dependent = d }) ≡ true
is_there Cd Starter = refl
is_there Cd Started = refl
is_there Scd Starter = refl
is_there Scd Started = refl
is_there Ad Starter = refl
is_there Ad Started = refl
is_there Wd Starter = refl
is_there Wd Started = refl
is_there Td Starter = refl
is_there Td Started = refl
is_there Ed Starter = refl
is_there Ed Started = refl
is_there Cmd Starter = refl
is_there Cmd Started = refl
is_there Bd Starter = refl
is_there Bd Started = refl
is_there Sd Starter = refl
is_there Sd Started = refl
is_there Bcd Starter = refl
is_there Bcd Started = refl
is_there Bad Starter = refl
is_there Bad Started = refl
is_there Wcd Starter = refl
is_there Wcd Started = refl

are_there : (es : List StartEdge) → AllByRecursion (λ e. is_listed (flat_map both_of all_kinds) e ≡ true) es
are_there [] = tt
are_there (e ∷ es) = (is_there e.kind e.dependent, are_there es)

pub once_again : (es : List StartEdge) → IsStrictlySortedBy start_edge_cmp es → each_start_edge_once es ≡ es
once_again es sorted = kept (flat_map both_of all_kinds) es (ascends_from (flat_map both_of all_kinds) in_order) (ascends_from es sorted) (are_there es)
