-- The content of keys; points with equal keys are equivalent.
use Rattle.std.proofs.Common.{◌≡◌, ◌<◌, ◌≤◌, ◌==◌, ◌&&◌, ◌⊎◌, ℕ, ◌+◌, Bool, true, false, not, List, [], ◌∷◌, ◌++◌, map, filter, length, get_or, is_some, refl, ap, sym, ◌∙◌, inl, inr, arith}
use Rattle.std.specs.Cmp.{nat_cmp_is}
use Rattle.std.specs.List.{range_with_len, list_any}
use Rattle.std.specs.List.Sorted.{IsPermutation, IsStableByKey}
use Rattle.std.specs.Map.{lookup}
use Rattle.std.specs.Ordering.{nat_cmp, is_lt}
use Rattle.std.specs.declared.cmp.Ordering.{Ordering}
use Rattle.std.specs.declared.cmp.Ordering.TheVariants.{Less, Equal, Greater}
use Rattle.std.proofs.lemmas.Bool.{cases_order}
use Rattle.std.proofs.lemmas.Bool.Decides.{nat_tests}
use Rattle.std.proofs.lemmas.List.{map-append}
use Rattle.std.proofs.lemmas.List.Elements.{All-contains, All-push, All-same, filter_agree}
use Rattle.std.proofs.lemmas.List.FromFn.{get_or-map-range_with_len, length-map-range_with_len}
use Rattle.std.proofs.lemmas.List.Sorted.{list_any-IsPermutation, length_permutation}
use Rattle.indexmap.specs.IndexMap.{insert_entry}
use Rattle.acta_table.specs.declared.answer.Fate.TheVariants.{InProgress}
use Rattle.acta_table.specs.declared.dep.Edge.{Edge}
use Rattle.acta_table.specs.declared.event.Op.TheVariants.{Read}
use Rattle.acta_sets.specs.Permits.{is_listed}
use Rattle.acta_machine.specs.Summary.{Summary}
use Rattle.acta_machine.proofs.FamilyTies.{kept-many}
use Rattle.acta_explore.specs.declared.key.Key.{Key}
use Rattle.acta_explore.specs.declared.key.LineOp.{LineOp}
use Rattle.acta_explore.specs.declared.key.Txn.{Txn}
use Rattle.acta_explore.specs.Equivalence.{known, is_on, without_lists, AreApart, AreEquivalent}
use Rattle.acta_explore.specs.Points.{Point}
use Rattle.acta_explore.specs.Programs.{Programs}
use Rattle.acta_explore.specs.inside.Keys.{IsKeyOf, IsTrimmed, no_txn}
use Rattle.acta_explore.specs.inside.Merging.{AreKeyed, HasLike, IsPut, points_of}
use Rattle.acta_explore.proofs.Canonical.{apart-keyed}
use Rattle.acta_explore.proofs.Comparing.{AreSameKeys, key_test, keys-same, same-back}
use Rattle.acta_explore.proofs.Lookups.{HasKey, found-entry, insert-last}
use Rattle.acta_explore.proofs.Looping.{past}
use Rattle.acta_explore.proofs.Turning.{contains-map}

-- the item at a number, where what follows the last is the default
pub item-of-range : {X : Type 0} (f : ℕ → X) (n t : ℕ) (d : X) → (n ≤ t → f t ≡ d) → get_or (map f (range_with_len 0 n)) t d ≡ f t
item-of-range f n t d beyond = by (cases_order t n)
  where
    less : t < n → get_or (map f (range_with_len 0 n)) t d ≡ f t
    less here = get_or-map-range_with_len f 0 n t t d here (omega arith)

    above : n ≤ t → get_or (map f (range_with_len 0 n)) t d ≡ f t
    above here = let many = length-map-range_with_len f 0 n in past (map f (range_with_len 0 n)) t d (omega (arith, many, here)) ∙ sym (beyond here)

    by : (t ≡ n) ⊎ ((t < n) ⊎ (n < t)) → get_or (map f (range_with_len 0 n)) t d ≡ f t
    by (inl same) = above (omega arith)
    by (inr (inl here)) = less here
    by (inr (inr here)) = above (omega arith)

-- how many of the first records are counted: those from there on are those of transactions that have not begun
pub record IsCountedTo (txn : ℕ → Txn) (t count : ℕ) : Type 0 where
  pub few : count ≤ t
  pub beyond : (u : ℕ) → count ≤ u → u < t → txn u ≡ no_txn
  pub last : (u : ℕ) → count ≡ u + 1 → txn u ≡ no_txn → ⊥

-- the records counted
pub trimmed-range : (txn : ℕ → Txn) (n : ℕ) → ((t : ℕ) → n ≤ t → txn t ≡ no_txn) → ((t : ℕ) → n ≡ t + 1 → txn t ≡ no_txn → ⊥) → IsTrimmed (map txn (range_with_len 0 n))
trimmed-range txn n beyond last t e none = last t (sym (length-map-range_with_len txn 0 n) ∙ e) (sym (item-of-range txn n t no_txn (beyond t)) ∙ none)

-- keys that tie are equal
pub tie-same : (a b : ℕ) → not (is_lt (nat_cmp a b)) && not (is_lt (nat_cmp b a)) ≡ (b == a)
tie-same a b = by (cases_order a b)
  where
    from : (o p : Ordering) → o ≡ nat_cmp a b → p ≡ nat_cmp b a → not (is_lt (nat_cmp a b)) && not (is_lt (nat_cmp b a)) ≡ not (is_lt o) && not (is_lt p)
    from o p e f = λ i. not (is_lt (sym e i)) && not (is_lt (sym f i))

    equal : a ≡ b → true ≡ (b == a)
    equal e = grind (arith, nat_tests)

    other : (b ≡ a → ⊥) → false ≡ (b == a)
    other differ = grind (arith, nat_tests)

    by : (a ≡ b) ⊎ ((a < b) ⊎ (b < a)) → not (is_lt (nat_cmp a b)) && not (is_lt (nat_cmp b a)) ≡ (b == a)
    by (inl e) = from Equal Equal (nat_cmp_is a b Equal e) (nat_cmp_is b a Equal (sym e)) ∙ equal e
    by (inr (inl less)) = from Less Greater (nat_cmp_is a b Less less) (nat_cmp_is b a Greater less) ∙ other (λ e. omega arith)
    by (inr (inr more)) = from Greater Less (nat_cmp_is a b Greater more) (nat_cmp_is b a Less more) ∙ other (λ e. omega arith)

-- a stable sort by objects keeps the order of those on one object
pub stable-by-object : (xs ys : List LineOp) → IsStableByKey (λ o. o.held.ob.0) nat_cmp xs ys → (ob : ℕ) → filter (is_on ob) ys ≡ filter (is_on ob) xs
stable-by-object xs ys stable ob =
    let one : LineOp = record { line = 0; held = record { ob = record { 0 = ob }; op = Read; holder = record { 0 = 0 }; fate = InProgress } } in
    let tied : LineOp → Bool = λ o. not (is_lt (nat_cmp ob o.held.ob.0)) && not (is_lt (nat_cmp o.held.ob.0 ob)) in
    let same : (o : LineOp) → tied o ≡ is_on ob o = λ o. tie-same ob o.held.ob.0 in
    sym (filter_agree tied (is_on ob) same ys) ∙ (stable one ∙ filter_agree tied (is_on ob) same xs)

-- the summary without its lists, from a key
same-rest : (s u : Summary) → s.kept ≡ u.kept → ((t : ℕ) → s.status t ≡ u.status t) → ((t : ℕ) → s.class t ≡ u.class t) → ((t : ℕ) → s.parent t ≡ u.parent t) → ((h t object : ℕ) → s.permits h t object ≡ u.permits h t object) → without_lists s ≡ without_lists u
same-rest s u kept status class parent permits = λ i. record {
  kept = kept i;
  status = λ t. status t i;
  class = λ t. class t i;
  parent = λ t. parent t i;
  operations = [];
  edges = [];
  permits = λ h t object. permits h t object i;
}

same-many : (xs ys ks ls : List Edge) → IsPermutation xs ks → IsPermutation ys ls → ks ≡ ls → length xs ≡ length ys
same-many xs ys ks ls p q e = sym (length_permutation xs ks p) ∙ (ap (λ (es : List Edge). length es) e ∙ length_permutation ys ls q)

same-among : (xs ys ks ls : List Edge) → IsPermutation xs ks → IsPermutation ys ls → ks ≡ ls → (test : Edge → Bool) → list_any test xs ≡ list_any test ys
same-among xs ys ks ls p q e test = list_any-IsPermutation test xs ks p ∙ (ap (list_any test) e ∙ sym (list_any-IsPermutation test ys ls q))

many-kept : {A : Type 0} (programs : Programs A) (p : Point A) (key : Key A) → IsKeyOf programs p key → (known p).kept ≡ key.kept
many-kept programs p key is = kept-many p.state.model p.state.kept ∙ sym is.kept

-- points with equal keys are equivalent
pub equal-keys : {A : Type 0} (programs : Programs A) (p q : Point A) (a b : Key A) → IsKeyOf programs p a → IsKeyOf programs q b → AreSameKeys a b → AreEquivalent programs p q
equal-keys programs p q a b here there same =
    let txn : (t : ℕ) → get_or a.txns.items t no_txn ≡ get_or b.txns.items t no_txn = λ t. ap (λ (ts : List Txn). get_or ts t no_txn) same.txns in
    record {
      lines = sym here.lines ∙ (same.lines ∙ there.lines);
      rest = same-rest (known p) (known q) (many-kept programs p a here ∙ (same.kept ∙ sym (many-kept programs q b there)))
          (λ t. ap (λ (x : Txn). x.status) (sym (here.txns t) ∙ (txn t ∙ there.txns t)))
          (λ t. ap (λ (x : Txn). x.class) (sym (here.txns t) ∙ (txn t ∙ there.txns t)))
          (λ t. ap (λ (x : Txn). x.parent) (sym (here.txns t) ∙ (txn t ∙ there.txns t)))
          (λ h t object. sym (here.permits h t object) ∙ (ap (λ (ps : List _). is_listed ps h t object) same.permits ∙ there.permits h t object));
      edges = record {
        many = same-many (known p).edges (known q).edges a.edges.items b.edges.items here.edges there.edges same.edges;
        among = same-among (known p).edges (known q).edges a.edges.items b.edges.items here.edges there.edges same.edges;
      };
      operations = λ ob. sym (here.operations ob) ∙ (ap (filter (is_on ob)) same.operations ∙ there.operations ob);
    }

like-by-key : {A : Type 0} (programs : Programs A) (p : Point A) (key : Key A) (entries : List (Key A × Point A)) → AreKeyed programs entries → IsKeyOf programs p key → HasKey (key_test key) entries → HasLike (AreEquivalent programs) (points_of entries) p
like-by-key programs p key entries keyed is found =
    let other : IsKeyOf programs found.value found.key = All-contains (λ e. IsKeyOf programs e.1 e.0) entries (found.key, found.value) keyed found.within in
    record {
      by = found.value;
      within = contains-map (λ (e : Key _ × Point _). e.1) entries (found.key, found.value) found.within;
      related = equal-keys programs found.value p found.key key other is (same-back (keys-same key found.key found.passes));
    }

-- a point whose key is there is like one of the others
pub put-found : {A : Type 0} (programs : Programs A) (p : Point A) (key : Key A) (entries : List (Key A × Point A)) → AreKeyed programs entries → IsKeyOf programs p key → is_some (lookup (key_test key) entries) ≡ true
    → IsPut (AreEquivalent programs) (AreApart programs) (points_of entries) p (points_of entries)
put-found programs p key entries keyed is found = inr (refl, like-by-key programs p key entries keyed is (found-entry (key_test key) entries found))

-- and one whose key is new goes last
pub put-keyed : {A : Type 0} (programs : Programs A) (p : Point A) (key : Key A) (entries new : List (Key A × Point A)) → AreKeyed programs entries → IsKeyOf programs p key → is_some (lookup (key_test key) entries) ≡ false
    → new ≡ insert_entry key_test entries key p → AreKeyed programs new
put-keyed programs p key entries new keyed is none e =
    All-same (λ e. IsKeyOf programs e.1 e.0) new (entries ++ (key, p) ∷ []) (e ∙ insert-last key_test entries key p none) (All-push (λ e. IsKeyOf programs e.1 e.0) entries (key, p) keyed is)

pub put-new : {A : Type 0} (programs : Programs A) (p : Point A) (key : Key A) (entries new : List (Key A × Point A)) → AreKeyed programs entries → IsKeyOf programs p key → is_some (lookup (key_test key) entries) ≡ false
    → new ≡ insert_entry key_test entries key p → IsPut (AreEquivalent programs) (AreApart programs) (points_of entries) p (points_of new)
put-new programs p key entries new keyed is none e =
    inl (
      ap (λ (es : List (Key _ × Point _)). points_of es) (e ∙ insert-last key_test entries key p none) ∙ map-append (λ (e : Key _ × Point _). e.1) entries ((key, p) ∷ []),
      apart-keyed programs p key entries keyed is none,
    )
