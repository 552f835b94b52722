-- A property of all conflicting holders carries over to the edges formed on them, and no conflicting holder is the
-- operation's own transaction.
use Rattle.std.proofs.Common.{◌≡◌, ℕ, ◌==◌, Bool, true, false, ◌&&◌, not, cond, List, [], ◌∷◌, map, filter, fold, refl, ◌∙◌}
use Rattle.std.specs.BTreeSet.{insert_key}
use Rattle.std.specs.List.{list_all}
use Rattle.std.specs.Ordering.{nat_cmp, match_ordering}
use Rattle.std.specs.declared.cmp.Ordering.{Ordering}
use Rattle.std.specs.declared.cmp.Ordering.TheVariants.{Less, Equal, Greater}
use Rattle.std.proofs.lemmas.Bool.{and_parts, and_from}
use Rattle.std.proofs.lemmas.List.Folds.{list_all-append, list_all-map}
use Rattle.acta_table.specs.declared.dep.Dep.{Dep}
use Rattle.acta_table.specs.declared.dep.Edge.{Edge}
use Rattle.acta_table.specs.declared.event.Kept.{Kept}
use Rattle.acta_table.specs.declared.event.Op.{Op}
use Rattle.acta_table.specs.declared.event.TxnId.{TxnId}
use Rattle.acta_table.specs.declared.model.Parts.{Parts}
use Rattle.acta_table.specs.declared.policy.Policy.{Policy}
use Rattle.acta_table.specs.Dependencies.{all_kinds}
use Rattle.acta_table.specs.Numbered.{ascending}
use Rattle.acta_table.specs.Policies.{forms, edge_on, edges_on, edges_upon}
use Rattle.acta_table.specs.Fates.{is_open}
use Rattle.acta_axioms.specs.Edges.{holders_against}
use Rattle.acta_axioms.specs.Operations.{Operation, Standing, is_exempt, is_of_others, standing, operations, conflict_set}
use Rattle.acta_axioms.specs.Values.{do_conflict, conflicting}

all-insert : (p : ℕ → Bool) (ns : List ℕ) (n : ℕ) → list_all p ns ≡ true → p n ≡ true → list_all p (insert_key nat_cmp ns n) ≡ true
all-insert p [] n all here = and_from (p n) true here refl
all-insert p (q ∷ ns) n all here =
    let both = and_parts (p q) (list_all p ns) all in
    of_order (nat_cmp n q) both.0 (all-insert p ns n both.1 here)
  where
    of_order : (r : Ordering) → p q ≡ true → list_all p (insert_key nat_cmp ns n) ≡ true → list_all p (match_ordering r (n ∷ q ∷ ns) (q ∷ ns) (q ∷ insert_key nat_cmp ns n)) ≡ true
    of_order Less first later = and_from (p n) (list_all p (q ∷ ns)) here all
    of_order Equal first later = all
    of_order Greater first later = and_from (p q) (list_all p (insert_key nat_cmp ns n)) first later

all-inserted : (p : ℕ → Bool) (ms ns : List ℕ) → list_all p ms ≡ true → list_all p ns ≡ true → list_all p (fold (insert_key nat_cmp) ms ns) ≡ true
all-inserted p ms [] all more = all
all-inserted p ms (n ∷ ns) all more =
    let both = and_parts (p n) (list_all p ns) more in
    all-inserted p (insert_key nat_cmp ms n) ns (all-insert p ms n all both.0) both.1

-- a property of all numbers of a list holds after sorting
pub all-ascending : (p : ℕ → Bool) (ns : List ℕ) → list_all p ns ≡ true → list_all p (ascending ns) ≡ true
all-ascending p ns all = all-inserted p [] ns refl all

all-kinds : (p : Edge → Bool) (policy : Policy) (t : TxnId) (u : ℕ) → ((kind : Dep) → forms policy kind ≡ true → p (edge_on t u kind) ≡ true) →
    (kinds : List Dep) → list_all p (map (edge_on t u) (filter (forms policy) kinds)) ≡ true
all-kinds p policy t u each [] = refl
all-kinds p policy t u each (kind ∷ kinds) = of_test (forms policy kind) refl (all-kinds p policy t u each kinds)
  where
    of_test : (b : Bool) → forms policy kind ≡ b → list_all p (map (edge_on t u) (filter (forms policy) kinds)) ≡ true →
        list_all p (map (edge_on t u) (cond b (kind ∷ filter (forms policy) kinds) (filter (forms policy) kinds))) ≡ true
    of_test true is later = and_from (p (edge_on t u kind)) (list_all p (map (edge_on t u) (filter (forms policy) kinds))) (each kind is) later
    of_test false is later = later

-- a property of each edge that is formed on transactions with property q
pub all-upon : (p : Edge → Bool) (q : ℕ → Bool) (policy : Policy) (t : TxnId) (us : List ℕ) →
    ((kind : Dep) (u : ℕ) → forms policy kind ≡ true → q u ≡ true → p (edge_on t u kind) ≡ true) → list_all q us ≡ true → list_all p (edges_upon policy t us) ≡ true
all-upon p q policy t [] each all = refl
all-upon p q policy t (u ∷ us) each all =
    let both = and_parts (q u) (list_all q us) all in
    list_all-append p (edges_on policy t u) (edges_upon policy t us)
    ∙ and_from (list_all p (edges_on policy t u)) (list_all p (edges_upon policy t us)) (all-kinds p policy t u (λ kind is. each kind u is both.0) all_kinds) (all-upon p q policy t us each both.1)

-- a filtered list has the properties that the test implies
all-passing : {X : Type 0} (test q : X → Bool) → ((x : X) → test x ≡ true → q x ≡ true) → (xs : List X) → list_all q (filter test xs) ≡ true
all-passing test q each [] = refl
all-passing {X} test q each (x ∷ xs) = of_test (test x) refl (all-passing test q each xs)
  where
    of_test : (b : Bool) → test x ≡ b → list_all q (filter test xs) ≡ true → list_all q (cond b (x ∷ filter test xs) (filter test xs)) ≡ true
    of_test true is later = and_from (q x) (list_all q (filter test xs)) (each x is) later
    of_test false is later = later

-- a filtered list keeps the properties of the whole list
all-fewer : {X : Type 0} (test q : X → Bool) (xs : List X) → list_all q xs ≡ true → list_all q (filter test xs) ≡ true
all-fewer test q [] all = refl
all-fewer {X} test q (x ∷ xs) all =
    let both = and_parts (q x) (list_all q xs) all in
    of_test (test x) both.0 (all-fewer test q xs both.1)
  where
    of_test : (b : Bool) → q x ≡ true → list_all q (filter test xs) ≡ true → list_all q (cond b (x ∷ filter test xs) (filter test xs)) ≡ true
    of_test true here later = and_from (q x) (list_all q (filter test xs)) here later
    of_test false here later = later

-- t is not a conflicting holder for its own operation
pub holders-others : {A : Type 0} (m : Parts A) (h : List (Kept A)) (t object : ℕ) (op : Op) → list_all (λ u. not (u == t)) (holders_against m h t object op) ≡ true
holders-others m h t object op =
    all-ascending (λ u. not (u == t)) (map (λ (o : Operation). (standing m h o).holder) (conflicting m h t object op))
    (list_all-map (λ u. not (u == t)) (λ (o : Operation). (standing m h o).holder) (conflicting m h t object op)
    ∙ all-fewer (λ o. (o.object == object) && do_conflict m object o.op op) (λ o. not ((standing m h o).holder == t)) (conflict_set m h t)
    (all-passing (λ o. is_of_others m h t o.object (standing m h o)) (λ o. not ((standing m h o).holder == t)) (λ o is. other o.object (standing m h o) is) (operations h)))
  where
    other : (on : ℕ) (s : Standing) → is_of_others m h t on s ≡ true → not (s.holder == t) ≡ true
    other on s is =
        let parts = and_parts (is_open s.fate && not (s.holder == t)) (not (is_exempt m h t on s.holder)) is in
        (and_parts (is_open s.fate) (not (s.holder == t)) parts.0).1
