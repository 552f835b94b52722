-- Elements that are added to an ordered set one by one: the set is sorted, and has exactly these elements.
use Rattle.std.proofs.Common.{◌≡◌, Bool, true, false, ◌&&◌, ◌||◌, not, List, [], ◌∷◌, fold, refl, sym, ap, subst, ◌∙◌}
use Rattle.std.specs.BTreeSet.{insert_key}
use Rattle.std.specs.Cmp.{IsTotalOrder}
use Rattle.std.specs.List.{list_any, AllByRecursion}
use Rattle.std.specs.declared.cmp.Ordering.{Ordering}
use Rattle.std.specs.declared.cmp.Ordering.TheVariants.{Less, Equal, Greater}
use Rattle.std.specs.Ordering.{is_eq, match_ordering, ordering_reverse}
use Rattle.std.proofs.lemmas.Cmp.{tied_itself}
use Rattle.acta_explore.proofs.Pairs.{Pairs, all-map}

or-swap : (a b c : Bool) → (a || (b || c)) ≡ (b || (a || c))
or-swap true true c = refl
or-swap true false c = refl
or-swap false b c = refl

or-once : (a b : Bool) → (a || b) ≡ (a || (a || b))
or-once true b = refl
or-once false b = refl

pub or-three : (a b c : Bool) → (a || (b || c)) ≡ ((b || a) || c)
or-three true true c = refl
or-three true false c = refl
or-three false true c = refl
or-three false false c = refl

pub or-false : (b : Bool) → (b || false) ≡ b
or-false true = refl
or-false false = refl

module _ {X : Type 0} (R : X → X → Ordering) (total : IsTotalOrder R) (exact : (x y : X) → R x y ≡ Equal → x ≡ y) where
  -- each is below those after it
  abbrev pub Below : X → X → Type 0
  Below x y = R x y ≡ Less

  back : (x y : X) → R x y ≡ Greater → R y x ≡ Less
  back x y e = by (R y x) (total.antisymm x y) e
    where
      by : (o : Ordering) → R x y ≡ ordering_reverse o → R x y ≡ Greater → o ≡ Less
      by Less r e = refl
      by Equal r e = absurd cc
      by Greater r e = absurd cc

  put-by : (P : X → Type 0) (k x : X) (xs rest : List X) (o : Ordering) → P k → P x → AllByRecursion P xs → AllByRecursion P rest → AllByRecursion P (match_ordering o (k ∷ x ∷ xs) (x ∷ xs) (x ∷ rest))
  put-by P k x xs rest Less pk px all more = (pk, (px, all))
  put-by P k x xs rest Equal pk px all more = (px, all)
  put-by P k x xs rest Greater pk px all more = (px, more)

  all-put : (P : X → Type 0) (k : X) (xs : List X) → AllByRecursion P xs → P k → AllByRecursion P (insert_key R xs k)
  all-put P k [] all pk = (pk, tt)
  all-put P k (x ∷ xs) all pk = put-by P k x xs (insert_key R xs k) (R k x) pk all.0 all.1 (all-put P k xs all.1 pk)

  rise-rest : (k x : X) (xs : List X) → Pairs Below (x ∷ xs) → Pairs Below (insert_key R xs k) → (o : Ordering) → R k x ≡ o → Pairs Below (match_ordering o (k ∷ x ∷ xs) (x ∷ xs) (x ∷ insert_key R xs k))
  rise-rest k x xs rise more Less e = ((e, all-map (Below x) (Below k) (λ y less. total.trans k x y e less) xs rise.0), rise)
  rise-rest k x xs rise more Equal e = rise
  rise-rest k x xs rise more Greater e = (all-put (Below x) k xs rise.0 (back k x e), more)

  -- a set with one more rises
  rise-put : (k : X) (xs : List X) → Pairs Below xs → Pairs Below (insert_key R xs k)
  rise-put k [] rise = (tt, tt)
  rise-put k (x ∷ xs) rise = rise-rest k x xs rise (rise-put k xs rise.1) (R k x) refl

  rise-fold : (keys xs : List X) → Pairs Below keys → Pairs Below (fold (insert_key R) keys xs)
  rise-fold keys [] rise = rise
  rise-fold keys (x ∷ xs) rise = rise-fold (insert_key R keys x) xs (rise-put x keys rise)

  pub rise-all : (xs : List X) → Pairs Below (fold (insert_key R) [] xs)
  rise-all xs = rise-fold [] xs tt

  any-by : (test : X → Bool) (x k : X) (xs rest : List X) (o : Ordering) → R k x ≡ o → list_any test rest ≡ (test k || list_any test xs) → list_any test (match_ordering o (k ∷ x ∷ xs) (x ∷ xs) (x ∷ rest)) ≡ (test k || (test x || list_any test xs))
  any-by test x k xs rest Less e later = refl
  any-by test x k xs rest Equal e later = or-once (test x) (list_any test xs) ∙ ap (λ (y : X). test y || (test x || list_any test xs)) (sym (exact k x e))
  any-by test x k xs rest Greater e later = ap (λ (b : Bool). test x || b) later ∙ or-swap (test x) (test k) (list_any test xs)

  any-put : (test : X → Bool) (keys : List X) (k : X) → list_any test (insert_key R keys k) ≡ (test k || list_any test keys)
  any-put test [] k = refl
  any-put test (x ∷ xs) k = any-by test x k xs (insert_key R xs k) (R k x) refl (any-put test xs k)

  any-fold : (test : X → Bool) (keys xs : List X) → list_any test (fold (insert_key R) keys xs) ≡ (list_any test xs || list_any test keys)
  any-fold test keys [] = refl
  any-fold test keys (x ∷ xs) =
      any-fold test (insert_key R keys x) xs
      ∙ (ap (λ (b : Bool). list_any test xs || b) (any-put test keys x)
      ∙ or-three (list_any test xs) (test x) (list_any test keys))

  -- it passes a test where some of the elements do
  pub any-all : (test : X → Bool) (xs : List X) → list_any test (fold (insert_key R) [] xs) ≡ list_any test xs
  any-all test xs = any-fold test [] xs ∙ or-false (list_any test xs)

  -- lists that rise and pass the same tests are the same
  none-below : (x : X) (ys : List X) → AllByRecursion (Below x) ys → list_any (λ z. is_eq (R x z)) ys ≡ false
  none-below x [] all = refl
  none-below x (y ∷ ys) all = λ i. is_eq (all.0 i) || none-below x ys all.1 i

  test-below : (test : X → Bool) (x : X) (ys : List X) → AllByRecursion (Below x) ys → list_any (λ z. test z && not (is_eq (R x z))) ys ≡ list_any test ys
  test-below test x [] all = refl
  test-below test x (y ∷ ys) all = (λ i. (test y && not (is_eq (all.0 i))) || test-below test x ys all.1 i) ∙ ap (λ (b : Bool). b || list_any test ys) (and-true (test y))
    where
      and-true : (b : Bool) → (b && true) ≡ b
      and-true true = refl
      and-true false = refl

  and-false : (b : Bool) → (b && false) ≡ false
  and-false true = refl
  and-false false = refl

  tails : (x : X) (xs ys : List X) → AllByRecursion (Below x) xs → AllByRecursion (Below x) ys → ((test : X → Bool) → list_any test (x ∷ xs) ≡ list_any test (x ∷ ys)) → (test : X → Bool) → list_any test xs ≡ list_any test ys
  tails x xs ys here there same test =
      let off : (zs : List X) → AllByRecursion (Below x) zs → list_any (λ z. test z && not (is_eq (R x z))) (x ∷ zs) ≡ list_any test zs =
      λ zs all. (λ i. (test x && not (is_eq (tied_itself total x i))) || test-below test x zs all i) ∙ ap (λ (b : Bool). b || list_any test zs) (and-false (test x)) in
      sym (off xs here) ∙ (same (λ z. test z && not (is_eq (R x z))) ∙ off ys there)

  below-all : (x y : X) (ys : List X) → R x y ≡ Less → AllByRecursion (Below y) ys → AllByRecursion (Below x) (y ∷ ys)
  below-all x y ys e all = (e, all-map (Below y) (Below x) (λ z less. total.trans x y z e less) ys all)

  itself : (x : X) (xs : List X) → list_any (λ z. is_eq (R x z)) (x ∷ xs) ≡ true
  itself x xs = ap (λ (o : Ordering). is_eq o || list_any (λ z. is_eq (R x z)) xs) (tied_itself total x)

  true-false : true ≡ false → ⊥
  true-false e = cc

  heads : (x y : X) (xs ys : List X) → Pairs Below (x ∷ xs) → Pairs Below (y ∷ ys) → ((test : X → Bool) → list_any test (x ∷ xs) ≡ list_any test (y ∷ ys)) → (o : Ordering) → R x y ≡ o → x ≡ y
  heads x y xs ys here there same Less e = absurd (true-false (sym (itself x xs) ∙ (same (λ z. is_eq (R x z)) ∙ none-below x (y ∷ ys) (below-all x y ys e there.0))))
  heads x y xs ys here there same Equal e = exact x y e
  heads x y xs ys here there same Greater e = absurd (true-false (sym (itself y ys) ∙ (sym (same (λ z. is_eq (R y z))) ∙ none-below y (x ∷ xs) (below-all y x xs (back x y e) here.0))))

  pub same-rise : (xs ys : List X) → Pairs Below xs → Pairs Below ys → ((test : X → Bool) → list_any test xs ≡ list_any test ys) → xs ≡ ys
  same-rise [] [] here there same = refl
  same-rise [] (y ∷ ys) here there same = let e : false ≡ true = same (λ z. true) in absurd cc
  same-rise (x ∷ xs) [] here there same = let e : true ≡ false = same (λ z. true) in absurd cc
  same-rise (x ∷ xs) (y ∷ ys) here there same =
      let head : x ≡ y = heads x y xs ys here there same (R x y) refl in
      let below : AllByRecursion (Below x) ys = subst (λ (z : X). AllByRecursion (Below z) ys) (sym head) there.0 in
      let tail : xs ≡ ys = same-rise xs ys here.1 there.1 (tails x xs ys here.0 below (λ test. same test ∙ ap (λ (z : X). list_any test (z ∷ ys)) (sym head))) in
      λ i. head i ∷ tail i

  -- sets of elements that pass the same tests are the same
  pub same-sets : (xs ys : List X) → ((test : X → Bool) → list_any test xs ≡ list_any test ys) → fold (insert_key R) [] xs ≡ fold (insert_key R) [] ys
  same-sets xs ys same =
      same-rise (fold (insert_key R) [] xs) (fold (insert_key R) [] ys) (rise-all xs) (rise-all ys)
      (λ test. any-all test xs ∙ (same test ∙ sym (any-all test ys)))
