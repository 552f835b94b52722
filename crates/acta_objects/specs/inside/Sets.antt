-- Sets as strictly ascending lists: sets with the same elements are equal, and the elements after `insert_key` and
-- `remove_key`.
use Rattle.std.proofs.Common.{◌≡◌, refl, sym, ap, subst, ◌∙◌, List, [], ◌∷◌, Bool, true, false, cond, not, ◌&&◌, ◌||◌}
use Rattle.std.specs.Prelude.{ℤ}
use Rattle.std.specs.declared.cmp.Ordering.{Ordering}
use Rattle.std.specs.declared.cmp.Ordering.TheVariants.{Less, Equal, Greater}
use Rattle.std.specs.Ordering.{int_eq, int_cmp, is_eq, match_ordering, ordering_reverse}
use Rattle.std.specs.List.{AllByRecursion}
use Rattle.std.specs.List.Sorted.{IsStrictlySortedBy}
use Rattle.std.specs.BTreeSet.{insert_key}
use Rattle.std.specs.Set.{remove_key, is_member}
use Rattle.std.proofs.lemmas.Bool.{true≢false}
use Rattle.std.proofs.lemmas.Cmp.{int_cmp_total, int_eq_equiv}
use Rattle.std.proofs.lemmas.Bool.Decides.{Decides-int_eq}
use Rattle.acta_objects.specs.Conflicts.{IsSet}

-- whether the element is in the list
abbrev pub has : List ℤ → ℤ → Bool
has xs q = is_member int_eq xs q

-- the number is below them all
abbrev pub IsBelow : ℤ → List ℤ → Type 0
IsBelow x ys = AllByRecursion (λ y. int_cmp x y ≡ Less) ys

pub head_below : (x : ℤ) (xs : List ℤ) → IsSet (x ∷ xs) → IsBelow x xs
unfolding IsStrictlySortedBy
head_below x xs s = s.0

pub tail_set : (x : ℤ) (xs : List ℤ) → IsSet (x ∷ xs) → IsSet xs
unfolding IsStrictlySortedBy
tail_set x xs s = s.1

pub set_cons : (x : ℤ) (xs : List ℤ) → IsBelow x xs → IsSet xs → IsSet (x ∷ xs)
unfolding IsStrictlySortedBy
set_cons x xs b s = (b, s)

pub empty_set : IsSet []
unfolding IsStrictlySortedBy
empty_set = tt

pub set_of_one : (x : ℤ) → IsSet (x ∷ [])
set_of_one x = set_cons x [] tt empty_set

same_from_Equal : (x y : ℤ) → int_cmp x y ≡ Equal → x ≡ y
same_from_Equal x y e = (Decides-int_eq x y).0 (ap is_eq e)

pub same_eq : (x : ℤ) → int_eq x x ≡ true
same_eq x = int_eq_equiv.refl x

Less_from_Greater : (x y : ℤ) → int_cmp x y ≡ Greater → int_cmp y x ≡ Less
Less_from_Greater x y e = int_cmp_total.antisymm y x ∙ ap ordering_reverse e

-- a number below all elements is not among them
pub lacks_below : (x : ℤ) (ys : List ℤ) → IsBelow x ys → has ys x ≡ false
lacks_below x [] b = refl
lacks_below x (y ∷ ys) b = ap (λ o. is_eq o || has ys x) b.0 ∙ lacks_below x ys b.1

below_all : (x y : ℤ) (ys : List ℤ) → int_cmp x y ≡ Less → IsBelow y ys → IsBelow x ys
below_all x y [] l b = tt
below_all x y (z ∷ zs) l b = (int_cmp_total.trans x y z l b.0, below_all x y zs l b.1)

-- the first is an element
has_head : (x : ℤ) (xs : List ℤ) → has (x ∷ xs) x ≡ true
has_head x xs = ap (λ b. b || has xs x) (same_eq x)

-- a number below the first of a set is not in it
lacks_first : (x y : ℤ) (ys : List ℤ) → IsSet (y ∷ ys) → int_cmp x y ≡ Less → has (y ∷ ys) x ≡ false
lacks_first x y ys s l = lacks_below x (y ∷ ys) (l, below_all x y ys l (head_below y ys s))

-- two sets with the same elements, and one first, have the same others
others : (x : ℤ) (xs ys : List ℤ) → IsBelow x xs → IsBelow x ys
    → ((q : ℤ) → (int_eq q x || has xs q) ≡ (int_eq q x || has ys q)) → (q : ℤ) → has xs q ≡ has ys q
others x xs ys bx by_ h q = at (int_eq q x) refl (h q)
  where
    at : (b : Bool) → int_eq q x ≡ b → (b || has xs q) ≡ (b || has ys q) → has xs q ≡ has ys q
    at true e g =
        let same : q ≡ x = (Decides-int_eq q x).0 e in
        ap (has xs) same ∙ lacks_below x xs bx ∙ sym (lacks_below x ys by_) ∙ ap (has ys) (sym same)
    at false e g = g

-- two sets with the same elements are equal
pub same_sets : (xs ys : List ℤ) → IsSet xs → IsSet ys → ((q : ℤ) → has xs q ≡ has ys q) → xs ≡ ys
same_sets [] [] sx sy h = refl
same_sets [] (y ∷ ys) sx sy h = absurd (true≢false (sym (has_head y ys) ∙ sym (h y)))
same_sets (x ∷ xs) [] sx sy h = absurd (true≢false (sym (has_head x xs) ∙ h x))
same_sets (x ∷ xs) (y ∷ ys) sx sy h = at (int_cmp x y) refl (same_sets xs ys (tail_set x xs sx) (tail_set y ys sy))
  where
    at : (o : Ordering) → int_cmp x y ≡ o → (((q : ℤ) → has xs q ≡ has ys q) → xs ≡ ys) → x ∷ xs ≡ y ∷ ys
    at Less e g = absurd (true≢false (sym (has_head x xs) ∙ h x ∙ lacks_first x y ys sy e))
    at Equal e g =
        let same : x ≡ y = same_from_Equal x y e in
        let below : IsBelow x ys = subst (λ z. IsBelow z ys) (sym same) (head_below y ys sy) in
        let rest : xs ≡ ys = g (others x xs ys (head_below x xs sx) below (λ q. h q ∙ ap (λ z. int_eq q z || has ys q) (sym same))) in
        λ i. same i ∷ rest i
    at Greater e g = absurd (true≢false (sym (has_head y ys) ∙ sym (h y) ∙ lacks_first y x xs sx (Less_from_Greater x y e)))

or_twice : (a b : Bool) → (a || b) ≡ (a || (a || b))
or_twice true b = refl
or_twice false b = refl

or_swap : (a b c : Bool) → (a || (b || c)) ≡ (b || (a || c))
or_swap true true c = refl
or_swap true false c = refl
or_swap false b c = refl

and_swap : (a b c : Bool) → (a && (b && c)) ≡ (b && (a && c))
and_swap true b c = refl
and_swap false true c = refl
and_swap false false c = refl

and_none : (a : Bool) → false ≡ (a && false)
and_none true = refl
and_none false = refl

-- the elements after an insertion
pub has_insert : (xs : List ℤ) (x q : ℤ) → has (insert_key int_cmp xs x) q ≡ (int_eq q x || has xs q)
has_insert [] x q = refl
has_insert (y ∷ ys) x q = at (int_cmp x y) refl (has_insert ys x q)
  where
    at : (o : Ordering) → int_cmp x y ≡ o → has (insert_key int_cmp ys x) q ≡ (int_eq q x || has ys q)
        → has (match_ordering o (x ∷ y ∷ ys) (y ∷ ys) (y ∷ insert_key int_cmp ys x)) q ≡ (int_eq q x || (int_eq q y || has ys q))
    at Less e g = refl
    at Equal e g =
        or_twice (int_eq q y) (has ys q)
        ∙ ap (λ z. int_eq q z || (int_eq q y || has ys q)) (sym (same_from_Equal x y e))
    at Greater e g = ap (λ b. int_eq q y || b) g ∙ or_swap (int_eq q y) (int_eq q x) (has ys q)

-- without the first, a set has its other elements
has_rest : (y : ℤ) (ys : List ℤ) (q : ℤ) → IsBelow y ys → has ys q ≡ (not (int_eq q y) && (int_eq q y || has ys q))
has_rest y ys q b = at (int_eq q y) refl
  where
    at : (t : Bool) → int_eq q y ≡ t → has ys q ≡ (not t && (t || has ys q))
    at true e = ap (has ys) ((Decides-int_eq q y).0 e) ∙ lacks_below y ys b
    at false e = refl

-- the elements after a removal
pub has_remove : (xs : List ℤ) (x q : ℤ) → IsSet xs → has (remove_key (int_eq x) xs) q ≡ (not (int_eq q x) && has xs q)
has_remove [] x q s = and_none (not (int_eq q x))
has_remove (y ∷ ys) x q s = at (int_eq x y) refl (has_remove ys x q (tail_set y ys s))
  where
    apart : (t : Bool) → int_eq q x ≡ t → int_eq x y ≡ false
        → (int_eq q y || (not t && has ys q)) ≡ (not t && (int_eq q y || has ys q))
    apart true e n = ap (λ b. b || false) (ap (λ z. int_eq z y) ((Decides-int_eq q x).0 e) ∙ n)
    apart false e n = refl

    at : (t : Bool) → int_eq x y ≡ t → has (remove_key (int_eq x) ys) q ≡ (not (int_eq q x) && has ys q)
        → has (cond t ys (y ∷ remove_key (int_eq x) ys)) q ≡ (not (int_eq q x) && (int_eq q y || has ys q))
    at true e g =
        has_rest y ys q (head_below y ys s)
        ∙ ap (λ z. not (int_eq q z) && (int_eq q y || has ys q)) (sym ((Decides-int_eq x y).0 e))
    at false e g = ap (λ b. int_eq q y || b) g ∙ apart (int_eq q x) refl e

below_insert : (z x : ℤ) (ys : List ℤ) → int_cmp z x ≡ Less → IsBelow z ys → IsBelow z (insert_key int_cmp ys x)
below_insert z x [] l b = (l, tt)
below_insert z x (y ∷ ys) l b = at (int_cmp x y) (below_insert z x ys l b.1)
  where
    at : (o : Ordering) → IsBelow z (insert_key int_cmp ys x)
        → IsBelow z (match_ordering o (x ∷ y ∷ ys) (y ∷ ys) (y ∷ insert_key int_cmp ys x))
    at Less g = (l, b)
    at Equal g = b
    at Greater g = (b.0, g)

below_remove : (z x : ℤ) (ys : List ℤ) → IsBelow z ys → IsBelow z (remove_key (int_eq x) ys)
below_remove z x [] b = tt
below_remove z x (y ∷ ys) b = at (int_eq x y) (below_remove z x ys b.1)
  where
    at : (t : Bool) → IsBelow z (remove_key (int_eq x) ys) → IsBelow z (cond t ys (y ∷ remove_key (int_eq x) ys))
    at true g = b.1
    at false g = (b.0, g)

-- the list stays strictly ascending
pub insert_is_set : (xs : List ℤ) (x : ℤ) → IsSet xs → IsSet (insert_key int_cmp xs x)
insert_is_set [] x s = set_of_one x
insert_is_set (y ∷ ys) x s = at (int_cmp x y) refl (insert_is_set ys x (tail_set y ys s))
  where
    at : (o : Ordering) → int_cmp x y ≡ o → IsSet (insert_key int_cmp ys x)
        → IsSet (match_ordering o (x ∷ y ∷ ys) (y ∷ ys) (y ∷ insert_key int_cmp ys x))
    at Less e g = set_cons x (y ∷ ys) (e, below_all x y ys e (head_below y ys s)) s
    at Equal e g = s
    at Greater e g =
        set_cons y (insert_key int_cmp ys x) (below_insert y x ys (Less_from_Greater x y e) (head_below y ys s)) g

pub remove_is_set : (xs : List ℤ) (x : ℤ) → IsSet xs → IsSet (remove_key (int_eq x) xs)
remove_is_set [] x s = s
remove_is_set (y ∷ ys) x s = at (int_eq x y) (remove_is_set ys x (tail_set y ys s))
  where
    at : (t : Bool) → IsSet (remove_key (int_eq x) ys) → IsSet (cond t ys (y ∷ remove_key (int_eq x) ys))
    at true g = tail_set y ys s
    at false g = set_cons y (remove_key (int_eq x) ys) (below_remove y x ys (head_below y ys s)) g

-- whether an element is present does not depend on another
pub has_inserted_other : (xs : List ℤ) (x y : ℤ) → int_eq x y ≡ false → has (insert_key int_cmp xs y) x ≡ has xs x
has_inserted_other xs x y n = has_insert xs y x ∙ ap (λ b. b || has xs x) n

pub has_removed_other : (xs : List ℤ) (x y : ℤ) → int_eq x y ≡ false → IsSet xs → has (remove_key (int_eq y) xs) x ≡ has xs x
has_removed_other xs x y n s = has_remove xs y x s ∙ ap (λ b. not b && has xs x) n

pub insert_insert : (xs : List ℤ) (x y : ℤ) → IsSet xs
    → insert_key int_cmp (insert_key int_cmp xs x) y ≡ insert_key int_cmp (insert_key int_cmp xs y) x
insert_insert xs x y s =
    same_sets _ _ (insert_is_set _ y (insert_is_set xs x s)) (insert_is_set _ x (insert_is_set xs y s))
    (λ q. both x y q ∙ or_swap (int_eq q y) (int_eq q x) (has xs q) ∙ sym (both y x q))
  where
    both : (a b q : ℤ) → has (insert_key int_cmp (insert_key int_cmp xs a) b) q ≡ (int_eq q b || (int_eq q a || has xs q))
    both a b q = has_insert (insert_key int_cmp xs a) b q ∙ ap (λ t. int_eq q b || t) (has_insert xs a q)

pub remove_remove : (xs : List ℤ) (x y : ℤ) → IsSet xs
    → remove_key (int_eq y) (remove_key (int_eq x) xs) ≡ remove_key (int_eq x) (remove_key (int_eq y) xs)
remove_remove xs x y s =
    same_sets _ _ (remove_is_set _ y (remove_is_set xs x s)) (remove_is_set _ x (remove_is_set xs y s))
    (λ q. both x y q ∙ and_swap (not (int_eq q y)) (not (int_eq q x)) (has xs q) ∙ sym (both y x q))
  where
    both : (a b q : ℤ) → has (remove_key (int_eq b) (remove_key (int_eq a) xs)) q ≡ (not (int_eq q b) && (not (int_eq q a) && has xs q))
    both a b q =
        has_remove (remove_key (int_eq a) xs) b q (remove_is_set xs a s)
        ∙ ap (λ t. not (int_eq q b) && t) (has_remove xs a q s)

pub insert_remove : (xs : List ℤ) (x y : ℤ) → int_eq x y ≡ false → IsSet xs
    → remove_key (int_eq y) (insert_key int_cmp xs x) ≡ insert_key int_cmp (remove_key (int_eq y) xs) x
insert_remove xs x y n s =
    same_sets _ _ (remove_is_set _ y (insert_is_set xs x s)) (insert_is_set _ x (remove_is_set xs y s))
    (λ q. inserted_first q ∙ at q (int_eq q x) refl ∙ sym (removed_first q))
  where
    inserted_first : (q : ℤ) → has (remove_key (int_eq y) (insert_key int_cmp xs x)) q ≡ (not (int_eq q y) && (int_eq q x || has xs q))
    inserted_first q =
        has_remove (insert_key int_cmp xs x) y q (insert_is_set xs x s)
        ∙ ap (λ t. not (int_eq q y) && t) (has_insert xs x q)

    removed_first : (q : ℤ) → has (insert_key int_cmp (remove_key (int_eq y) xs) x) q ≡ (int_eq q x || (not (int_eq q y) && has xs q))
    removed_first q = has_insert (remove_key (int_eq y) xs) x q ∙ ap (λ t. int_eq q x || t) (has_remove xs y q s)

    at : (q : ℤ) (t : Bool) → int_eq q x ≡ t → (not (int_eq q y) && (t || has xs q)) ≡ (t || (not (int_eq q y) && has xs q))
    at q true e = ap (λ b. not b && true) (ap (λ z. int_eq z y) ((Decides-int_eq q x).0 e) ∙ n)
    at q false e = refl
