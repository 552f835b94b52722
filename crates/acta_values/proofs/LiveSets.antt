-- Sets as trails: how many elements are present, and which.
use Rattle.std.proofs.Common.{append_assoc, subst, ◌≡◌, ℕ, ◌+◌, ◌≤◌, Bool, true, false, cond, ◌||◌, List, [], ◌∷◌, ◌++◌, length, get_or, Some, None, refl, sym, ap, ◌∙◌, arith}
use Rattle.std.specs.Prelude.{ℤ}
use Rattle.std.specs.BTreeMap.{is_at, insert_entry}
use Rattle.std.specs.BTreeSet.{insert_key}
use Rattle.std.specs.List.Sorted.{IsStrictlySortedBy}
use Rattle.std.specs.Map.{lookup, set_value, keys_of, values_of}
use Rattle.std.specs.Option.{unwrap_or, option_map}
use Rattle.std.specs.declared.cmp.Ordering.TheVariants.{Less}
use Rattle.std.specs.Ordering.{int_cmp, int_eq, match_ordering, ordering_reverse}
use Rattle.std.specs.Cmp.{int_cmp_total}
use Rattle.std.proofs.lemmas.Bool.Decides.{Decides-int_eq}
use Rattle.std.proofs.lemmas.List.Sums.{sum_by-le, sum_by-cons}
use Rattle.std.proofs.lemmas.Map.Entries.{sum_by-set_value, sum_by-insert_entry, length-values_of}
use Rattle.acta_objects.specs.Conflicts.{IsSet}
use Rattle.acta_objects.specs.inside.Sets.{has, IsBelow, empty_set, head_below, tail_set, set_cons, lacks_below}
use Rattle.acta_values.specs.declared.trail.Numbered.{Numbered}
use Rattle.acta_values.specs.LiveSets.{Marks, IsOrdered, trail_at, is_on, elements_of, one_if, count_on}

-- ---- how many

-- one trail becomes another
pub counted_written : (test : ℤ → Bool) (marks : Marks) (v w : List (Numbered Bool)) → lookup test marks ≡ Some v → count_on (set_value test marks w) + one_if (is_on v) ≡ count_on marks + one_if (is_on w)
counted_written test marks v w found = sum_by-set_value (λ trail. one_if (is_on trail)) test marks v w found

-- an element gets its first trail
pub counted_put : (marks : Marks) (x : ℤ) (w : List (Numbered Bool)) → IsStrictlySortedBy int_cmp (keys_of marks) → lookup (is_at (int_cmp x)) marks ≡ None → count_on (insert_entry int_cmp marks x w) + 0 ≡ count_on marks + one_if (is_on w)
counted_put marks x w sorted absent =
    ap (λ o. count_on (insert_entry int_cmp marks x w) + unwrap_or (option_map (λ trail. one_if (is_on trail)) o) 0) (sym absent)
    ∙ sum_by-insert_entry (λ trail. one_if (is_on trail)) int_cmp_total marks x w sorted

one_at_most : (b : Bool) → one_if b ≤ 1
one_at_most true = omega arith
one_at_most false = omega arith

-- no more elements present than there are elements
pub count_few : (marks : Marks) → count_on marks ≤ length marks
count_few marks =
    let most = sum_by-le (λ trail. one_if (is_on trail)) 1 (values_of marks) (λ k d within. one_at_most (is_on (get_or (values_of marks) k d))) in
    let long = length-values_of marks in
    omega (arith, most, long)

length_on : (e : ℤ) (es : List ℤ) (n : ℕ) (on : Bool) → length es ≡ n → length (cond on (e ∷ es) es) ≡ one_if on + n
length_on e es n true later = omega (arith, later)
length_on e es n false later = omega (arith, later)

-- as many as the elements
pub length_elements : (marks : Marks) → length (elements_of marks) ≡ count_on marks
length_elements [] = refl
length_elements (e ∷ marks) =
    length_on e.0 (elements_of marks) (count_on marks) (is_on e.1) (length_elements marks)
    ∙ sym (sum_by-cons (λ trail. one_if (is_on trail)) e.1 (values_of marks))

-- ---- which

below_elements : (x : ℤ) (marks : Marks) → IsBelow x (keys_of marks) → IsBelow x (elements_of marks)
below_elements x [] below = tt
below_elements x (e ∷ marks) below = at (is_on e.1) (below_elements x marks below.1)
  where
    at : (on : Bool) → IsBelow x (elements_of marks) → IsBelow x (cond on (e.0 ∷ elements_of marks) (elements_of marks))
    at true later = (below.0, later)
    at false later = later

pub elements_set : (marks : Marks) → IsOrdered marks → IsSet (elements_of marks)
elements_set [] ordered = empty_set
elements_set (e ∷ marks) ordered = at (is_on e.1) (elements_set marks (tail_set e.0 (keys_of marks) ordered))
  where
    at : (on : Bool) → IsSet (elements_of marks) → IsSet (cond on (e.0 ∷ elements_of marks) (elements_of marks))
    at true later = set_cons e.0 (elements_of marks) (below_elements e.0 marks (head_below e.0 (keys_of marks) ordered)) later
    at false later = later

-- the elements present are those whose trail ends with an insertion
pub has_elements : (marks : Marks) → IsOrdered marks → (q : ℤ) → has (elements_of marks) q ≡ is_on (trail_at marks q)
has_elements [] ordered q = refl
has_elements (e ∷ marks) ordered q =
    at (is_on e.1) refl (int_eq q e.0) refl (has_elements marks (tail_set e.0 (keys_of marks) ordered) q)
  where
    absent : int_eq q e.0 ≡ true → has (elements_of marks) q ≡ false
    absent same =
        ap (has (elements_of marks)) ((Decides-int_eq q e.0).0 same)
        ∙ lacks_below e.0 (elements_of marks) (below_elements e.0 marks (head_below e.0 (keys_of marks) ordered))

    at : (on : Bool) → is_on e.1 ≡ on → (b : Bool) → int_eq q e.0 ≡ b → has (elements_of marks) q ≡ is_on (trail_at marks q)
        → has (cond on (e.0 ∷ elements_of marks) (elements_of marks)) q ≡ is_on (unwrap_or (cond b (Some e.1) (lookup (is_at (int_cmp q)) marks)) [])
    at true is true same later = ap (λ b. b || has (elements_of marks) q) same ∙ sym is
    at true is false other later = ap (λ b. b || has (elements_of marks) q) other ∙ later
    at false is true same later = absent same ∙ sym is
    at false is false other later = later

-- an element above all others is appended
pub insert_last : (xs : List ℤ) (x : ℤ) (ys : List ℤ) → IsSet (xs ++ x ∷ ys) → insert_key int_cmp xs x ≡ xs ++ x ∷ []
insert_last [] x ys s = refl
insert_last (y ∷ xs) x ys s =
    let less : int_cmp y x ≡ Less = below_at y xs x ys (head_below y (xs ++ x ∷ ys) s) in
    ap (λ o. match_ordering o (x ∷ y ∷ xs) (y ∷ xs) (y ∷ insert_key int_cmp xs x)) (int_cmp_total.antisymm x y ∙ ap ordering_reverse less)
    ∙ ap (λ (zs : List ℤ). y ∷ zs) (insert_last xs x ys (tail_set y (xs ++ x ∷ ys) s))
  where
    below_at : (y : ℤ) (xs : List ℤ) (x : ℤ) (ys : List ℤ) → IsBelow y (xs ++ x ∷ ys) → int_cmp y x ≡ Less
    below_at y [] x ys below = below.0
    below_at y (z ∷ xs) x ys below = below_at y xs x ys below.1

-- one more element that is present
pub members_more : (members : List ℤ) (x : ℤ) (trail : List (Numbered Bool)) (rest : Marks) (all : List ℤ) → IsSet all → is_on trail ≡ true → members ++ elements_of ((x, trail) ∷ rest) ≡ all → insert_key int_cmp members x ++ elements_of rest ≡ all
members_more members x trail rest all set on is =
    let split : members ++ x ∷ elements_of rest ≡ all = ap (λ b. members ++ cond b (x ∷ elements_of rest) (elements_of rest)) (sym on) ∙ is in
    ap (λ (xs : List ℤ). xs ++ elements_of rest) (insert_last members x (elements_of rest) (subst (λ (xs : List ℤ). IsSet xs) (sym split) set))
    ∙ append_assoc members (x ∷ []) (elements_of rest)
    ∙ split
