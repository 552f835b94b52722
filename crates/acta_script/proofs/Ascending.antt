-- A set of ascending numbers is the list of these numbers.
use Rattle.std.proofs.Common.{◌≡◌, ℕ, List, [], ◌∷◌, ◌++◌, fold, refl, sym, ap, ◌∙◌, arith}
use Rattle.std.specs.BTreeSet.{insert_key}
use Rattle.std.specs.List.{AllByRecursion}
use Rattle.std.specs.List.Sorted.{IsStrictlySortedBy}
use Rattle.std.specs.Ordering.{nat_cmp, match_ordering}
use Rattle.std.specs.declared.cmp.Ordering.{Ordering}
use Rattle.std.specs.declared.cmp.Ordering.TheVariants.{Less, Greater}
use Rattle.std.proofs.lemmas.Bool.Decides.{nat_tests}
use Rattle.std.proofs.lemmas.List.{append_assoc, append-nil}
use Rattle.acta_table.specs.Numbered.{ascending}

flip : (m n : ℕ) → nat_cmp m n ≡ Less → nat_cmp n m ≡ Greater
flip m n less = grind (arith, nat_tests)

-- each number is above all of these
abbrev AreBelow : List ℕ → ℕ → Type 0
AreBelow done n = AllByRecursion (λ d. nat_cmp n d ≡ Greater) done

insert_last : (done : List ℕ) (n : ℕ) → AreBelow done n → insert_key nat_cmp done n ≡ done ++ n ∷ []
insert_last [] n below = refl
insert_last (d ∷ ds) n below =
    ap (λ (o : Ordering). match_ordering o (n ∷ d ∷ ds) (d ∷ ds) (d ∷ insert_key nat_cmp ds n)) below.0 ∙ ap (λ (xs : List ℕ). d ∷ xs) (insert_last ds n below.1)

one_more : (done : List ℕ) (d n : ℕ) → AreBelow done n → nat_cmp n d ≡ Greater → AreBelow (done ++ d ∷ []) n
one_more [] d n below above = (above, tt)
one_more (x ∷ xs) d n below above = (below.0, one_more xs d n below.1 above)

each_more : (done : List ℕ) (d : ℕ) (ns : List ℕ) → AllByRecursion (AreBelow done) ns → AllByRecursion (λ n. nat_cmp d n ≡ Less) ns → AllByRecursion (AreBelow (done ++ d ∷ [])) ns
each_more done d [] below less = tt
each_more done d (n ∷ ns) below less = (one_more done d n below.0 (flip d n less.0), each_more done d ns below.1 less.1)

onwards : (done ns : List ℕ) → AllByRecursion (AreBelow done) ns → IsStrictlySortedBy nat_cmp ns → fold (insert_key nat_cmp) done ns ≡ done ++ ns
unfolding IsStrictlySortedBy
onwards done [] below sorted = sym (append-nil done)
onwards done (n ∷ ns) below sorted =
    ap (λ (xs : List ℕ). fold (insert_key nat_cmp) xs ns) (insert_last done n below.0)
    ∙ onwards (done ++ n ∷ []) ns (each_more done n ns below.1 sorted.0) sorted.1
    ∙ append_assoc done (n ∷ []) ns

none_below : (ns : List ℕ) → AllByRecursion (AreBelow []) ns
none_below [] = tt
none_below (n ∷ ns) = (tt, none_below ns)

pub ascending-sorted : (ns : List ℕ) → IsStrictlySortedBy nat_cmp ns → ascending ns ≡ ns
ascending-sorted ns sorted = onwards [] ns (none_below ns) sorted

pub none_sorted : IsStrictlySortedBy nat_cmp []
unfolding IsStrictlySortedBy
none_sorted = tt
