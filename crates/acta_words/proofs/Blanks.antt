-- A line has a word if some byte of it is not blank.
use Rattle.std.proofs.Common.{◌≡◌, ℕ, ◌==◌, Bool, true, false, cond, not, ◌||◌, List, [], ◌∷◌, length, filter, refl, ap, ◌∙◌, arith}
use Rattle.std.proofs.lemmas.Bool.Decides.{nat_tests}
use Rattle.std.specs.List.{list_any, slice_split, onto_first}
use Rattle.acta_words.specs.Text.{is_blank}

-- whether a part is not empty
abbrev is_some_word : List ℕ → Bool
is_some_word word = not (length word == 0)

-- whether one of the parts is not empty
abbrev has_some_word : List (List ℕ) → Bool
has_some_word parts = not (length (filter is_some_word parts) == 0)

some_length : {X : Type 0} (x : X) (xs : List X) → not (length (x ∷ xs) == 0) ≡ true
some_length x xs = grind (arith, nat_tests)

-- a byte put at the front makes the first part non-empty
with_first : (word : List ℕ) (parts : List (List ℕ)) → is_some_word word ≡ true → has_some_word (word ∷ parts) ≡ true
with_first word parts some =
    let rest = filter is_some_word parts in
    ap (λ t. not (length (cond t (word ∷ rest) rest) == 0)) some ∙ some_length word rest

in_front : (b : ℕ) (parts : List (List ℕ)) → has_some_word (onto_first b parts) ≡ true
in_front b [] = refl
in_front b (part ∷ parts) = with_first (b ∷ part) parts (some_length b part)

one_more : (blank : Bool) (b : ℕ) (parts : List (List ℕ)) → has_some_word (cond blank ([] ∷ parts) (onto_first b parts)) ≡ (not blank || has_some_word parts)
one_more true b parts = refl
one_more false b parts = in_front b parts

pub has_word : (bs : List ℕ) → has_some_word (slice_split is_blank bs) ≡ list_any (λ b. not (is_blank b)) bs
has_word [] = refl
has_word (b ∷ bs) = one_more (is_blank b) b (slice_split is_blank bs) ∙ ap (λ more. not (is_blank b) || more) (has_word bs)
