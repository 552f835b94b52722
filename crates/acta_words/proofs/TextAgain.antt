-- Reading back what was written: joining lines and splitting the text gives the same lines, and likewise for words.
use Rattle.std.proofs.Common.{◌≡◌, ℕ, suc, ◌+◌, ◌==◌, false, cond, not, List, [], ◌∷◌, ◌++◌, length, take, filter, refl, sym, ap, ◌∙◌, arith}
use Rattle.std.specs.List.{AllByRecursion, slice_split, onto_first, before_first, position_or_len}
use Rattle.std.proofs.lemmas.List.{append_assoc, append-nil}
use Rattle.acta_words.specs.Text.{is_line_feed, is_blank, is_mark, lines_left, lines_of, words_of, line_of, text_of}

-- no byte of the line is a line feed
abbrev pub IsOneLine : List ℕ → Type 0
IsOneLine line = AllByRecursion (λ b. is_line_feed b ≡ false) line

line_before : (line rest : List ℕ) → IsOneLine line → lines_left (line ++ 10 ∷ rest) ≡ line ∷ lines_left rest
line_before [] rest one = refl
line_before (b ∷ bs) rest one =
    ap (λ f. cond f ([] ∷ lines_left (bs ++ 10 ∷ rest)) (onto_first b (lines_left (bs ++ 10 ∷ rest)))) one.0
    ∙ ap (onto_first b) (line_before bs rest one.1)

left_again : (lines : List (List ℕ)) → AllByRecursion IsOneLine lines → lines_left (text_of lines) ≡ lines
left_again [] ones = refl
left_again (line ∷ lines) ones =
    ap lines_left (append_assoc line (10 ∷ []) (text_of lines))
    ∙ line_before line (text_of lines) ones.0
    ∙ ap (λ ls. line ∷ ls) (left_again lines ones.1)

some_left : (line rest : List ℕ) → lines_of ((line ++ 10 ∷ []) ++ rest) ≡ lines_left ((line ++ 10 ∷ []) ++ rest)
some_left [] rest = refl
some_left (b ∷ bs) rest = refl

-- splitting a text joined from lines gives these lines
pub lines_again : (line : List ℕ) (lines : List (List ℕ)) → AllByRecursion IsOneLine (line ∷ lines) → lines_of (text_of (line ∷ lines)) ≡ line ∷ lines
lines_again line lines ones = some_left line (text_of lines) ∙ left_again (line ∷ lines) ones

-- a byte that is not blank and does not begin a comment
pub record IsPlain (b : ℕ) : Type 0 where
  pub inside : is_blank b ≡ false
  pub counts : is_mark b ≡ false

-- a word has a byte, and only plain ones
pub record IsWord (word : List ℕ) : Type 0 where
  pub some : (length word == 0) ≡ false
  pub plain : AllByRecursion IsPlain word

pub goes_on : (b : ℕ) (bs : List ℕ) → is_mark b ≡ false → before_first is_mark (b ∷ bs) ≡ b ∷ before_first is_mark bs
goes_on b bs plain =
    let n = position_or_len is_mark bs in
    let one : 1 + n ≡ suc n = omega arith in
    ap (λ m. take (cond (not m) (1 + n) 0) (b ∷ bs)) plain ∙ (λ i. take (one i) (b ∷ bs))

unmarked : (bs rest : List ℕ) → AllByRecursion IsPlain bs → before_first is_mark (bs ++ rest) ≡ bs ++ before_first is_mark rest
unmarked [] rest all = refl
unmarked (b ∷ bs) rest all = goes_on b (bs ++ rest) all.0.counts ∙ ap (λ t. b ∷ t) (unmarked bs rest all.1)

-- a line joined from words has no comment
uncommented : (words : List (List ℕ)) → AllByRecursion IsWord words → before_first is_mark (line_of words) ≡ line_of words
uncommented [] all = refl
uncommented (word ∷ []) all =
    sym (ap (before_first is_mark) (append-nil word)) ∙ unmarked word [] all.0.plain ∙ append-nil word
uncommented (word ∷ next ∷ words) all =
    unmarked word (32 ∷ line_of (next ∷ words)) all.0.plain
    ∙ ap (λ t. word ++ t) (goes_on 32 (line_of (next ∷ words)) refl ∙ ap (λ t. 32 ∷ t) (uncommented (next ∷ words) all.1))

split_before : (bs rest : List ℕ) → AllByRecursion IsPlain bs → slice_split is_blank (bs ++ 32 ∷ rest) ≡ bs ∷ slice_split is_blank rest
split_before [] rest all = refl
split_before (b ∷ bs) rest all =
    ap (λ f. cond f ([] ∷ slice_split is_blank (bs ++ 32 ∷ rest)) (onto_first b (slice_split is_blank (bs ++ 32 ∷ rest)))) all.0.inside
    ∙ ap (onto_first b) (split_before bs rest all.1)

split_alone : (bs : List ℕ) → AllByRecursion IsPlain bs → slice_split is_blank bs ≡ bs ∷ []
split_alone [] all = refl
split_alone (b ∷ bs) all =
    ap (λ f. cond f ([] ∷ slice_split is_blank bs) (onto_first b (slice_split is_blank bs))) all.0.inside
    ∙ ap (onto_first b) (split_alone bs all.1)

split_again : (word : List ℕ) (words : List (List ℕ)) → AllByRecursion IsWord (word ∷ words) → slice_split is_blank (line_of (word ∷ words)) ≡ word ∷ words
split_again word [] all = split_alone word all.0.plain
split_again word (next ∷ words) all =
    split_before word (line_of (next ∷ words)) all.0.plain ∙ ap (λ ws. word ∷ ws) (split_again next words all.1)

all_stay : (words : List (List ℕ)) → AllByRecursion IsWord words → filter (λ word. not (length word == 0)) words ≡ words
all_stay [] all = refl
all_stay (word ∷ words) all =
    ap (λ b. cond (not b) (word ∷ filter (λ w. not (length w == 0)) words) (filter (λ w. not (length w == 0)) words)) all.0.some
    ∙ ap (λ ws. word ∷ ws) (all_stay words all.1)

-- splitting a line joined from words gives these words
pub words_again : (words : List (List ℕ)) → AllByRecursion IsWord words → words_of (line_of words) ≡ words
words_again [] all = refl
words_again (word ∷ words) all =
    ap (λ line. filter (λ w. not (length w == 0)) (slice_split is_blank line)) (uncommented (word ∷ words) all)
    ∙ ap (filter (λ w. not (length w == 0))) (split_again word words all)
    ∙ all_stay (word ∷ words) all
