-- The first line of a text, and the lines after it.
use Rattle.std.proofs.Common.{◌≡◌, ◌≤◌, ℕ, suc, ◌+◌, length, Bool, true, false, cond, not, List, [], ◌∷◌, take, drop, refl, sym, ap, ◌∙◌, arith}
use Rattle.std.specs.List.{position_or_len, onto_first}
use Rattle.acta_words.specs.Text.{is_line_feed, lines_left, lines_of}

-- where the first line ends
abbrev first_end : List ℕ → ℕ
first_end text = position_or_len is_line_feed text

-- one byte more at the front, a line feed or not
more : (is_feed : Bool) (b : ℕ) (bs : List ℕ) (n : ℕ) → onto_first b (lines_left bs) ≡ take (1 + n) (b ∷ bs) ∷ lines_left (drop (1 + n + 1) (b ∷ bs)) → cond is_feed ([] ∷ lines_left bs) (onto_first b (lines_left bs)) ≡ take (cond (not is_feed) (1 + n) 0) (b ∷ bs) ∷ lines_left (drop (cond (not is_feed) (1 + n) 0 + 1) (b ∷ bs))
more true b bs n h = refl
more false b bs n h = h

first_left : (b : ℕ) (bs : List ℕ) → lines_left (b ∷ bs) ≡ take (first_end (b ∷ bs)) (b ∷ bs) ∷ lines_left (drop (first_end (b ∷ bs) + 1) (b ∷ bs))
first_left b [] = more (is_line_feed b) b [] 0 refl
first_left b (c ∷ cs) =
    let n = first_end (c ∷ cs) in
    let one : suc n ≡ 1 + n = omega arith in
    let two : suc (n + 1) ≡ 1 + n + 1 = omega arith in
    more (is_line_feed b) b (c ∷ cs) n
    (ap (onto_first b) (first_left c cs) ∙ (λ i. take (one i) (b ∷ c ∷ cs) ∷ lines_left (drop (two i) (b ∷ c ∷ cs))))

-- the lines of a text: the first, and those left after its line feed
pub first_line : (text : List ℕ) → lines_of text ≡ take (position_or_len is_line_feed text) text ∷ lines_left (drop (position_or_len is_line_feed text + 1) text)
first_line [] = refl
first_line (b ∷ bs) = first_left b bs

-- the same, with names for the end of the first line, the rest of the text, and the lines of the rest
pub goes_on : (text rest : List ℕ) (n : ℕ) (left : List (List ℕ)) → n ≡ position_or_len is_line_feed text → rest ≡ drop (n + 1) text → left ≡ lines_left rest → lines_of text ≡ take n text ∷ left
goes_on text rest n left at behind lines =
    first_line text
    ∙ (λ i. take (sym at i) text ∷ sym (lines ∙ ap lines_left behind ∙ ap (λ k. lines_left (drop (k + 1) text)) at) i)

one_more : (is_feed : Bool) (b : ℕ) (lines : List (List ℕ)) (n : ℕ) → length lines ≤ n → length (cond is_feed ([] ∷ lines) (onto_first b lines)) ≤ suc n
one_more true b lines n h = omega arith
one_more false b [] n h = omega arith
one_more false b (line ∷ lines) n h = omega arith

-- what is left has no more lines than bytes
few_left : (bs : List ℕ) → length (lines_left bs) ≤ length bs
few_left [] = omega arith
few_left (b ∷ bs) = one_more (is_line_feed b) b (lines_left bs) (length bs) (few_left bs)

pub few_lines : (text : List ℕ) → length (lines_of text) ≤ length text + 1
few_lines [] = omega arith
few_lines (b ∷ bs) = omega (arith, few_left (b ∷ bs))
