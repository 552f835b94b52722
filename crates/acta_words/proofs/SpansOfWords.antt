-- The words of bytes from a place on, and those before it.
use Rattle.std.proofs.Common.{◌≡◌, ◌≤◌, ◌<◌, ℕ, zero, suc, ◌+◌, ◌-◌, ◌==◌, Bool, true, false, cond, not, List, [], ◌∷◌, ◌++◌, length, take, drop, filter, Option, Some, None, IfSome, slice_get, slice_range, refl, sym, ap, subst, ◌∙◌, arith}
use Rattle.std.specs.List.{slice_split, onto_first, before_first, position_or_len}
use Rattle.std.proofs.lemmas.Bool.Decides.{nat_tests}
use Rattle.std.proofs.Math.Seq.{take-add}
use Rattle.std.proofs.lemmas.List.{append-nil, append_cancel_right, drop-drop, take-append-drop, length-drop, drop-take}
use Rattle.std.proofs.lemmas.List.Sums.{prefix_len-le-length}
use Rattle.std.proofs.lemmas.List.Elements.{filter-append}
use Rattle.std.proofs.lemmas.List.Folds.{length-prefix_len}
use Rattle.acta_words.specs.Text.{is_blank, is_mark}
use Rattle.acta_words.specs.declared.spans.Span.{Span}
use Rattle.acta_words.specs.Spans.{IsSpanOf}
use Rattle.acta_words.specs.inside.NextSpans.{words_between, IsCut, IsNextSpan}

abbrev is_some_word : List ℕ → Bool
is_some_word word = not (length word == 0)

abbrev parts : List ℕ → List (List ℕ)
parts bytes = slice_split is_blank bytes

-- how many blanks there are at the front, and how long a word there is
abbrev pub blanks : List ℕ → ℕ
blanks bytes = position_or_len (λ b. not (is_blank b)) bytes

abbrev pub word_end : List ℕ → ℕ
word_end bytes = position_or_len is_blank bytes

one : (n : ℕ) → suc n ≡ 1 + n
one n = omega arith

-- the words of one byte more, a blank or not
words_more : (b : ℕ) (bs : List ℕ) (blank : Bool) → is_blank b ≡ blank → words_between (b ∷ bs) ≡ filter is_some_word (cond blank ([] ∷ parts bs) (onto_first b (parts bs)))
words_more b bs blank is = ap (λ t. filter is_some_word (cond t ([] ∷ parts bs) (onto_first b (parts bs)))) is

-- blanks at the front add no word
skip : (b : ℕ) (bs : List ℕ) (n : ℕ) → words_between bs ≡ words_between (drop n bs) → (blank : Bool) → is_blank b ≡ blank → words_between (b ∷ bs) ≡ words_between (drop (cond (not (not blank)) (1 + n) 0) (b ∷ bs))
skip b bs n e true is = words_more b bs true is ∙ e ∙ ap (λ k. words_between (drop k (b ∷ bs))) (one n)
skip b bs n e false is = refl

skip_blanks : (bs : List ℕ) → words_between bs ≡ words_between (drop (blanks bs) bs)
skip_blanks [] = refl
skip_blanks (b ∷ bs) = skip b bs (blanks bs) (skip_blanks bs) (is_blank b) refl

-- the part at the front, and the words after it
abbrev IsFirst : List ℕ → ℕ → List (List ℕ) → Type 0
IsFirst bs n tail = (parts bs ≡ take n bs ∷ tail) × (filter is_some_word tail ≡ words_between (drop n bs))

first_more : (b : ℕ) (bs : List ℕ) (n : ℕ) (tail : List (List ℕ)) → IsFirst bs n tail → (blank : Bool) → is_blank b ≡ blank → (tail : List (List ℕ)) × IsFirst (b ∷ bs) (cond (not blank) (1 + n) 0) tail
first_more b bs n tail h true is =
    (parts bs, (ap (λ t. cond t ([] ∷ parts bs) (onto_first b (parts bs))) is, sym (words_more b bs true is)))
first_more b bs n tail h false is =
    (tail, (ap (λ t. cond t ([] ∷ parts bs) (onto_first b (parts bs))) is ∙ ap (onto_first b) h.0 ∙ ap (λ k. take k (b ∷ bs) ∷ tail) (one n), h.1 ∙ ap (λ k. words_between (drop k (b ∷ bs))) (one n)))

first_part : (bs : List ℕ) → (tail : List (List ℕ)) × IsFirst bs (word_end bs) tail
first_part [] = ([], (refl, refl))
first_part (b ∷ bs) =
    let rest = first_part bs in
    first_more b bs (word_end bs) rest.0 rest.1 (is_blank b) refl

some_word : (word : List ℕ) (n : ℕ) → length word ≡ n → 0 < n → is_some_word word ≡ true
some_word word n is some = grind (arith, nat_tests)

-- a word at the front, and the words after it
pub front_word : (bs : List ℕ) → 0 < word_end bs → words_between bs ≡ take (word_end bs) bs ∷ words_between (drop (word_end bs) bs)
front_word bs some =
    let first = first_part bs in
    let word = take (word_end bs) bs in
    ap (filter is_some_word) first.1.0
    ∙ ap (λ t. cond t (word ∷ filter is_some_word first.0) (filter is_some_word first.0)) (some_word word (word_end bs) (length-prefix_len (λ b. not (is_blank b)) bs) some)
    ∙ ap (λ words. word ∷ words) first.1.1

-- if no word follows the leading blanks, there is none
none : (b : ℕ) (bs : List ℕ) → (word_end (drop (blanks bs) bs) ≡ 0 → words_between bs ≡ []) → (blank : Bool) → is_blank b ≡ blank → word_end (drop (cond (not (not blank)) (1 + blanks bs) 0) (b ∷ bs)) ≡ 0 → words_between (b ∷ bs) ≡ []
none b bs h true is ends = words_more b bs true is ∙ h (ap (λ k. word_end (drop k (b ∷ bs))) (one (blanks bs)) ∙ ends)
none b bs h false is ends =
    let long : 1 + word_end bs ≡ 0 = sym (ap (λ t. cond (not t) (1 + word_end bs) 0) is) ∙ ends in
    absurd (omega arith)

pub no_word : (bs : List ℕ) → word_end (drop (blanks bs) bs) ≡ 0 → words_between bs ≡ []
no_word [] ends = refl
no_word (b ∷ bs) ends = none b bs (no_word bs) (is_blank b) refl ends

-- the end of a word is a cut: no word crosses it
stop : (b : ℕ) (bs : List ℕ) → word_end (drop (word_end bs) bs) ≡ 0 → (blank : Bool) → is_blank b ≡ blank → word_end (drop (cond (not blank) (1 + word_end bs) 0) (b ∷ bs)) ≡ 0
stop b bs h true is = ap (λ t. cond (not t) (1 + word_end bs) 0) is
stop b bs h false is = sym (ap (λ k. word_end (drop k (b ∷ bs))) (one (word_end bs))) ∙ h

pub stops : (bs : List ℕ) → word_end (drop (word_end bs) bs) ≡ 0
stops [] = refl
stops (b ∷ bs) = stop b bs (stops bs) (is_blank b) refl

-- the parts of bytes with a blank between them
part_more : (x : ℕ) (ps qs : List (List ℕ)) (p : List ℕ) (blank : Bool) → cond blank ([] ∷ ((p ∷ ps) ++ qs)) (onto_first x ((p ∷ ps) ++ qs)) ≡ cond blank ([] ∷ p ∷ ps) (onto_first x (p ∷ ps)) ++ qs
part_more x ps qs p true = refl
part_more x ps qs p false = refl

parts_cut : (xs : List ℕ) (y : ℕ) (ys : List ℕ) → is_blank y ≡ true → parts (xs ++ y ∷ ys) ≡ parts xs ++ parts ys
parts_cut [] y ys is = ap (λ t. cond t ([] ∷ parts ys) (onto_first y (parts ys))) is
parts_cut (x ∷ xs) y ys is =
    let first = first_part xs in
    let all : parts (xs ++ y ∷ ys) ≡ (take (word_end xs) xs ∷ first.0) ++ parts ys = parts_cut xs y ys is ∙ ap (λ ps. ps ++ parts ys) first.1.0 in
    ap (λ ps. cond (is_blank x) ([] ∷ ps) (onto_first x ps)) all
    ∙ part_more x first.0 (parts ys) (take (word_end xs) xs) (is_blank x)
    ∙ ap (λ ps. cond (is_blank x) ([] ∷ ps) (onto_first x ps) ++ parts ys) (sym first.1.0)

blank_first : (y : ℕ) (n : ℕ) (blank : Bool) → is_blank y ≡ blank → cond (not (is_blank y)) (1 + n) 0 ≡ 0 → is_blank y ≡ true
blank_first y n true is ends = is
blank_first y n false is ends =
    let long : 1 + n ≡ 0 = sym (ap (λ t. cond (not t) (1 + n) 0) is) ∙ ends in
    absurd (omega arith)

-- bytes may be cut where no word crosses
pub cut : (xs ys : List ℕ) → word_end ys ≡ 0 → words_between (xs ++ ys) ≡ words_between xs ++ words_between ys
cut xs [] ends = ap words_between (append-nil xs) ∙ sym (append-nil (words_between xs))
cut xs (y ∷ ys) ends =
    let blank = blank_first y (word_end ys) (is_blank y) refl ends in
    ap (filter is_some_word) (parts_cut xs y ys blank)
    ∙ filter-append is_some_word (parts xs) (parts ys)
    ∙ ap (λ words. words_between xs ++ words) (sym (words_more y ys true blank))

-- blanks alone are no words
alone : (b : ℕ) (bs : List ℕ) (n : ℕ) → words_between (take n bs) ≡ [] → (blank : Bool) → is_blank b ≡ blank → (words_between (take (cond (not (not blank)) (1 + n) 0) (b ∷ bs)) ≡ []) × (word_end (take (cond (not (not blank)) (1 + n) 0) (b ∷ bs)) ≡ 0)
alone b bs n e true is = (
  sym (ap (λ k. words_between (take k (b ∷ bs))) (one n)) ∙ words_more b (take n bs) true is ∙ e,
  sym (ap (λ k. word_end (take k (b ∷ bs))) (one n)) ∙ ap (λ t. cond (not t) (1 + word_end (take n bs)) 0) is,
)
alone b bs n e false is = (refl, refl)

blanks_alone : (bs : List ℕ) → (words_between (take (blanks bs) bs) ≡ []) × (word_end (take (blanks bs) bs) ≡ 0)
blanks_alone [] = (refl, refl)
blanks_alone (b ∷ bs) = alone b bs (blanks bs) (blanks_alone bs).0 (is_blank b) refl

pub with_blanks : (xs bs : List ℕ) → words_between (xs ++ take (blanks bs) bs) ≡ words_between xs
with_blanks xs bs =
    cut xs (take (blanks bs) bs) (blanks_alone bs).1
    ∙ ap (λ words. words_between xs ++ words) (blanks_alone bs).0
    ∙ append-nil (words_between xs)

abbrev span : ℕ → ℕ → Span
span from to = record { from = from; to = to }

-- the next span: from the first non-blank byte to the end of the word there
pub next : (bytes : List ℕ) (at k n : ℕ) → k ≡ blanks (drop at bytes) → n ≡ word_end (drop (at + k) bytes) → 0 < n → at + k + n ≤ length bytes → IsNextSpan bytes at (span (at + k) (at + k + n))
next bytes at k n blank word some within =
    let rest = drop (at + k) bytes in
    let behind : drop k (drop at bytes) ≡ rest = drop-drop k at bytes in
    let width : at + k + n - (at + k) ≡ n = omega arith in
    record {
      before = ap words_between (take-add at k bytes ∙ ap (λ j. take at bytes ++ take j (drop at bytes)) blank) ∙ with_blanks (take at bytes) (drop at bytes);
      word =
          skip_blanks (drop at bytes)
          ∙ ap (λ j. words_between (drop j (drop at bytes))) (sym blank)
          ∙ ap words_between behind
          ∙ front_word rest (omega arith)
          ∙ ap (λ j. take j rest ∷ words_between (drop j rest)) (sym word)
          ∙ (λ i. take (sym width i) rest ∷ words_between (drop-drop n (at + k) bytes i));
      cut =
          ap words_between (sym (take-append-drop (at + k + n) bytes))
          ∙ cut (take (at + k + n) bytes) (drop (at + k + n) bytes)
          (ap word_end (sym (drop-drop n (at + k) bytes)) ∙ ap (λ j. word_end (drop j rest)) word ∙ stops rest);
      some = omega arith;
      within = omega arith;
    }

-- loop invariant: the words from here on are those left after the first i
pub record IsAt (bytes : List ℕ) (i at : ℕ) : Type 0 where
  pub within : at ≤ length bytes
  pub count : i ≤ length (words_between bytes)
  pub left : words_between (drop at bytes) ≡ drop i (words_between bytes)
  pub cut : IsCut bytes at

tail_of : {X : Type 0} (xs ys : List X) (x : X) (i : ℕ) → x ∷ ys ≡ drop i xs → ys ≡ drop (i + 1) xs
tail_of xs ys x i e = ap (drop 1) e ∙ drop-drop 1 i xs

longer : {X : Type 0} (xs ys : List X) (x : X) (i : ℕ) → x ∷ ys ≡ drop i xs → i < length xs
longer xs ys x i e = omega (arith, ap length e, length-drop i xs)

found : {X : Type 0} (xs ys : List X) (x : X) (i : ℕ) → x ∷ ys ≡ drop i xs → slice_get xs i ≡ Some x
found [] ys x i e = absurd (omega (arith, longer [] ys x i e))
found (z ∷ xs) ys x zero e = cc
found (z ∷ xs) ys x (suc i) e = found xs ys x i e

pub step : (bytes : List ℕ) (i at : ℕ) (span : Span) → IsAt bytes i at → IsNextSpan bytes at span → IsAt bytes (i + 1) span.to
step bytes i at span so_far next =
    let words = words_between bytes in
    let left : slice_range bytes span.from span.to ∷ words_between (drop span.to bytes) ≡ drop i words = sym next.word ∙ so_far.left in
    record {
      within = next.within;
      count = omega (arith, longer words (words_between (drop span.to bytes)) (slice_range bytes span.from span.to) i left);
      left = tail_of words (words_between (drop span.to bytes)) (slice_range bytes span.from span.to) i left;
      cut = next.cut;
    }

front_of : {X : Type 0} (xs ys : List X) (i : ℕ) → xs ≡ ys ++ drop i xs → ys ≡ take i xs
front_of xs ys i e = append_cancel_right ys (take i xs) (drop i xs) (sym e ∙ sym (take-append-drop i xs))

-- the same of a line before its comment
before_more : (b : ℕ) (bs : List ℕ) (n : ℕ) → before_first is_mark (take n bs) ≡ take n (before_first is_mark bs) → (mark : Bool) → is_mark b ≡ mark → before_first is_mark (b ∷ take n bs) ≡ take (suc n) (before_first is_mark (b ∷ bs))
before_more b bs n h true is =
    ap (λ t. take (cond (not t) (1 + position_or_len is_mark (take n bs)) 0) (b ∷ take n bs)) is
    ∙ ap (λ t. take (suc n) (take (cond (not t) (1 + position_or_len is_mark bs) 0) (b ∷ bs))) (sym is)
before_more b bs n h false is =
    ap (λ t. take (cond (not t) (1 + position_or_len is_mark (take n bs)) 0) (b ∷ take n bs)) is
    ∙ ap (λ k. take k (b ∷ take n bs)) (sym (one (position_or_len is_mark (take n bs))))
    ∙ ap (λ t. b ∷ t) h
    ∙ ap (λ k. take (suc n) (take k (b ∷ bs))) (one (position_or_len is_mark bs))
    ∙ ap (λ t. take (suc n) (take (cond (not t) (1 + position_or_len is_mark bs) 0) (b ∷ bs))) (sym is)

before_taken : (n : ℕ) (bs : List ℕ) → before_first is_mark (take n bs) ≡ take n (before_first is_mark bs)
before_taken zero bs = refl
before_taken (suc n) [] = refl
before_taken (suc n) (b ∷ bs) = before_more b bs n (before_taken n bs) (is_mark b) refl

shorter : (i j : ℕ) (bs : List ℕ) → i ≤ j → take i (take j bs) ≡ take i bs
shorter zero j bs low = refl
shorter (suc i) zero bs low = absurd (omega arith)
shorter (suc i) (suc j) [] low = refl
shorter (suc i) (suc j) (b ∷ bs) low = ap (λ t. b ∷ t) (shorter i j bs (omega arith))

range_before : (line : List ℕ) (m from to : ℕ) → from ≤ to → to ≤ m → slice_range (take m line) from to ≡ slice_range line from to
range_before line m from to low high =
    let split : from + (m - from) ≡ m = omega arith in
    ap (λ k. take (to - from) (drop from (take k line))) (sym split)
    ∙ ap (take (to - from)) (drop-take from (m - from) line)
    ∙ shorter (to - from) (m - from) (drop from line) (omega arith)

prefix_within : (p : ℕ → Bool) (bs : List ℕ) (to : ℕ) → to ≤ length (before_first p bs) → (to ≤ position_or_len p bs) × (to ≤ length bs)
prefix_within p bs to within =
    let short = length-prefix_len (λ b. not (p b)) bs in
    let few = prefix_len-le-length (λ b. not (p b)) bs in
    (omega arith, omega arith)

-- the next span after the first words is the span of the next word
pub is_span : (line : List ℕ) (place at : ℕ) (span : Span) → IsAt (before_first is_mark line) place at → IsNextSpan (before_first is_mark line) at span → IsSpanOf line place span
is_span line place at span so_far next =
    let bytes = before_first is_mark line in
    let words = words_between bytes in
    let rest = words_between (drop span.to bytes) in
    let range : slice_range bytes span.from span.to ≡ slice_range line span.from span.to = range_before line (position_or_len is_mark line) span.from span.to (omega (arith, next.some)) (prefix_within is_mark line span.to next.within).0 in
    let left : slice_range line span.from span.to ∷ rest ≡ drop place words = ap (λ word. word ∷ rest) (sym range) ∙ sym next.word ∙ so_far.left in
    record {
      before =
          ap words_between (before_taken span.from line)
          ∙ next.before
          ∙ front_of words (words_between (take at bytes)) place (so_far.cut ∙ ap (λ ws. words_between (take at bytes) ++ ws) so_far.left);
      word = found words rest (slice_range line span.from span.to) place left;
      some = next.some;
      within = (prefix_within is_mark line span.to next.within).1;
    }

-- where no word is left, there are no more
pub is_last : (bytes : List ℕ) (i at : ℕ) → IsAt bytes i at → words_between (drop at bytes) ≡ [] → length (words_between bytes) ≤ i
is_last bytes i at so_far over = omega (arith, ap length (sym so_far.left ∙ over), length-drop i (words_between bytes))

pub is_span_if : (line bytes : List ℕ) (place i at : ℕ) (r : Option Span) → bytes ≡ before_first is_mark line → i ≡ place → IsAt bytes i at → IfSome r (IsNextSpan bytes at) → IfSome r (IsSpanOf line place)
is_span_if line bytes place i at None text all so_far next = tt
is_span_if line bytes place i at (Some span) text all so_far next =
    is_span line place at span
    (subst (λ (bs : List ℕ). IsAt bs place at) text (subst (λ (n : ℕ). IsAt bytes n at) all so_far))
    (subst (λ (bs : List ℕ). IsNextSpan bs at span) text next)
