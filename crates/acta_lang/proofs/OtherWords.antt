-- A text whose first word is not of the language, `ACTA` and possibly more, is not a model.
use Rattle.std.proofs.Common.{◌≡◌, ℕ, ◌==◌, Bool, true, false, cond, List, [], ◌∷◌, filter, length, not, codes, Ok, true≢false, arith, refl, sym, ap, ◌∙◌}
use Rattle.std.specs.List.{onto_first, slice_split, before_first}
use Rattle.std.proofs.lemmas.List.Splits.{slice_split-cons_no}
use Rattle.std.specs.Prelude.{slice_index, if◌then◌else◌}
use Rattle.std.specs.Str.{bytes_eq}
use Rattle.std.proofs.lemmas.Bool.{false_from_ne_true, ne_eqb}
use Rattle.std.proofs.lemmas.Slice.Eq.{bytes_eq-Decides}
use Rattle.acta_table.specs.declared.model.Parts.{Parts}
use Rattle.acta_words.specs.Text.{is_blank, is_mark, lines_left, words_of}
use Rattle.acta_words.proofs.TextAgain.{goes_on}
use Rattle.acta_lang.specs.declared.form.Form.{Form}
use Rattle.acta_lang.specs.declared.form.Form.TheVariants as form
use Rattle.acta_lang.specs.Drafts.{declared}
use Rattle.acta_lang.specs.Faults.{bad_word, code_at}
use Rattle.acta_lang.specs.Forms.{class_form, commit_form, delegation_form, end_form, form_of, may_form, object_form, policy_form, scope_form, spawn_form, split_form, starts_form}
use Rattle.acta_lang.specs.Meaning.{meaning, meaning_after}
use Rattle.acta_lang.proofs.NoCodes.{no_test}
use Rattle.acta_lang.proofs.Sound.{judged_ok}

-- the four bytes, and then a word's others
abbrev begun : List ℕ → List ℕ
begun bytes = 65 ∷ 67 ∷ 84 ∷ 65 ∷ bytes

-- the lists, with the four bytes before the first
abbrev onto : List (List ℕ) → List (List ℕ)
onto lists = onto_first 65 (onto_first 67 (onto_first 84 (onto_first 65 lists)))

-- a line that begins so says nothing
plain : (line : List ℕ) → before_first is_mark (begun line) ≡ begun (before_first is_mark line)
plain line =
    goes_on 65 (67 ∷ 84 ∷ 65 ∷ line) refl
    ∙ ap (λ t. 65 ∷ t) (goes_on 67 (84 ∷ 65 ∷ line) refl)
    ∙ ap (λ t. 65 ∷ 67 ∷ t) (goes_on 84 (65 ∷ line) refl)
    ∙ ap (λ t. 65 ∷ 67 ∷ 84 ∷ t) (goes_on 65 line refl)

apart : (line : List ℕ) → slice_split is_blank (begun line) ≡ onto (slice_split is_blank line)
apart line =
    slice_split-cons_no is_blank 65 (67 ∷ 84 ∷ 65 ∷ line) refl
    ∙ ap (onto_first 65) (slice_split-cons_no is_blank 67 (84 ∷ 65 ∷ line) refl)
    ∙ ap (λ t. onto_first 65 (onto_first 67 t)) (slice_split-cons_no is_blank 84 (65 ∷ line) refl)
    ∙ ap (λ t. onto_first 65 (onto_first 67 (onto_first 84 t))) (slice_split-cons_no is_blank 65 line refl)

-- words that begin with different bytes are different
differs : (word : List ℕ) (b : ℕ) (bytes : List ℕ) → (65 == b) ≡ false → bytes_eq (65 ∷ word) (b ∷ bytes) ≡ false
differs word b bytes apart = false_from_ne_true (bytes_eq (65 ∷ word) (b ∷ bytes)) (λ e. true≢false (sym (eqb-refl_at b (ap (λ xs. slice_index xs 0) (same e))) ∙ apart))
  where
    same : bytes_eq (65 ∷ word) (b ∷ bytes) ≡ true → 65 ∷ word ≡ b ∷ bytes
    same e = grind (arith, bytes_eq-Decides (65 ∷ word) (b ∷ bytes))

    eqb-refl_at : (n : ℕ) → 65 ≡ n → (65 == n) ≡ true
    eqb-refl_at n is = ap (λ k. 65 == k) (sym is)

-- a word is kept
kept : (word : List ℕ) (words : List (List ℕ)) → filter (λ word. not (length word == 0)) (begun word ∷ words) ≡ begun word ∷ filter (λ word. not (length word == 0)) words
kept word words =
    let rest = filter (λ (word : List ℕ). not (length word == 0)) words in
    ap (λ b. cond (not b) (begun word ∷ rest) rest) (ne_eqb (length (begun word)) 0 (λ h. omega (arith, h)))

skip : (parsed others : Form) (test : Bool) → test ≡ false → (if test then parsed else others) ≡ others
skip parsed others test is = ap (λ b. cond b parsed others) is

no_form : (line : List ℕ) → form_of (words_of (begun line)) ≡ form.Unknown
no_form line =
    ap (λ t. form_of (filter (λ word. not (length word == 0)) t)) (ap (slice_split is_blank) (plain line) ∙ apart (before_first is_mark line))
    ∙ of_words (slice_split is_blank (before_first is_mark line))
  where
    of_words : (words : List (List ℕ)) → form_of (filter (λ word. not (length word == 0)) (onto words)) ≡ form.Unknown
    of_words [] = refl
    of_words (word ∷ words) =
        let d = λ (b : ℕ) (bytes : List ℕ). differs (67 ∷ 84 ∷ 65 ∷ word) b bytes in
        let rest = filter (λ (word : List ℕ). not (length word == 0)) words in
        ap form_of (kept word words)
        ∙ skip (object_form rest) _ _ (d 111 (codes "bject") refl)
        ∙ skip (class_form rest) _ _ (d 99 (codes "lass") refl)
        ∙ skip (starts_form rest) _ _ (d 115 (codes "tarts") refl)
        ∙ skip (may_form rest) _ _ (d 109 (codes "ay") refl)
        ∙ skip (scope_form rest) _ _ (d 115 (codes "cope") refl)
        ∙ skip (policy_form rest) _ _ (d 112 (codes "olicy") refl)
        ∙ skip (commit_form rest) _ _ (d 99 (codes "ommit") refl)
        ∙ skip (delegation_form rest) _ _ (d 100 (codes "elegation") refl)
        ∙ skip (spawn_form rest) _ _ (d 115 (codes "pawn") refl)
        ∙ skip (split_form rest) _ _ (d 115 (codes "plit") refl)
        ∙ skip (end_form rest) form.Unknown _ (d 101 (codes "nd") refl)

-- so that a text that begins so is not a model
pub no_meaning : {A : Type 0} (bytes : List ℕ) (m : Parts A) → meaning (begun bytes) ≡ Ok m → true ≡ false
unfolding meaning_after bad_word
no_meaning {A} bytes m means = of_lines (lines_left bytes) means
  where
    of_line : (line : List ℕ) (lines : List (List ℕ)) → meaning_after {A = A} [] (begun line ∷ lines) ≡ Ok m → true ≡ false
    of_line line lines e =
        let d = declared {A = A} [] in
        let is_last = length lines == 0 in
        let words = words_of (begun line) in
        let none = (judged_ok 1 (code_at d is_last (begun line)) _ m e).0 in
        sym (ap bad_word (no_form line)) ∙ (no_test d is_last (begun line) words (form_of words) none).known

    of_lines : (lines : List (List ℕ)) → meaning_after {A = A} [] (onto lines) ≡ Ok m → true ≡ false
    of_lines [] e = of_line [] [] e
    of_lines (line ∷ lines) e = of_line line lines e
