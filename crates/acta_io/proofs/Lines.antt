-- One line after another: what they say so far, before what the lines that are left say.
use Rattle.std.proofs.Common.{◌≡◌, ℕ, suc, ◌+◌, Bool, true, false, not, ◌==◌, if◌then◌else◌, List, [], ◌∷◌, ◌++◌, length, refl, sym, ap, ◌∙◌}
use Rattle.std.specs.Prelude.{Option, Some, None, Result, Ok, Err, IfOk, IfNone}
use Rattle.std.proofs.lemmas.List.{append-nil}
use Rattle.acta_table.specs.Numbered.{numbers_from}
use Rattle.acta_script.specs.declared.fault.LineFault.{LineFault}
use Rattle.acta_words.specs.Text.{words_of}
use Rattle.acta_io.specs.declared.input.BadLine.{BadLine}
use Rattle.acta_io.specs.Input.{Parsed, parsed_by, parsed_from, with_line}

-- these, before other results
abbrev pub put_before : {X : Type 0} → List X → Parsed X → Parsed X
put_before xs s = record s { parsed = xs ++ s.parsed }

-- nothing has been read yet
pub begins : {X : Type 0} (read : List ℕ → Result X LineFault) (n : ℕ) (xs : List X) (left : List (List ℕ)) → xs ≡ [] → put_before xs (parsed_from read n left) ≡ parsed_from read n left
begins read n xs left none = λ i. put_before (none i) (parsed_from read n left)

-- no line is left
pub ends : {X : Type 0} (read : List ℕ → Result X LineFault) (n : ℕ) (xs : List X) (left : List (List ℕ)) (all : Parsed X) → left ≡ [] → put_before xs (parsed_from read n left) ≡ all → all ≡ record { parsed = xs; stop = None }
ends read n xs left all none h = sym h ∙ ap (λ l. put_before xs (parsed_from read n l)) none ∙ (λ i. record { parsed = append-nil xs i; stop = None })

-- the next line, and those after it
pub turn : {X : Type 0} (read : List ℕ → Result X LineFault) (n : ℕ) (xs : List X) (line : List ℕ) (left rest : List (List ℕ)) (says : Option (Result X LineFault)) (all : Parsed X)
    → left ≡ line ∷ rest → parsed_by read line ≡ says → put_before xs (parsed_from read n left) ≡ all
    → put_before xs (with_line n says (parsed_from read (n + 1) rest)) ≡ all
turn read n xs line left rest says all parts is h =
    (λ i. put_before xs (with_line n (sym is i) (parsed_from read (n + 1) rest))) ∙ sym (ap (λ l. put_before xs (parsed_from read n l)) parts) ∙ h

-- whether the line has a word
abbrev pub has_word : List ℕ → Bool
has_word line = not (length (words_of line) == 0)

next-number : {X : Type 0} (is_blank : Bool) (n k : ℕ) (reading : Result X LineFault) (numbers : List ℕ) (rest : Parsed X)
    → (rest.stop ≡ None → length numbers ≡ length rest.parsed) → (with_line n (if is_blank then None else Some reading) rest).stop ≡ None
    → length (if not is_blank then k ∷ numbers else numbers) ≡ length (with_line n (if is_blank then None else Some reading) rest).parsed
next-number true n k reading numbers rest as_many whole = as_many whole
next-number false n k (Ok x) numbers rest as_many whole = ap suc (as_many whole)
next-number false n k (Err fault) numbers rest as_many whole = absurd (cc)

-- where no line is faulty, as many lines have a word as say something
pub as-many : {X : Type 0} (read : List ℕ → Result X LineFault) (n k : ℕ) (lines : List (List ℕ))
    → (parsed_from read n lines).stop ≡ None → length (numbers_from has_word k lines) ≡ length (parsed_from read n lines).parsed
as-many read n k [] whole = refl
as-many read n k (line ∷ lines) whole =
    next-number (length (words_of line) == 0) n k (read line) (numbers_from has_word (k + 1) lines) (parsed_from read (n + 1) lines) (as-many read (n + 1) (k + 1) lines) whole

if-none : {X : Type 0} (o : Option X) (P : Type 0) → (o ≡ None → P) → IfNone o P
if-none None P holds = holds refl
if-none (Some x) P holds = tt

-- the same of an input that was read, where memory lasted
pub numbered : {V E X : Type 0} (read : List ℕ → Result X LineFault) (lines : List (List ℕ)) (parsed : V → List X) (stop : V → Option BadLine) (r : Result V E)
    → IfOk r (λ v. parsed_from read 1 lines ≡ record { parsed = parsed v; stop = stop v })
    → IfOk r (λ v. IfNone (stop v) (length (numbers_from has_word 1 lines) ≡ length (parsed v)))
numbered read lines parsed stop (Ok v) is =
    if-none (stop v) (length (numbers_from has_word 1 lines) ≡ length (parsed v))
    (λ whole. as-many read 1 1 lines (ap (λ (s : Parsed _). s.stop) is ∙ whole) ∙ ap (λ (s : Parsed _). length s.parsed) is)
numbered read lines parsed stop (Err e) is = is
