-- One line after another is tried on a machine.
use Rattle.std.proofs.Common.{◌≡◌, ℕ, suc, ◌+◌, Bool, true, false, not, ◌==◌, if◌then◌else◌, List, [], ◌∷◌, ◌++◌, length, Option, Some, None, Result, Ok, Err, refl, sym, ap, ◌∙◌}
use Rattle.std.specs.Prelude.{option_map}
use Rattle.std.specs.List.{cons_option}
use Rattle.std.proofs.lemmas.List.{append_assoc}
use Rattle.acta_table.specs.declared.event.Event.{Event}
use Rattle.acta_table.specs.declared.model.Parts.{Parts}
use Rattle.acta_table.specs.Numbered.{numbers_from}
use Rattle.acta_words.specs.Text.{words_of}
use Rattle.acta_script.specs.declared.fault.LineFault.{LineFault}
use Rattle.acta_script.specs.Reading.{event_of}
use Rattle.acta_io.specs.Input.{parsed_by}
use Rattle.acta_io.proofs.Lines.{has_word}
use Rattle.acta_machine.specs.Table.{State, after, after_all, answer_to, answers_to}
use Rattle.acta_machine.proofs.Runs.{model-after}
use Rattle.acta_compare.specs.declared.seen.Seen.{Seen}
use Rattle.acta_compare.specs.Seen.{events_among, parsed_each, seen_of, seen_with}
use Rattle.acta_compare.specs.inside.Lines.{seen_at, seen_by, seen_from, state_at, state_by, state_from}

-- the answer to a line, before those of the rest
parsed-next : {A : Type 0} (s : State A) (parsed : Option (Result (Event A) LineFault)) (rest : List (List ℕ))
    → seen_with (cons_option parsed (parsed_each s.model rest)) (answers_to s (events_among (cons_option parsed (parsed_each s.model rest))))
    ≡ cons_option (option_map (seen_by s) parsed) (seen_from (state_by s parsed) rest)
parsed-next s None rest = refl
parsed-next s (Some (Err fault)) rest = refl
parsed-next {A} s (Some (Ok event)) rest =
    ap (λ (m : Parts A). seen_of (answer_to s event) ∷ seen_with (parsed_each m rest) (answers_to (after s event) (events_among (parsed_each m rest))))
    (sym (model-after s event))

-- the next line, before the rest
pub seen-next : {A : Type 0} (s : State A) (line : List ℕ) (rest : List (List ℕ)) → seen_from s (line ∷ rest) ≡ cons_option (seen_at s line) (seen_from (state_at s line) rest)
seen-next s line rest = parsed-next s (parsed_by (event_of s.model) line) rest

moved-next : {A : Type 0} (s : State A) (parsed : Option (Result (Event A) LineFault)) (rest : List (List ℕ))
    → after_all s (events_among (cons_option parsed (parsed_each s.model rest))) ≡ state_from (state_by s parsed) rest
moved-next s None rest = refl
moved-next s (Some (Err fault)) rest = refl
moved-next {A} s (Some (Ok event)) rest =
    ap (λ (m : Parts A). after_all (after s event) (events_among (parsed_each m rest))) (sym (model-after s event))

pub state-next : {A : Type 0} (s : State A) (line : List ℕ) (rest : List (List ℕ)) → state_from s (line ∷ rest) ≡ state_from (state_at s line) rest
state-next s line rest = moved-next s (parsed_by (event_of s.model) line) rest

-- a line that has a word is seen, and the machine moves on
pub seen-one : {A : Type 0} (s t : State A) (found next all : List Seen) (lines rest : List (List ℕ)) (line : List ℕ) (one : Seen)
    → lines ≡ line ∷ rest → seen_at s line ≡ Some one → t ≡ state_at s line → next ≡ found ++ one ∷ []
    → found ++ seen_from s lines ≡ all → next ++ seen_from t rest ≡ all
seen-one s t found next all lines rest line one parts is moved pushed so_far =
    (λ i. pushed i ++ seen_from (moved i) rest) ∙ append_assoc found (one ∷ []) (seen_from (state_at s line) rest)
    ∙ ap (λ (o : Option Seen). found ++ cons_option o (seen_from (state_at s line) rest)) (sym is)
    ∙ ap (λ (more : List Seen). found ++ more) (sym (seen-next s line rest))
    ∙ ap (λ (ls : List (List ℕ)). found ++ seen_from s ls) (sym parts)
    ∙ so_far

pub state-one : {A : Type 0} (s t all : State A) (lines rest : List (List ℕ)) (line : List ℕ)
    → lines ≡ line ∷ rest → t ≡ state_at s line → state_from s lines ≡ all → state_from t rest ≡ all
state-one {A} s t all lines rest line parts moved so_far =
    ap (λ (u : State A). state_from u rest) moved ∙ sym (state-next s line rest) ∙ ap (state_from s) (sym parts) ∙ so_far

-- each line that has a word has something to compare
each-by : {A : Type 0} (s : State A) (is_blank : Bool) (parsed : Result (Event A) LineFault) (rest : List (List ℕ)) (n : ℕ)
    → ((t : State A) → length (seen_from t rest) ≡ length (numbers_from has_word (n + 1) rest))
    → length (cons_option (option_map (seen_by s) (if is_blank then None else Some parsed)) (seen_from (state_by s (if is_blank then None else Some parsed)) rest))
    ≡ length (if not is_blank then n ∷ numbers_from has_word (n + 1) rest else numbers_from has_word (n + 1) rest)
each-by s true parsed rest n others = others s
each-by s false (Ok event) rest n others = ap suc (others (after s event))
each-by s false (Err fault) rest n others = ap suc (others s)

pub each-seen : {A : Type 0} (s : State A) (lines : List (List ℕ)) (n : ℕ) → length (seen_from s lines) ≡ length (numbers_from has_word n lines)
each-seen s [] n = refl
each-seen s (line ∷ rest) n =
    ap length (seen-next s line rest)
    ∙ each-by s (length (words_of line) == 0) (event_of s.model line) rest n (λ t. each-seen t rest (n + 1))
