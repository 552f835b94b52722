-- The place of a diagnosis is wrong for the reason that its fault gives.
use Rattle.std.proofs.Common.{◌≡◌, ◌≤◌, ◌<◌, ℕ, zero, suc, ◌+◌, ◌==◌, nat_lt, nat_le, Bool, true, false, cond, List, [], ◌∷◌, length, take, drop, Option, Some, None, option_and_then, slice_get, IfSome, IfOk, Result, Ok, Err, refl, sym, subst, ap, ◌∙◌, arith}
use Rattle.std.specs.List.{list_any, before_first, after_first, position_or_len}
use Rattle.std.specs.Option.{option_or}
use Rattle.std.specs.Result.{result_err}
use Rattle.std.specs.Str.{bytes_eq}
use Rattle.std.proofs.lemmas.Bool.{true≢false, ltb-true}
use Rattle.std.proofs.lemmas.List.{length-take, length-drop}
use Rattle.acta_table.specs.declared.event.EventKind.{EventKind}
use Rattle.acta_table.specs.declared.event.EventKind.TheVariants as event_kind
use Rattle.acta_table.specs.declared.model.Parts.{Parts}
use Rattle.acta_script.specs.declared.command_words.BreakKind.{BreakKind}
use Rattle.acta_script.specs.declared.command_words.BreakKind.TheVariants as break_kind
use Rattle.acta_script.specs.declared.command_words.CommandKind.{CommandKind}
use Rattle.acta_script.specs.declared.command_words.CommandKind.TheVariants as command_kind
use Rattle.acta_script.specs.declared.diagnosis.Diagnostic.{Diagnostic}
use Rattle.acta_script.specs.declared.diagnosis.Expected.{Expected}
use Rattle.acta_script.specs.declared.diagnosis.Expected.TheVariants.{Part, CommandForm, BreakForm}
use Rattle.acta_script.specs.declared.diagnosis.LinePart.{LinePart}
use Rattle.acta_script.specs.declared.diagnosis.LinePart.TheVariants as part
use Rattle.acta_script.specs.declared.diagnosis.WordPlace.TheVariants.{Wrong, Missing}
use Rattle.acta_script.specs.declared.fault.LineFault.{LineFault}
use Rattle.acta_script.specs.declared.fault.LineFault.TheVariants.{Empty, Word, Arity, Number, Name}
use Rattle.acta_script.specs.Diagnosis.{fault_of_word, is_fault, wrong_word, wrong_count, wrong_in, IsWrong, op_kind_in, parts_of, form_of, wrong_after, wrong_event, wrong_return, lower_of, wrong_kept, wrong_after_seat, wrong_seated, break_parts, wrong_break_of, wrong_break, command_parts, is_break, wrong_command_of, wrong_command}
use Rattle.acta_script.specs.Commands.{parse_break_kind, parse_command_kind}
use Rattle.acta_script.specs.Reading.{fault_number, parse_event_kind, is_equals}
use Rattle.acta_script.specs.Words.{break_word, command_word, event_word}
use Rattle.acta_script.proofs.Signs.{any-first}

same_fault : (f g : LineFault) → (fault_number f == fault_number g) ≡ true → f ≡ g
same_fault Empty Empty same = refl
same_fault Empty Word same = absurd (true≢false (sym same))
same_fault Empty Arity same = absurd (true≢false (sym same))
same_fault Empty Number same = absurd (true≢false (sym same))
same_fault Empty Name same = absurd (true≢false (sym same))
same_fault Word Empty same = absurd (true≢false (sym same))
same_fault Word Word same = refl
same_fault Word Arity same = absurd (true≢false (sym same))
same_fault Word Number same = absurd (true≢false (sym same))
same_fault Word Name same = absurd (true≢false (sym same))
same_fault Arity Empty same = absurd (true≢false (sym same))
same_fault Arity Word same = absurd (true≢false (sym same))
same_fault Arity Arity same = refl
same_fault Arity Number same = absurd (true≢false (sym same))
same_fault Arity Name same = absurd (true≢false (sym same))
same_fault Number Empty same = absurd (true≢false (sym same))
same_fault Number Word same = absurd (true≢false (sym same))
same_fault Number Arity same = absurd (true≢false (sym same))
same_fault Number Number same = refl
same_fault Number Name same = absurd (true≢false (sym same))
same_fault Name Empty same = absurd (true≢false (sym same))
same_fault Name Word same = absurd (true≢false (sym same))
same_fault Name Arity same = absurd (true≢false (sym same))
same_fault Name Number same = absurd (true≢false (sym same))
same_fault Name Name same = refl

found_fault : (fault : LineFault) (o : Option LineFault) → is_fault fault o ≡ true → o ≡ Some fault
found_fault fault None is = absurd (true≢false (sym is))
found_fault fault (Some f) is = ap Some (same_fault f fault is)

-- if trying several kinds in order gives a fault, so does trying those after the first
unless : {A : Type 0} (b : Bool) (x : A) (r : Result A LineFault) (fault : LineFault) → cond b (Ok x) r ≡ Err fault → r ≡ Err fault
unless true x r fault is = absurd (cc)
unless false x r fault is = is

past : {A : Type 0} (word : List ℕ) (word_of : A → List ℕ) (kind : A) (r : Result A LineFault) (fault : LineFault) → cond (bytes_eq word (word_of kind)) (Ok kind) r ≡ Err fault → r ≡ Err fault
past word word_of kind r fault = unless (bytes_eq word (word_of kind)) kind r fault

-- if none of the kinds is the word's, the word is unknown
unknown : {A : Type 0} (r : Result A LineFault) (fault : LineFault) → r ≡ Err Word → r ≡ Err fault → fault ≡ Word
unknown r fault none is = cc

no_event_kind : (word : List ℕ) (fault : LineFault) → parse_event_kind word ≡ Err fault → fault ≡ Word
no_event_kind word fault is = unknown _ fault refl (past word event_word event_kind.Permit _ fault (past word event_word event_kind.Abort _ fault (past word event_word event_kind.Commit _ fault (past word event_word event_kind.Operate _ fault (past word event_word event_kind.Form _ fault (past word event_word event_kind.Delegate _ fault (past word event_word event_kind.Join _ fault (past word event_word event_kind.Split _ fault (past word event_word event_kind.Spawn _ fault (past word event_word event_kind.Begin _ fault is))))))))))

no_command_kind : (word : List ℕ) (fault : LineFault) → parse_command_kind word ≡ Err fault → fault ≡ Word
no_command_kind word fault is = unknown _ fault refl (past word command_word command_kind.Owed _ fault (past word command_word command_kind.Status _ fault (past word command_word command_kind.Value _ fault (past word command_word command_kind.Clear _ fault (past word command_word command_kind.Break _ fault (past word command_word command_kind.Run _ fault (past word command_word command_kind.Goto _ fault (past word command_word command_kind.Back _ fault (past word command_word command_kind.Step _ fault is)))))))))

no_break_kind : (word : List ℕ) (fault : LineFault) → parse_break_kind word ≡ Err fault → fault ≡ Word
no_break_kind word fault is = unknown _ fault refl (past word break_word break_kind.Ended _ fault (past word break_word break_kind.Owed _ fault (past word break_word break_kind.Object _ fault (past word break_word break_kind.Txn _ fault (past word break_word break_kind.Kind _ fault is)))))

-- the words are those of the line, of which the first has number n
pub record AreAt (n : ℕ) (words all : List (List ℕ)) : Type 0 where
  pub each : (k : ℕ) (word : List ℕ) → slice_get words k ≡ Some word → slice_get all (n + k) ≡ Some word
  pub within : n + length words ≤ length all

moved : (n k : ℕ) → n + 1 + k ≡ n + suc k
moved n k = omega arith

nothing : (n : ℕ) → n + 0 ≡ n
nothing n = omega arith

next_at : (n : ℕ) (word : List ℕ) (words all : List (List ℕ)) → AreAt n (word ∷ words) all → AreAt (n + 1) words all
next_at n word words all at = record {
  each = λ k found is. ap (slice_get all) (moved n k) ∙ at.each (suc k) found is;
  within = omega (arith, at.within);
}

module _ {A : Type 0} (m : Parts A) (all : List (List ℕ)) where
  -- the diagnosis is of a word of the line, for its part
  abbrev IsOfWord : LineFault → Diagnostic → Type 0
  IsOfWord fault d = (n : ℕ) × (part : LinePart) × (d ≡ record { fault = fault; place = Wrong n; expected = Part part }) × (option_and_then (λ word. fault_of_word m part word) (slice_get all n) ≡ Some fault)

  word_or_next : (fault : LineFault) (n : ℕ) (part : LinePart) (parts : List LinePart) (word : List ℕ) (words : List (List ℕ)) → AreAt n (word ∷ words) all → IfSome (wrong_word m fault (n + 1) parts words) (IsOfWord fault) → (b : Bool) → is_fault fault (fault_of_word m part word) ≡ b → IfSome (cond b (Some (record { fault = fault; place = Wrong n; expected = Part part })) (wrong_word m fault (n + 1) parts words)) (IsOfWord fault)
  word_or_next fault n part parts word words at next true is =
      let here : slice_get all n ≡ Some word = ap (slice_get all) (sym (nothing n)) ∙ at.each zero word refl in
      (n, part, refl, ap (option_and_then (λ word. fault_of_word m part word)) here ∙ found_fault fault (fault_of_word m part word) is)
  word_or_next fault n part parts word words at next false is = next

  word_wrong : (fault : LineFault) (n : ℕ) (parts : List LinePart) (words : List (List ℕ)) → AreAt n words all → IfSome (wrong_word m fault n parts words) (IsOfWord fault)
  word_wrong fault n [] words at = tt
  word_wrong fault n (part ∷ parts) [] at = tt
  word_wrong fault n (part ∷ parts) (word ∷ words) at = word_or_next fault n part parts word words at (word_wrong fault (n + 1) parts words (next_at n word words all at)) (is_fault fault (fault_of_word m part word)) refl

  -- what is wrong is wrong there
  wrong_as : (r : Option Diagnostic) (fault : LineFault) → IfSome r (IsOfWord fault) → ((n : ℕ) (part : LinePart) → option_and_then (λ word. fault_of_word m part word) (slice_get all n) ≡ Some fault → IsWrong m all (record { fault = fault; place = Wrong n; expected = Part part })) → IfSome r (IsWrong m all)
  wrong_as None fault of h = tt
  wrong_as (Some d) fault of h = subst (λ (e : Diagnostic). IsWrong m all e) (sym of.2) (h of.0 of.1 of.3)

  few_or_many : (e : Expected) (n a b : ℕ) → n + b ≤ length all → (few many : Bool) → nat_lt a b ≡ many → IfSome (cond few (Some (record { fault = Arity; place = Missing (n + b); expected = e })) (cond many (Some (record { fault = Arity; place = Wrong (n + a); expected = e })) None)) (IsWrong m all)
  few_or_many e n a b within true many is = within
  few_or_many e n a b within false true is = omega (arith, ltb-true a b is)
  few_or_many e n a b within false false is = tt

  one_of : (b : Bool) (d e : Diagnostic) → IsWrong m all d → IsWrong m all e → IfSome (cond b (Some d) (Some e)) (IsWrong m all)
  one_of true d e first second = first
  one_of false d e first second = second

  count_wrong : (e : Expected) (n a b : ℕ) → n + b ≤ length all → IfSome (wrong_count e n a b) (IsWrong m all)
  count_wrong e n a b within = few_or_many e n a b within (nat_lt b a) (nat_lt a b) refl

  either : (p q : Option Diagnostic) → IfSome p (IsWrong m all) → IfSome q (IsWrong m all) → IfSome (option_or p q) (IsWrong m all)
  either None q first second = second
  either (Some d) q first second = first

  wrong_there : (parts : List LinePart) (e : Expected) (n : ℕ) (words : List (List ℕ)) → AreAt n words all → IfSome (wrong_in m parts e n words) (IsWrong m all)
  wrong_there parts e n words at =
      either _ _ (wrong_as (wrong_word m Word n parts words) Word (word_wrong Word n parts words at) (λ n part is. is))
      (either _ _ (count_wrong e n (length parts) (length words) at.within)
      (either _ _ (wrong_as (wrong_word m Number n parts words) Number (word_wrong Number n parts words at) (λ n part is. is))
      (wrong_as (wrong_word m Name n parts words) Name (word_wrong Name n parts words at) (λ n part is. is))))

  -- the word with this number cannot be read as any part that is allowed there
  first_wrong : (part : LinePart) (n : ℕ) (word : List ℕ) (words : List (List ℕ)) → AreAt n (word ∷ words) all → (fault : LineFault) → fault ≡ Word → fault_of_word m part word ≡ Some fault → IsWrong m all (record { fault = fault; place = Wrong n; expected = Part part })
  first_wrong part n word words at fault none is =
      let here : slice_get all n ≡ Some word = ap (slice_get all) (sym (nothing n)) ∙ at.each 0 word refl in
      subst (λ (f : LineFault). IsWrong m all (record { fault = f; place = Wrong n; expected = Part part })) (sym none)
      (ap (option_and_then (λ word. fault_of_word m part word)) here ∙ is ∙ ap Some none)

  behind_wrong : (n : ℕ) (word : List ℕ) (words : List (List ℕ)) → AreAt n (word ∷ words) all → (r : Result EventKind LineFault) → parse_event_kind word ≡ r → IfSome (wrong_after m n r words) (IsWrong m all)
  behind_wrong n word words at (Ok kind) is = wrong_there (parts_of kind (op_kind_in words)) (form_of kind (op_kind_in words)) (n + 1) words (next_at n word words all at)
  behind_wrong n word words at (Err fault) is = first_wrong part.Event n word words at fault (no_event_kind word fault is) (ap result_err is)

  pub event_wrong : (words : List (List ℕ)) → AreAt 0 words all → IfSome (wrong_event m 0 words) (IsWrong m all)
  event_wrong [] at = refl
  event_wrong (word ∷ words) at = behind_wrong 0 word words at (parse_event_kind word) refl

  lower_wrong : (p q : Option Diagnostic) → IfSome p (IsWrong m all) → IfSome q (IsWrong m all) → IfSome (lower_of p q) (IsWrong m all)
  lower_wrong None q first second = second
  lower_wrong (Some d) None first second = first
  lower_wrong (Some d) (Some e) first second = one_of (nat_le (fault_number d.fault) (fault_number e.fault)) d e first second

start : (k : ℕ) → 0 + k ≡ k
start k = omega arith

pub all_at : (all : List (List ℕ)) → AreAt 0 all all
all_at all = record { each = λ k word is. ap (slice_get all) (start k) ∙ is; within = omega arith }

taken : (n : ℕ) (xs : List (List ℕ)) (k : ℕ) (x : List ℕ) → slice_get (take n xs) k ≡ Some x → slice_get xs k ≡ Some x
taken zero xs k x is = absurd (cc)
taken (suc n) [] k x is = is
taken (suc n) (y ∷ xs) zero x is = is
taken (suc n) (y ∷ xs) (suc k) x is = taken n xs k x is

front_at : (n : ℕ) (all : List (List ℕ)) → AreAt 0 (take n all) all
front_at n all = record { each = λ k word is. ap (slice_get all) (start k) ∙ taken n all k word is; within = omega (arith, length-take n all) }

later : (n k : ℕ) → suc n + k ≡ suc (n + k)
later n k = omega arith

dropped : (n : ℕ) (xs : List (List ℕ)) (k : ℕ) (x : List ℕ) → slice_get (drop n xs) k ≡ Some x → slice_get xs (n + k) ≡ Some x
dropped zero xs k x is = ap (slice_get xs) (start k) ∙ is
dropped (suc n) [] k x is = absurd (cc)
dropped (suc n) (y ∷ xs) k x is = ap (slice_get (y ∷ xs)) (later n k) ∙ dropped n xs k x is

rest_at : (n : ℕ) (all : List (List ℕ)) → n ≤ length all → AreAt n (drop n all) all
rest_at n all within = record { each = λ k word is. dropped n all k word is; within = omega (arith, length-drop n all) }

module _ {A : Type 0} (m : Parts A) (all : List (List ℕ)) where
  with_sign : (b : Bool) → list_any is_equals all ≡ b → IfSome (cond b (lower_of (wrong_event m 0 (before_first is_equals all)) (wrong_return m (position_or_len is_equals all + 1) (after_first is_equals all))) (wrong_event m 0 all)) (IsWrong m all)
  with_sign true is =
      let at = position_or_len is_equals all in
      let inside : at < length all = ltb-true at (length all) (sym (any-first is_equals all) ∙ is) in
      lower_wrong m all _ _ (event_wrong m all (take at all) (front_at at all))
      (wrong_there m all (part.Return ∷ []) (Part part.Return) (at + 1) (drop (at + 1) all) (rest_at (at + 1) all (omega arith)))
  with_sign false is = event_wrong m all all (all_at all)

  pub kept_wrong : IfSome (wrong_kept m all) (IsWrong m all)
  kept_wrong = with_sign (list_any is_equals all) refl

-- of a seated event
after_seat_wrong : {A : Type 0} (m : Parts A) (seat : List ℕ) (words : List (List ℕ)) → IfSome (wrong_after_seat m words) (IsWrong m (seat ∷ words))
after_seat_wrong m seat [] = omega arith
after_seat_wrong m seat (word ∷ words) =
    let all : List (List ℕ) = seat ∷ (word ∷ words) in
    behind_wrong m all 1 word words (next_at 0 seat (word ∷ words) all (all_at all)) (parse_event_kind word) refl

pub seated_wrong : {A : Type 0} (m : Parts A) (seats : ℕ) (all : List (List ℕ)) → IfSome (wrong_seated m seats all) (IsWrong m all)
seated_wrong m seats [] = refl
seated_wrong m seats (seat ∷ words) =
    let all : List (List ℕ) = seat ∷ words in
    lower_wrong m all _ _ (wrong_there m all (part.Seat seats ∷ []) (Part (part.Seat seats)) 0 (seat ∷ []) (front_at 1 all)) (after_seat_wrong m seat words)

-- of a command
break_wrong : {A : Type 0} (m : Parts A) (all : List (List ℕ)) (word : List ℕ) (words : List (List ℕ)) → AreAt 1 (word ∷ words) all → (r : Result BreakKind LineFault) → parse_break_kind word ≡ r → IfSome (wrong_break_of m r words) (IsWrong m all)
break_wrong m all word words at (Ok kind) is = wrong_there m all (break_parts kind) (BreakForm kind) 2 words (next_at 1 word words all at)
break_wrong m all word words at (Err fault) is = first_wrong m all part.Break 1 word words at fault (no_break_kind word fault is) (ap result_err is)

break_words_wrong : {A : Type 0} (m : Parts A) (all words : List (List ℕ)) → AreAt 1 words all → IfSome (wrong_break m words) (IsWrong m all)
break_words_wrong m all [] at = omega (arith, at.within)
break_words_wrong m all (word ∷ words) at = break_wrong m all word words at (parse_break_kind word) refl

argument_wrong : {A : Type 0} (m : Parts A) (all words : List (List ℕ)) → AreAt 1 words all → (kind : CommandKind) (b : Bool) → IfSome (cond b (wrong_break m words) (wrong_in m (command_parts kind) (CommandForm kind) 1 words)) (IsWrong m all)
argument_wrong m all words at kind true = break_words_wrong m all words at
argument_wrong m all words at kind false = wrong_there m all (command_parts kind) (CommandForm kind) 1 words at

kind_wrong : {A : Type 0} (m : Parts A) (word : List ℕ) (words : List (List ℕ)) (r : Result CommandKind LineFault) → parse_command_kind word ≡ r → IfSome (wrong_command_of m r words) (IsWrong m (word ∷ words))
kind_wrong m word words (Ok kind) is =
    let all : List (List ℕ) = word ∷ words in
    argument_wrong m all words (next_at 0 word words all (all_at all)) kind (is_break kind)
kind_wrong m word words (Err fault) is =
    let all : List (List ℕ) = word ∷ words in
    first_wrong m all part.Command 0 word words (all_at all) fault (no_command_kind word fault is) (ap result_err is)

pub command_wrong : {A : Type 0} (m : Parts A) (all : List (List ℕ)) → IfSome (wrong_command m all) (IsWrong m all)
command_wrong m [] = refl
command_wrong m (word ∷ words) = kind_wrong m word words (parse_command_kind word) refl

-- a diagnosis, if memory does not run out
pub wrong_if : {E : Type 0} {A : Type 0} (m : Parts A) (all : List (List ℕ)) (r : Result (Option Diagnostic) E) (d : Option Diagnostic) → IfOk r (λ found. found ≡ d) → IfSome d (IsWrong m all) → IfOk r (λ found. IfSome found (IsWrong m all))
wrong_if m all (Ok found) d same is = subst (λ (o : Option Diagnostic). IfSome o (IsWrong m all)) (sym same) is
wrong_if m all (Err e) d same is = tt
