-- The fault of a diagnosis is the one that reading returns.
use Rattle.std.proofs.Common.{◌≡◌, ◌<◌, ℕ, suc, ◌+◌, ◌==◌, nat_lt, nat_le, Bool, true, false, ◌||◌, ◌&&◌, cond, List, [], ◌∷◌, length, Option, Some, None, option_map, ok_or, Result, Ok, Err, IfOk, ℤ, refl, sym, ap, ◌∙◌, arith}
use Rattle.std.specs.Prelude.{⊤}
use Rattle.std.specs.List.{list_any, list_all, before_first, after_first, position_or_len}
use Rattle.std.specs.Option.{option_or}
use Rattle.std.specs.Result.{result_ok, result_err}
use Rattle.std.specs.Str.{bytes_eq}
use Rattle.std.proofs.lemmas.Bool.{and_parts}
use Rattle.std.proofs.lemmas.Bool.Decides.{nat_tests}
use Rattle.acta_table.specs.declared.event.Event.{Event}
use Rattle.acta_table.specs.declared.event.Event.TheVariants.{Operate}
use Rattle.acta_table.specs.declared.event.EventKind.{EventKind}
use Rattle.acta_table.specs.declared.event.EventKind.TheVariants as event_kind
use Rattle.acta_table.specs.declared.event.ObjId.{ObjId}
use Rattle.acta_table.specs.declared.event.Op.{Op}
use Rattle.acta_table.specs.declared.event.Op.TheVariants.{Read, Write, Get, Add, Insert, Remove, Has, Size}
use Rattle.acta_table.specs.declared.event.Ret.{Ret}
use Rattle.acta_table.specs.declared.event.TxnId.{TxnId}
use Rattle.acta_table.specs.declared.dep.Dep.{Dep}
use Rattle.acta_table.specs.declared.model.Parts.{Parts}
use Rattle.acta_table.specs.Sets.{each_once}
use Rattle.acta_script.specs.declared.command_words.BreakKind.{BreakKind}
use Rattle.acta_script.specs.declared.command_words.BreakKind.TheVariants as break_kind
use Rattle.acta_script.specs.declared.command_words.CommandKind.{CommandKind}
use Rattle.acta_script.specs.declared.command_words.CommandKind.TheVariants as command_kind
use Rattle.acta_script.specs.declared.commands.BreakOn.TheVariants as break_on
use Rattle.acta_script.specs.declared.commands.DebugCommand.TheVariants as command
use Rattle.acta_script.specs.declared.diagnosis.Diagnostic.{Diagnostic}
use Rattle.acta_script.specs.declared.diagnosis.Expected.{Expected}
use Rattle.acta_script.specs.declared.diagnosis.Expected.TheVariants.{Part}
use Rattle.acta_script.specs.declared.diagnosis.LinePart.{LinePart}
use Rattle.acta_script.specs.declared.diagnosis.LinePart.TheVariants as part
use Rattle.acta_script.specs.declared.diagnosis.WordPlace.TheVariants.{Wrong, Missing}
use Rattle.acta_script.specs.declared.fault.LineFault.{LineFault}
use Rattle.acta_script.specs.declared.fault.LineFault.TheVariants.{Empty, Word, Arity, Number, Name}
use Rattle.acta_script.specs.declared.op_kind.OpKind.{OpKind}
use Rattle.acta_script.specs.declared.op_kind.OpKind.TheVariants as op_kind
use Rattle.acta_script.specs.Diagnosis.{fault_of_word, is_fault, wrong_word, wrong_count, wrong_in, op_kind_in, operation_parts, wrong_after, wrong_event, wrong_return, lower_of, wrong_kept, wrong_seat, wrong_after_seat, wrong_seated, wrong_break_of, wrong_break, wrong_command_of, wrong_command}
use Rattle.acta_script.specs.Commands.{parse_count, one_word, parse_kind_break, parse_break_kind, break_of_kind, parse_break, parse_command_kind, command_of_kind, parse_command}
use Rattle.acta_words.specs.Numerals.{read_natural}
use Rattle.acta_script.specs.Reading.{◌>>=◌, fault_number, parse_txn, parse_integer, parse_class, parse_object, parse_kind, parse_numbers, parse_operations, parse_op_kind, alone, with_integer, operation_of_kind, parse_begin, parse_spawn, parse_split, parse_join, parse_delegate, form_of_kind, parse_form, parse_do, parse_commit, parse_abort, parse_permit, parse_event_kind, event_of_kind, parse_event, both, return_named, parse_return, is_equals, with_return, plain, parse_kept, lower, parse_seat, event_after, at_seat, parse_seated}
use Rattle.acta_script.specs.Words.{event_word, op_word}

-- the fault of a diagnosis
abbrev pub diagnosed_fault : Option Diagnostic → Option LineFault
diagnosed_fault found = option_map (λ d. d.fault) found

abbrev when : Bool → LineFault → Option LineFault
when b f = cond b (Some f) None

-- the faults of the words for these parts
abbrev faults : {A : Type 0} → Parts A → List LinePart → List (List ℕ) → List (Option LineFault)
faults m (part ∷ parts) (word ∷ words) = fault_of_word m part word ∷ faults m parts words
faults m _ _ = []

-- whether one of the faults is this
abbrev has : LineFault → List (Option LineFault) → Bool
has f [] = false
has f (o ∷ os) = is_fault f o || has f os

abbrev differ : ℕ → ℕ → Bool
differ a b = nat_lt b a || nat_lt a b

-- the lowest of numbers and names
unfoldable number_or_name : List (Option LineFault) → Option LineFault
number_or_name os = option_or (when (has Number os) Number) (when (has Name os) Name)

-- the lowest fault
abbrev lowest_of : List (Option LineFault) → ℕ → ℕ → Option LineFault
lowest_of os a b = option_or (when (has Word os) Word) (option_or (when (differ a b) Arity) (number_or_name os))

diagnosed_step : (b : Bool) (d : Diagnostic) (rest : Option Diagnostic) (more : Bool) → diagnosed_fault rest ≡ when more d.fault → diagnosed_fault (cond b (Some d) rest) ≡ when (b || more) d.fault
diagnosed_step true d rest more h = refl
diagnosed_step false d rest more h = h

diagnosed_count : (s t : Bool) (d e : Diagnostic) → d.fault ≡ Arity → e.fault ≡ Arity → diagnosed_fault (cond s (Some d) (cond t (Some e) None)) ≡ when (s || t) Arity
diagnosed_count true t d e first second = ap Some first
diagnosed_count false true d e first second = ap Some second
diagnosed_count false false d e first second = refl

abbrev few : Expected → ℕ → ℕ → Diagnostic
few e n count = record { fault = Arity; place = Missing (n + count); expected = e }

abbrev more : Expected → ℕ → ℕ → Diagnostic
more e n wanted = record { fault = Arity; place = Wrong (n + wanted); expected = e }

diagnosed_or : (p q : Option Diagnostic) → diagnosed_fault (option_or p q) ≡ option_or (diagnosed_fault p) (diagnosed_fault q)
diagnosed_or None q = refl
diagnosed_or (Some d) q = refl

module _ {A : Type 0} (m : Parts A) where
  diagnosed_word : (f : LineFault) (n : ℕ) (parts : List LinePart) (words : List (List ℕ)) → diagnosed_fault (wrong_word m f n parts words) ≡ when (has f (faults m parts words)) f
  diagnosed_word f n [] words = refl
  diagnosed_word f n (part ∷ parts) [] = refl
  diagnosed_word f n (part ∷ parts) (word ∷ words) =
      diagnosed_step (is_fault f (fault_of_word m part word)) _ (wrong_word m f (n + 1) parts words) (has f (faults m parts words)) (diagnosed_word f (n + 1) parts words)

  diagnosed_in : (parts : List LinePart) (e : Expected) (n : ℕ) (words : List (List ℕ)) → diagnosed_fault (wrong_in m parts e n words) ≡ lowest_of (faults m parts words) (length parts) (length words)
  unfolding number_or_name
  diagnosed_in parts e n words =
      diagnosed_or (wrong_word m Word n parts words) (option_or (wrong_count e n (length parts) (length words)) (option_or (wrong_word m Number n parts words) (wrong_word m Name n parts words)))
      ∙ (λ i. option_or (diagnosed_word Word n parts words i)
      ((diagnosed_or (wrong_count e n (length parts) (length words)) (option_or (wrong_word m Number n parts words) (wrong_word m Name n parts words))
      ∙ (λ j. option_or (diagnosed_count (nat_lt (length words) (length parts)) (nat_lt (length parts) (length words)) (few e n (length words)) (more e n (length parts)) refl refl j)
      ((diagnosed_or (wrong_word m Number n parts words) (wrong_word m Name n parts words)
      ∙ (λ k. option_or (diagnosed_word Number n parts words k) (diagnosed_word Name n parts words k))) j))) i))

-- the fault of a reading can only be this
abbrev Only : {X : Type 0} → LineFault → Result X LineFault → Type 0
Only f (Ok x) = ⊤
Only f (Err g) = g ≡ f

only_or : {X : Type 0} (o : Option X) (f : LineFault) → Only f (ok_or o f)
only_or None f = refl
only_or (Some x) f = tt

only_then : {X Y : Type 0} (f : LineFault) (r : Result X LineFault) (k : X → Y) → Only f r → Only f (r >>= (λ x. Ok (k x)))
only_then f (Ok x) k only = tt
only_then f (Err g) k only = only

only_else : {X : Type 0} (f : LineFault) (b : Bool) (x : X) (r : Result X LineFault) → Only f r → Only f (cond b (Ok x) r)
only_else f true x r only = tt
only_else f false x r only = only

only_txn : (word : List ℕ) → Only Number (parse_txn word)
only_txn word = only_or _ Number

only_integer : (word : List ℕ) → Only Number (parse_integer word)
only_integer word = only_or _ Number

only_count : (word : List ℕ) → Only Number (parse_count word)
only_count word = only_or _ Number

only_both : {X : Type 0} (f : LineFault) (b : Bool) (x : X) → Only f (cond b (Ok x) (Err f))
only_both f true x = tt
only_both f false x = refl

only_next : {X Y : Type 0} (f : LineFault) (r : Result X LineFault) (k : X → Result Y LineFault) → Only f r → ((x : X) → Only f (k x)) → Only f (r >>= k)
only_next f (Ok x) k only then = then x
only_next f (Err g) k only then = only

only_seat : (seats : ℕ) (word : List ℕ) → Only Number (parse_seat seats word)
only_seat seats word = only_next Number (ok_or (read_natural seats word) Number) _ (only_or _ Number) (λ seat. only_both Number (nat_le 1 seat) seat)

only_operations : (word : List ℕ) → Only Number (parse_operations word)
only_operations word = only_else Number _ [] _ (only_then Number (parse_numbers word) (λ ops. each_once ops) (only_or _ Number))

only_kind : (word : List ℕ) → Only Word (parse_kind word)
only_kind word = only_or _ Word

known_or : (a b c d e f g h : Bool) → Only {X = OpKind} Word (cond a (Ok op_kind.Read) (cond b (Ok op_kind.Get) (cond c (Ok op_kind.Size) (cond d (Ok op_kind.Write) (cond e (Ok op_kind.Add) (cond f (Ok op_kind.Insert) (cond g (Ok op_kind.Remove) (cond h (Ok op_kind.Has) (Err Word)))))))))
known_or true b c d e f g h = tt
known_or false true c d e f g h = tt
known_or false false true d e f g h = tt
known_or false false false true e f g h = tt
known_or false false false false true f g h = tt
known_or false false false false false true g h = tt
known_or false false false false false false true h = tt
known_or false false false false false false false true = tt
known_or false false false false false false false false = refl

only_op_kind : (word : List ℕ) → Only Word (parse_op_kind word)
only_op_kind word =
    known_or (bytes_eq word (op_word op_kind.Read)) (bytes_eq word (op_word op_kind.Get)) (bytes_eq word (op_word op_kind.Size)) (bytes_eq word (op_word op_kind.Write)) (bytes_eq word (op_word op_kind.Add)) (bytes_eq word (op_word op_kind.Insert)) (bytes_eq word (op_word op_kind.Remove)) (bytes_eq word (op_word op_kind.Has))

-- a fault of another kind
other : {X : Type 0} (f g : LineFault) (r : Result X LineFault) → Only g r → (fault_number g == fault_number f) ≡ false → is_fault f (result_err r) ≡ false
other f g (Ok x) only differs = refl
other f g (Err h) only differs = ap (λ k. fault_number k == fault_number f) only ∙ differs

-- a word for a number or a name is never unknown
abbrev is_plain : LinePart → Bool
is_plain part.Transaction = true
is_plain part.Integer = true
is_plain part.Operations = true
is_plain part.Class = true
is_plain part.Object = true
is_plain part.Return = true
is_plain (part.Seat seats) = true
is_plain part.Count = true
is_plain _ = false

module _ {A : Type 0} (m : Parts A) where
  only_class : (word : List ℕ) → Only Name (parse_class m word)
  only_class word = only_or _ Name

  only_object : (word : List ℕ) → Only Name (parse_object m word)
  only_object word = only_or _ Name

  no_unknown : (part : LinePart) (word : List ℕ) → is_plain part ≡ true → is_fault Word (fault_of_word m part word) ≡ false
  no_unknown part.Transaction word is = other Word Number (parse_txn word) (only_txn word) refl
  no_unknown part.Integer word is = other Word Number (parse_integer word) (only_integer word) refl
  no_unknown part.Operations word is = other Word Number (parse_operations word) (only_operations word) refl
  no_unknown part.Class word is = other Word Name (parse_class m word) (only_class word) refl
  no_unknown part.Object word is = other Word Name (parse_object m word) (only_object word) refl
  no_unknown part.Return word is = other Word Number (ok_or (return_named word) Number) (only_or _ Number) refl
  no_unknown (part.Seat seats) word is = other Word Number (parse_seat seats word) (only_seat seats word) refl
  no_unknown part.Count word is = other Word Number (parse_count word) (only_count word) refl
  no_unknown part.Command word is = absurd (cc)
  no_unknown part.Break word is = absurd (cc)
  no_unknown part.Event word is = absurd (cc)
  no_unknown part.Kind word is = absurd (cc)
  no_unknown part.Operation word is = absurd (cc)

  all_known : (parts : List LinePart) (words : List (List ℕ)) → list_all is_plain parts ≡ true → has Word (faults m parts words) ≡ false
  all_known [] words all = refl
  all_known (part ∷ parts) [] all = refl
  all_known (part ∷ parts) (word ∷ words) all =
      let both = and_parts (is_plain part) (list_all is_plain parts) all in
      (λ i. no_unknown part word both.0 i || has Word (faults m parts words)) ∙ all_known parts words both.1

  -- a wrong number of known words
  short : (parts : List LinePart) (e : Expected) (n : ℕ) (words : List (List ℕ)) → has Word (faults m parts words) ≡ false → differ (length parts) (length words) ≡ true → diagnosed_fault (wrong_in m parts e n words) ≡ Some Arity
  short parts e n words known differs =
      diagnosed_in m parts e n words
      ∙ (λ i. option_or (when (known i) Word) (option_or (when (differs i) Arity) (number_or_name (faults m parts words))))

  -- the right number of known words
  exact : (parts : List LinePart) (e : Expected) (n : ℕ) (words : List (List ℕ)) → has Word (faults m parts words) ≡ false → differ (length parts) (length words) ≡ false → diagnosed_fault (wrong_in m parts e n words) ≡ number_or_name (faults m parts words)
  exact parts e n words known same =
      diagnosed_in m parts e n words
      ∙ (λ i. option_or (when (known i) Word) (option_or (when (same i) Arity) (number_or_name (faults m parts words))))

module _ {A : Type 0} (m : Parts A) where
  short_plain : (parts : List LinePart) (e : Expected) (n : ℕ) (words : List (List ℕ)) → list_all is_plain parts ≡ true → differ (length parts) (length words) ≡ true → diagnosed_fault (wrong_in m parts e n words) ≡ Some Arity
  short_plain parts e n words all differs = short m parts e n words (all_known m parts words all) differs

  exact_plain : (parts : List LinePart) (e : Expected) (n : ℕ) (words : List (List ℕ)) → list_all is_plain parts ≡ true → differ (length parts) (length words) ≡ false → diagnosed_fault (wrong_in m parts e n words) ≡ number_or_name (faults m parts words)
  exact_plain parts e n words all same = exact m parts e n words (all_known m parts words all) same

many : (a k : ℕ) → a < k → differ a k ≡ true
many a k more = grind (arith, nat_tests)

-- the number is read first
number_first : {X Y : Type 0} (r : Result X LineFault) (k : X → Result Y LineFault) (os : List (Option LineFault)) → Only Number r → ((x : X) → number_or_name os ≡ result_err (k x)) → number_or_name (result_err r ∷ os) ≡ result_err (r >>= k)
unfolding number_or_name
number_first (Ok x) k os only h = h x
number_first (Err f) k os only h = ap (λ g. number_or_name (Some g ∷ os)) only ∙ ap (λ g. Some g) (sym only)

-- the name is read last
name_last : {X Y : Type 0} (r : Result X LineFault) (k : X → Y) → Only Name r → number_or_name (result_err r ∷ []) ≡ result_err (r >>= (λ x. Ok (k x)))
unfolding number_or_name
name_last (Ok x) k only = refl
name_last (Err f) k only = ap (λ g. number_or_name (Some g ∷ [])) only ∙ ap (λ g. Some g) (sym only)

number_last : {X Y : Type 0} (r : Result X LineFault) (k : X → Y) → Only Number r → number_or_name (result_err r ∷ []) ≡ result_err (r >>= (λ x. Ok (k x)))
unfolding number_or_name
number_last r k only = number_first r (λ x. Ok (k x)) [] only (λ x. refl)

number_alone : {X : Type 0} (r : Result X LineFault) → Only Number r → number_or_name (result_err r ∷ []) ≡ result_err r
unfolding number_or_name
number_alone (Ok x) only = refl
number_alone (Err f) only = ap (λ g. number_or_name (Some g ∷ [])) only ∙ ap (λ g. Some g) (sym only)

-- of two diagnoses, the one with the lower fault
chosen : (b : Bool) (d e : Diagnostic) (f g : LineFault) → d.fault ≡ f → e.fault ≡ g → diagnosed_fault (cond b (Some d) (Some e)) ≡ Some (cond b f g)
chosen true d e f g first second = ap Some first
chosen false d e f g first second = ap Some second

diagnosed_lower : {X Y Z : Type 0} (make : X → Y → Z) (p q : Option Diagnostic) (r : Result X LineFault) (s : Result Y LineFault) → diagnosed_fault p ≡ result_err r → diagnosed_fault q ≡ result_err s → diagnosed_fault (lower_of p q) ≡ result_err (both make r s)
diagnosed_lower make None None (Ok x) (Ok y) first second = refl
diagnosed_lower make None (Some e) (Ok x) (Err g) first second = second
diagnosed_lower make (Some d) None (Err f) (Ok y) first second = first
diagnosed_lower make (Some d) (Some e) (Err f) (Err g) first second =
    let one : d.fault ≡ f = cc in
    let two : e.fault ≡ g = cc in
    chosen (nat_le (fault_number d.fault) (fault_number e.fault)) d e f g one two
    ∙ (λ i. Some (cond (nat_le (fault_number (one i)) (fault_number (two i))) f g))
diagnosed_lower make None q (Err f) s first second = absurd (cc)
diagnosed_lower make (Some d) q (Ok x) s first second = absurd (cc)
diagnosed_lower make p None r (Err g) first second = absurd (cc)
diagnosed_lower make p (Some e) r (Ok y) first second = absurd (cc)

kept_or_plain : {A : Type 0} (b : Bool) (p q whole : Option Diagnostic) (r : Result (Event A) LineFault) (s : Result Ret LineFault) (all : Result (Event A) LineFault) → diagnosed_fault p ≡ result_err r → diagnosed_fault q ≡ result_err s → diagnosed_fault whole ≡ result_err all → diagnosed_fault (cond b (lower_of p q) whole) ≡ result_err (cond b (both with_return r s) (all >>= plain))
kept_or_plain true p q whole r s all first second third = diagnosed_lower with_return p q r s first second
kept_or_plain false p q whole r s (Ok event) first second third = third
kept_or_plain false p q whole r s (Err f) first second third = third

swap : (a b : Bool) → (a || (b || false)) ≡ (b || (a || false))
swap true true = refl
swap true false = refl
swap false true = refl
swap false false = refl

-- the order of words does not matter
exchanged : (a b : Option LineFault) → number_or_name (a ∷ b ∷ []) ≡ number_or_name (b ∷ a ∷ [])
unfolding number_or_name
exchanged a b = λ i. option_or (when (swap (is_fault Number a) (is_fault Number b) i) Number) (when (swap (is_fault Name a) (is_fault Name b) i) Name)

known_first : (os : List (Option LineFault)) → number_or_name (None ∷ os) ≡ number_or_name os
unfolding number_or_name
known_first os = refl

last_first : (a b c : Bool) → (a || (b || (false || (c || false)))) ≡ (c || (a || (b || false)))
last_first true b true = refl
last_first true b false = refl
last_first false true true = refl
last_first false true false = refl
last_first false false true = refl
last_first false false false = refl

moved : (a b c : Option LineFault) → number_or_name (a ∷ b ∷ None ∷ c ∷ []) ≡ number_or_name (c ∷ a ∷ b ∷ [])
unfolding number_or_name
moved a b c = λ i. option_or (when (last_first (is_fault Number a) (is_fault Number b) (is_fault Number c) i) Number) (when (last_first (is_fault Name a) (is_fault Name b) (is_fault Name c) i) Name)

-- the name is read last, before a known word
name_before : {X Y : Type 0} (r : Result X LineFault) (k : X → Y) → Only Name r → number_or_name (result_err r ∷ None ∷ []) ≡ result_err (r >>= (λ x. Ok (k x)))
unfolding number_or_name
name_before (Ok x) k only = refl
name_before (Err f) k only = ap (λ g. number_or_name (Some g ∷ None ∷ [])) only ∙ ap (λ g. Some g) (sym only)

-- readings one after the other
joined : {X Y Z : Type 0} (r : Result X LineFault) (k : X → Result Y LineFault) (h : Y → Result Z LineFault) → ((r >>= k) >>= h) ≡ (r >>= (λ x. k x >>= h))
joined (Ok x) k h = refl
joined (Err f) k h = refl

module _ {A : Type 0} (m : Parts A) (e : Expected) (n : ℕ) where
  diagnosed_begin : (words : List (List ℕ)) → diagnosed_fault (wrong_in m (part.Transaction ∷ part.Class ∷ []) e n words) ≡ result_err (parse_begin m words)
  unfolding parse_begin
  diagnosed_begin [] = short m (part.Transaction ∷ part.Class ∷ []) e n [] refl refl
  diagnosed_begin (t ∷ []) = short_plain m (part.Transaction ∷ part.Class ∷ []) e n (t ∷ []) refl refl
  diagnosed_begin (t ∷ class ∷ []) =
      exact_plain m (part.Transaction ∷ part.Class ∷ []) e n (t ∷ class ∷ []) refl refl
      ∙ number_first (parse_txn t) _ _ (only_txn t) (λ t. name_last (parse_class m class) _ (only_class m class))
  diagnosed_begin (t ∷ class ∷ x ∷ ws) = short_plain m (part.Transaction ∷ part.Class ∷ []) e n (t ∷ class ∷ x ∷ ws) refl (many 2 (suc (suc (suc (length ws)))) (omega arith))

  diagnosed_spawn : (words : List (List ℕ)) → diagnosed_fault (wrong_in m (part.Transaction ∷ part.Transaction ∷ part.Class ∷ []) e n words) ≡ result_err (parse_spawn m words)
  unfolding parse_spawn
  diagnosed_spawn [] = short m (part.Transaction ∷ part.Transaction ∷ part.Class ∷ []) e n [] refl refl
  diagnosed_spawn (t ∷ []) = short_plain m (part.Transaction ∷ part.Transaction ∷ part.Class ∷ []) e n (t ∷ []) refl refl
  diagnosed_spawn (t ∷ c ∷ []) = short_plain m (part.Transaction ∷ part.Transaction ∷ part.Class ∷ []) e n (t ∷ c ∷ []) refl refl
  diagnosed_spawn (t ∷ c ∷ class ∷ []) =
      exact_plain m (part.Transaction ∷ part.Transaction ∷ part.Class ∷ []) e n (t ∷ c ∷ class ∷ []) refl refl
      ∙ number_first (parse_txn t) _ _ (only_txn t) (λ t. number_first (parse_txn c) _ _ (only_txn c) (λ c. name_last (parse_class m class) _ (only_class m class)))
  diagnosed_spawn (t ∷ c ∷ class ∷ x ∷ ws) = short_plain m (part.Transaction ∷ part.Transaction ∷ part.Class ∷ []) e n (t ∷ c ∷ class ∷ x ∷ ws) refl (many 3 (suc (suc (suc (suc (length ws))))) (omega arith))

  diagnosed_split : (words : List (List ℕ)) → diagnosed_fault (wrong_in m (part.Transaction ∷ part.Transaction ∷ part.Class ∷ part.Operations ∷ []) e n words) ≡ result_err (parse_split m words)
  unfolding parse_split
  diagnosed_split [] = short m (part.Transaction ∷ part.Transaction ∷ part.Class ∷ part.Operations ∷ []) e n [] refl refl
  diagnosed_split (t ∷ []) = short_plain m (part.Transaction ∷ part.Transaction ∷ part.Class ∷ part.Operations ∷ []) e n (t ∷ []) refl refl
  diagnosed_split (t ∷ u ∷ []) = short_plain m (part.Transaction ∷ part.Transaction ∷ part.Class ∷ part.Operations ∷ []) e n (t ∷ u ∷ []) refl refl
  diagnosed_split (t ∷ u ∷ class ∷ []) = short_plain m (part.Transaction ∷ part.Transaction ∷ part.Class ∷ part.Operations ∷ []) e n (t ∷ u ∷ class ∷ []) refl refl
  diagnosed_split (t ∷ u ∷ class ∷ ops ∷ []) =
      exact_plain m (part.Transaction ∷ part.Transaction ∷ part.Class ∷ part.Operations ∷ []) e n (t ∷ u ∷ class ∷ ops ∷ []) refl refl
      ∙ number_first (parse_txn t) _ _ (only_txn t) (λ t. number_first (parse_txn u) _ _ (only_txn u) (λ u. exchanged (result_err (parse_class m class)) (result_err (parse_operations ops)) ∙ number_first (parse_operations ops) _ _ (only_operations ops) (λ ops. name_last (parse_class m class) _ (only_class m class))))
  diagnosed_split (t ∷ u ∷ class ∷ ops ∷ x ∷ ws) = short_plain m (part.Transaction ∷ part.Transaction ∷ part.Class ∷ part.Operations ∷ []) e n (t ∷ u ∷ class ∷ ops ∷ x ∷ ws) refl (many 4 (suc (suc (suc (suc (suc (length ws)))))) (omega arith))

  diagnosed_join : (words : List (List ℕ)) → diagnosed_fault (wrong_in m (part.Transaction ∷ part.Transaction ∷ []) e n words) ≡ result_err (parse_join {A = A} words)
  unfolding parse_join
  diagnosed_join [] = short m (part.Transaction ∷ part.Transaction ∷ []) e n [] refl refl
  diagnosed_join (t ∷ []) = short_plain m (part.Transaction ∷ part.Transaction ∷ []) e n (t ∷ []) refl refl
  diagnosed_join (t ∷ u ∷ []) =
      exact_plain m (part.Transaction ∷ part.Transaction ∷ []) e n (t ∷ u ∷ []) refl refl
      ∙ number_first (parse_txn t) _ _ (only_txn t) (λ t. number_last (parse_txn u) _ (only_txn u))
  diagnosed_join (t ∷ u ∷ x ∷ ws) = short_plain m (part.Transaction ∷ part.Transaction ∷ []) e n (t ∷ u ∷ x ∷ ws) refl (many 2 (suc (suc (suc (length ws)))) (omega arith))

  diagnosed_delegate : (words : List (List ℕ)) → diagnosed_fault (wrong_in m (part.Transaction ∷ part.Transaction ∷ part.Operations ∷ []) e n words) ≡ result_err (parse_delegate {A = A} words)
  unfolding parse_delegate
  diagnosed_delegate [] = short m (part.Transaction ∷ part.Transaction ∷ part.Operations ∷ []) e n [] refl refl
  diagnosed_delegate (t ∷ []) = short_plain m (part.Transaction ∷ part.Transaction ∷ part.Operations ∷ []) e n (t ∷ []) refl refl
  diagnosed_delegate (t ∷ u ∷ []) = short_plain m (part.Transaction ∷ part.Transaction ∷ part.Operations ∷ []) e n (t ∷ u ∷ []) refl refl
  diagnosed_delegate (t ∷ u ∷ ops ∷ []) =
      exact_plain m (part.Transaction ∷ part.Transaction ∷ part.Operations ∷ []) e n (t ∷ u ∷ ops ∷ []) refl refl
      ∙ number_first (parse_txn t) _ _ (only_txn t) (λ t. number_first (parse_txn u) _ _ (only_txn u) (λ u. number_last (parse_operations ops) _ (only_operations ops)))
  diagnosed_delegate (t ∷ u ∷ ops ∷ x ∷ ws) = short_plain m (part.Transaction ∷ part.Transaction ∷ part.Operations ∷ []) e n (t ∷ u ∷ ops ∷ x ∷ ws) refl (many 3 (suc (suc (suc (suc (length ws))))) (omega arith))

  diagnosed_commit : (words : List (List ℕ)) → diagnosed_fault (wrong_in m (part.Transaction ∷ []) e n words) ≡ result_err (parse_commit {A = A} words)
  unfolding parse_commit
  diagnosed_commit [] = short m (part.Transaction ∷ []) e n [] refl refl
  diagnosed_commit (t ∷ []) =
      exact_plain m (part.Transaction ∷ []) e n (t ∷ []) refl refl ∙ number_last (parse_txn t) _ (only_txn t)
  diagnosed_commit (t ∷ x ∷ ws) = short_plain m (part.Transaction ∷ []) e n (t ∷ x ∷ ws) refl (many 1 (suc (suc (length ws))) (omega arith))

  diagnosed_abort : (words : List (List ℕ)) → diagnosed_fault (wrong_in m (part.Transaction ∷ []) e n words) ≡ result_err (parse_abort {A = A} words)
  unfolding parse_abort
  diagnosed_abort [] = short m (part.Transaction ∷ []) e n [] refl refl
  diagnosed_abort (t ∷ []) =
      exact_plain m (part.Transaction ∷ []) e n (t ∷ []) refl refl ∙ number_last (parse_txn t) _ (only_txn t)
  diagnosed_abort (t ∷ x ∷ ws) = short_plain m (part.Transaction ∷ []) e n (t ∷ x ∷ ws) refl (many 1 (suc (suc (length ws))) (omega arith))

  diagnosed_permit : (words : List (List ℕ)) → diagnosed_fault (wrong_in m (part.Transaction ∷ part.Transaction ∷ part.Object ∷ []) e n words) ≡ result_err (parse_permit m words)
  unfolding parse_permit
  diagnosed_permit [] = short m (part.Transaction ∷ part.Transaction ∷ part.Object ∷ []) e n [] refl refl
  diagnosed_permit (t ∷ []) = short_plain m (part.Transaction ∷ part.Transaction ∷ part.Object ∷ []) e n (t ∷ []) refl refl
  diagnosed_permit (t ∷ u ∷ []) = short_plain m (part.Transaction ∷ part.Transaction ∷ part.Object ∷ []) e n (t ∷ u ∷ []) refl refl
  diagnosed_permit (t ∷ u ∷ object ∷ []) =
      exact_plain m (part.Transaction ∷ part.Transaction ∷ part.Object ∷ []) e n (t ∷ u ∷ object ∷ []) refl refl
      ∙ number_first (parse_txn t) _ _ (only_txn t) (λ t. number_first (parse_txn u) _ _ (only_txn u) (λ u. name_last (parse_object m object) _ (only_object m object)))
  diagnosed_permit (t ∷ u ∷ object ∷ x ∷ ws) = short_plain m (part.Transaction ∷ part.Transaction ∷ part.Object ∷ []) e n (t ∷ u ∷ object ∷ x ∷ ws) refl (many 3 (suc (suc (suc (suc (length ws))))) (omega arith))

-- an unknown word
unknown : (os : List (Option LineFault)) (a b : ℕ) → has Word os ≡ true → lowest_of os a b ≡ Some Word
unknown os a b is = ap (λ t. option_or (when t Word) (option_or (when (differ a b) Arity) (number_or_name os))) is

module _ {A : Type 0} (m : Parts A) (e : Expected) (n : ℕ) where
  -- a kind of dependency first, known or not
  diagnosed_kind : (word : List ℕ) (words : List (List ℕ)) (r : Result Dep LineFault) → Only Word r → parse_kind word ≡ r → diagnosed_fault (wrong_in m (part.Kind ∷ part.Transaction ∷ part.Transaction ∷ []) e n (word ∷ words)) ≡ result_err (r >>= (λ kind. form_of_kind {A = A} kind words))
  diagnosed_kind word words (Err f) only is =
      diagnosed_in m (part.Kind ∷ part.Transaction ∷ part.Transaction ∷ []) e n (word ∷ words)
      ∙ unknown (faults m (part.Kind ∷ part.Transaction ∷ part.Transaction ∷ []) (word ∷ words)) 3 (length (word ∷ words)) (ap (λ r. is_fault Word (result_err r) || has Word (faults m (part.Transaction ∷ part.Transaction ∷ []) words)) (is ∙ ap Err only))
      ∙ ap Some (sym only)
  diagnosed_kind word [] (Ok kind) only is =
      short m (part.Kind ∷ part.Transaction ∷ part.Transaction ∷ []) e n (word ∷ []) (ap (λ r. is_fault Word (result_err r) || false) is) refl
  diagnosed_kind word (j ∷ []) (Ok kind) only is =
      short m (part.Kind ∷ part.Transaction ∷ part.Transaction ∷ []) e n (word ∷ j ∷ []) (ap (λ r. is_fault Word (result_err r) || has Word (faults m (part.Transaction ∷ part.Transaction ∷ []) (j ∷ []))) is ∙ all_known m (part.Transaction ∷ part.Transaction ∷ []) (j ∷ []) refl) refl
  diagnosed_kind word (j ∷ i ∷ []) (Ok kind) only is =
      exact m (part.Kind ∷ part.Transaction ∷ part.Transaction ∷ []) e n (word ∷ j ∷ i ∷ []) (ap (λ r. is_fault Word (result_err r) || has Word (faults m (part.Transaction ∷ part.Transaction ∷ []) (j ∷ i ∷ []))) is ∙ all_known m (part.Transaction ∷ part.Transaction ∷ []) (j ∷ i ∷ []) refl) refl
      ∙ ap (λ r. number_or_name (result_err r ∷ result_err (parse_txn j) ∷ result_err (parse_txn i) ∷ [])) is
      ∙ known_first (result_err (parse_txn j) ∷ result_err (parse_txn i) ∷ [])
      ∙ number_first (parse_txn j) _ _ (only_txn j) (λ j. number_last (parse_txn i) _ (only_txn i))
  diagnosed_kind word (j ∷ i ∷ x ∷ ws) (Ok kind) only is =
      short m (part.Kind ∷ part.Transaction ∷ part.Transaction ∷ []) e n (word ∷ j ∷ i ∷ x ∷ ws) (ap (λ r. is_fault Word (result_err r) || has Word (faults m (part.Transaction ∷ part.Transaction ∷ []) (j ∷ i ∷ x ∷ ws))) is ∙ all_known m (part.Transaction ∷ part.Transaction ∷ []) (j ∷ i ∷ x ∷ ws) refl)
      (many 3 (suc (suc (suc (suc (length ws))))) (omega arith))

  diagnosed_form : (words : List (List ℕ)) → diagnosed_fault (wrong_in m (part.Kind ∷ part.Transaction ∷ part.Transaction ∷ []) e n words) ≡ result_err (parse_form {A = A} words)
  unfolding parse_form
  diagnosed_form [] = short m (part.Kind ∷ part.Transaction ∷ part.Transaction ∷ []) e n [] refl refl
  diagnosed_form (word ∷ words) = diagnosed_kind word words (parse_kind word) (only_kind word) refl

  -- the first three words after a `do`
  abbrev asked : List LinePart → List LinePart
  asked parts = part.Transaction ∷ part.Object ∷ part.Operation ∷ parts

  abbrev doing : List ℕ → List ℕ → Result Op LineFault → Result (Event A) LineFault
  doing t ob r = r >>= (λ op. parse_txn t >>= (λ t. parse_object m ob >>= (λ object. Ok (Operate t object op))))

  -- no word is unknown if the operation is known
  known : (t ob op : List ℕ) (parts : List LinePart) (ws : List (List ℕ)) (kind : OpKind) → parse_op_kind op ≡ Ok kind → list_all is_plain parts ≡ true → has Word (faults m (asked parts) (t ∷ ob ∷ op ∷ ws)) ≡ false
  known t ob op parts ws kind is plain =
      λ i. no_unknown m part.Transaction t refl i || (no_unknown m part.Object ob refl i || (ap (λ r. is_fault Word (result_err r)) is i || all_known m parts ws plain i))

  -- an operation without an INT
  diagnosed_alone : (t ob op : List ℕ) (x : Op) (kind : OpKind) → parse_op_kind op ≡ Ok kind → (ws : List (List ℕ)) → diagnosed_fault (wrong_in m (asked []) e n (t ∷ ob ∷ op ∷ ws)) ≡ result_err (doing t ob (alone x ws))
  diagnosed_alone t ob op x kind is [] =
      exact m (asked []) e n (t ∷ ob ∷ op ∷ []) (known t ob op [] [] kind is refl) refl
      ∙ ap (λ r. number_or_name (result_err (parse_txn t) ∷ result_err (parse_object m ob) ∷ result_err r ∷ [])) is
      ∙ number_first (parse_txn t) _ _ (only_txn t) (λ t. name_before (parse_object m ob) _ (only_object m ob))
  diagnosed_alone t ob op x kind is (w ∷ ws) =
      short m (asked []) e n (t ∷ ob ∷ op ∷ w ∷ ws) (known t ob op [] (w ∷ ws) kind is refl) (many 3 (suc (suc (suc (suc (length ws))))) (omega arith))

  -- an operation with an INT
  diagnosed_number : (t ob op : List ℕ) (x : ℤ → Op) (kind : OpKind) → parse_op_kind op ≡ Ok kind → (ws : List (List ℕ)) → diagnosed_fault (wrong_in m (asked (part.Integer ∷ [])) e n (t ∷ ob ∷ op ∷ ws)) ≡ result_err (doing t ob (with_integer x ws))
  diagnosed_number t ob op x kind is [] =
      short m (asked (part.Integer ∷ [])) e n (t ∷ ob ∷ op ∷ []) (known t ob op (part.Integer ∷ []) [] kind is refl) refl
  diagnosed_number t ob op x kind is (w ∷ []) =
      exact m (asked (part.Integer ∷ [])) e n (t ∷ ob ∷ op ∷ w ∷ []) (known t ob op (part.Integer ∷ []) (w ∷ []) kind is refl) refl
      ∙ ap (λ r. number_or_name (result_err (parse_txn t) ∷ result_err (parse_object m ob) ∷ result_err r ∷ result_err (parse_integer w) ∷ [])) is
      ∙ moved (result_err (parse_txn t)) (result_err (parse_object m ob)) (result_err (parse_integer w))
      ∙ number_first (parse_integer w) (λ v. doing t ob (Ok (x v))) _ (only_integer w) (λ v. number_first (parse_txn t) _ _ (only_txn t) (λ t. name_last (parse_object m ob) _ (only_object m ob)))
      ∙ ap result_err (sym (joined (parse_integer w) (λ v. Ok (x v)) _))
  diagnosed_number t ob op x kind is (w ∷ y ∷ ws) =
      short m (asked (part.Integer ∷ [])) e n (t ∷ ob ∷ op ∷ w ∷ y ∷ ws) (known t ob op (part.Integer ∷ []) (w ∷ y ∷ ws) kind is refl) (many 4 (suc (suc (suc (suc (suc (length ws)))))) (omega arith))

  diagnosed_operation : (t ob op : List ℕ) (r : Result OpKind LineFault) → Only Word r → parse_op_kind op ≡ r → (ws : List (List ℕ)) → diagnosed_fault (wrong_in m (operation_parts (result_ok r)) e n (t ∷ ob ∷ op ∷ ws)) ≡ result_err (doing t ob (r >>= (λ kind. operation_of_kind kind ws)))
  diagnosed_operation t ob op (Err f) only is ws =
      diagnosed_in m (asked []) e n (t ∷ ob ∷ op ∷ ws)
      ∙ unknown (faults m (asked []) (t ∷ ob ∷ op ∷ ws)) 3 (length (t ∷ ob ∷ op ∷ ws)) (λ i. no_unknown m part.Transaction t refl i || (no_unknown m part.Object ob refl i || (ap (λ r. is_fault Word (result_err r)) (is ∙ ap Err only) i || has Word (faults m [] ws))))
      ∙ ap Some (sym only)
  diagnosed_operation t ob op (Ok op_kind.Read) only is ws = diagnosed_alone t ob op Read op_kind.Read is ws
  diagnosed_operation t ob op (Ok op_kind.Write) only is ws = diagnosed_number t ob op (λ v. Write v) op_kind.Write is ws
  diagnosed_operation t ob op (Ok op_kind.Get) only is ws = diagnosed_alone t ob op Get op_kind.Get is ws
  diagnosed_operation t ob op (Ok op_kind.Add) only is ws = diagnosed_number t ob op (λ v. Add v) op_kind.Add is ws
  diagnosed_operation t ob op (Ok op_kind.Insert) only is ws = diagnosed_number t ob op (λ v. Insert v) op_kind.Insert is ws
  diagnosed_operation t ob op (Ok op_kind.Remove) only is ws = diagnosed_number t ob op (λ v. Remove v) op_kind.Remove is ws
  diagnosed_operation t ob op (Ok op_kind.Has) only is ws = diagnosed_number t ob op (λ v. Has v) op_kind.Has is ws
  diagnosed_operation t ob op (Ok op_kind.Size) only is ws = diagnosed_alone t ob op Size op_kind.Size is ws

module _ {A : Type 0} (m : Parts A) where
  diagnosed_do : (e : Expected) (n : ℕ) (words : List (List ℕ)) → diagnosed_fault (wrong_in m (operation_parts (op_kind_in words)) e n words) ≡ result_err (parse_do m words)
  unfolding parse_do
  diagnosed_do e n [] = short m (operation_parts None) e n [] refl refl
  diagnosed_do e n (t ∷ []) = short m (operation_parts None) e n (t ∷ []) (all_known m (part.Transaction ∷ []) (t ∷ []) refl) refl
  diagnosed_do e n (t ∷ ob ∷ []) = short m (operation_parts None) e n (t ∷ ob ∷ []) (all_known m (part.Transaction ∷ part.Object ∷ []) (t ∷ ob ∷ []) refl) refl
  diagnosed_do e n (t ∷ ob ∷ op ∷ ws) = diagnosed_operation m e n t ob op (parse_op_kind op) (only_op_kind op) refl ws

  diagnosed_after : (n : ℕ) (r : Result EventKind LineFault) (words : List (List ℕ)) → diagnosed_fault (wrong_after m n r words) ≡ result_err (r >>= (λ kind. event_of_kind m kind words))
  diagnosed_after n (Err f) words = refl
  diagnosed_after n (Ok event_kind.Begin) words = diagnosed_begin m _ (n + 1) words
  diagnosed_after n (Ok event_kind.Spawn) words = diagnosed_spawn m _ (n + 1) words
  diagnosed_after n (Ok event_kind.Split) words = diagnosed_split m _ (n + 1) words
  diagnosed_after n (Ok event_kind.Join) words = diagnosed_join m _ (n + 1) words
  diagnosed_after n (Ok event_kind.Delegate) words = diagnosed_delegate m _ (n + 1) words
  diagnosed_after n (Ok event_kind.Form) words = diagnosed_form m _ (n + 1) words
  diagnosed_after n (Ok event_kind.Operate) words = diagnosed_do _ (n + 1) words
  diagnosed_after n (Ok event_kind.Commit) words = diagnosed_commit m _ (n + 1) words
  diagnosed_after n (Ok event_kind.Abort) words = diagnosed_abort m _ (n + 1) words
  diagnosed_after n (Ok event_kind.Permit) words = diagnosed_permit m _ (n + 1) words

  -- the fault of a diagnosis of words of an event
  pub diagnosed_event : (n : ℕ) (words : List (List ℕ)) → diagnosed_fault (wrong_event m n words) ≡ result_err (parse_event m words)
  unfolding parse_event
  diagnosed_event n [] = refl
  diagnosed_event n (word ∷ words) = diagnosed_after n (parse_event_kind word) words

  diagnosed_return : (n : ℕ) (words : List (List ℕ)) → diagnosed_fault (wrong_return m n words) ≡ result_err (parse_return words)
  unfolding parse_return
  diagnosed_return n [] = short m (part.Return ∷ []) (Part part.Return) n [] refl refl
  diagnosed_return n (word ∷ []) =
      exact m (part.Return ∷ []) (Part part.Return) n (word ∷ []) (all_known m (part.Return ∷ []) (word ∷ []) refl) refl
      ∙ number_alone (ok_or (return_named word) Number) (only_or _ Number)
  diagnosed_return n (word ∷ x ∷ ws) = short m (part.Return ∷ []) (Part part.Return) n (word ∷ x ∷ ws) (all_known m (part.Return ∷ []) (word ∷ x ∷ ws) refl) (many 1 (suc (suc (length ws))) (omega arith))

  -- the fault of a diagnosis of words of a kept item
  pub diagnosed_kept : (words : List (List ℕ)) → diagnosed_fault (wrong_kept m words) ≡ result_err (parse_kept m words)
  unfolding parse_kept
  diagnosed_kept words =
      kept_or_plain (list_any is_equals words) _ _ _ _ _ _
      (diagnosed_event 0 (before_first is_equals words))
      (diagnosed_return (position_or_len is_equals words + 1) (after_first is_equals words))
      (diagnosed_event 0 words)

-- a seat's fault is Number, so the order of the two faults does not matter
with_number : (f : LineFault) → lower Number f ≡ lower f Number
with_number Empty = refl
with_number Word = refl
with_number Arity = refl
with_number Number = refl
with_number Name = refl

turned : {X Y Z : Type 0} (make : X → Y → Z) (r : Result X LineFault) (s : Result Y LineFault) → Only Number s → result_err (both (λ y x. make x y) s r) ≡ result_err (both make r s)
turned make (Ok x) (Ok y) only = refl
turned make (Ok x) (Err g) only = refl
turned make (Err f) (Ok y) only = refl
turned make (Err f) (Err g) only = ap Some (ap (λ h. lower h f) only ∙ with_number f ∙ ap (λ h. lower f h) (sym only))

module _ {A : Type 0} (m : Parts A) (seats : ℕ) where
  diagnosed_seat : (word : List ℕ) → diagnosed_fault (wrong_seat m seats word) ≡ result_err (parse_seat seats word)
  diagnosed_seat word =
      exact_plain m (part.Seat seats ∷ []) (Part (part.Seat seats)) 0 (word ∷ []) refl refl
      ∙ number_alone (parse_seat seats word) (only_seat seats word)

  diagnosed_after_seat : (words : List (List ℕ)) → diagnosed_fault (wrong_after_seat m words) ≡ result_err (event_after m words)
  diagnosed_after_seat [] = refl
  diagnosed_after_seat (word ∷ words) = diagnosed_event m 1 (word ∷ words)

  -- the fault of a diagnosis of words of a seated event
  pub diagnosed_seated : (words : List (List ℕ)) → diagnosed_fault (wrong_seated m seats words) ≡ result_err (parse_seated m seats words)
  unfolding parse_seated
  diagnosed_seated [] = refl
  diagnosed_seated (seat ∷ words) =
      diagnosed_lower (λ n event. at_seat event n) (wrong_seat m seats seat) (wrong_after_seat m words) (parse_seat seats seat) (event_after m words) (diagnosed_seat seat) (diagnosed_after_seat words)
      ∙ turned at_seat (event_after m words) (parse_seat seats seat) (only_seat seats seat)

known_event : (a b c d e f g h i j : Bool) → Only {X = EventKind} Word (cond a (Ok event_kind.Begin) (cond b (Ok event_kind.Spawn) (cond c (Ok event_kind.Split) (cond d (Ok event_kind.Join) (cond e (Ok event_kind.Delegate) (cond f (Ok event_kind.Form) (cond g (Ok event_kind.Operate) (cond h (Ok event_kind.Commit) (cond i (Ok event_kind.Abort) (cond j (Ok event_kind.Permit) (Err Word)))))))))))
known_event a b c d e f g h i j =
    only_else Word a event_kind.Begin _ (only_else Word b event_kind.Spawn _ (only_else Word c event_kind.Split _ (only_else Word d event_kind.Join _ (only_else Word e event_kind.Delegate _ (only_else Word f event_kind.Form _ (only_else Word g event_kind.Operate _ (only_else Word h event_kind.Commit _ (only_else Word i event_kind.Abort _ (only_both Word j event_kind.Permit)))))))))

only_event : (word : List ℕ) → Only Word (parse_event_kind word)
only_event word =
    known_event (bytes_eq word (event_word event_kind.Begin)) (bytes_eq word (event_word event_kind.Spawn)) (bytes_eq word (event_word event_kind.Split)) (bytes_eq word (event_word event_kind.Join)) (bytes_eq word (event_word event_kind.Delegate)) (bytes_eq word (event_word event_kind.Form)) (bytes_eq word (event_word event_kind.Operate)) (bytes_eq word (event_word event_kind.Commit)) (bytes_eq word (event_word event_kind.Abort)) (bytes_eq word (event_word event_kind.Permit))

-- the same fault before a further step that has none
kept_fault : {X Y : Type 0} (r : Result X LineFault) (make : X → Y) → result_err r ≡ result_err (r >>= (λ x. Ok (make x)))
kept_fault (Ok x) make = refl
kept_fault (Err f) make = refl

module _ {A : Type 0} (m : Parts A) (e : Expected) (n : ℕ) where
  -- no word left
  diagnosed_none : {X : Type 0} (x : X) (words : List (List ℕ)) → diagnosed_fault (wrong_in m [] e n words) ≡ result_err (alone x words)
  unfolding number_or_name
  diagnosed_none x [] = exact_plain m [] e n [] refl refl
  diagnosed_none x (w ∷ ws) = short_plain m [] e n (w ∷ ws) refl (many 0 (suc (length ws)) (omega arith))

  -- the one word left, a number
  diagnosed_one_number : {X Y : Type 0} (p : LinePart) (read : List ℕ → Result X LineFault) (make : X → Y) → is_plain p ≡ true → ((word : List ℕ) → fault_of_word m p word ≡ result_err (read word)) → ((word : List ℕ) → Only Number (read word)) → (words : List (List ℕ)) → diagnosed_fault (wrong_in m (p ∷ []) e n words) ≡ result_err (one_word words >>= (λ word. read word >>= (λ x. Ok (make x))))
  diagnosed_one_number p read make plain same only [] = short m (p ∷ []) e n [] refl refl
  diagnosed_one_number p read make plain same only (w ∷ []) =
      exact_plain m (p ∷ []) e n (w ∷ []) (ap (λ b. b && true) plain) refl
      ∙ ap (λ o. number_or_name (o ∷ [])) (same w)
      ∙ number_last (read w) make (only w)
  diagnosed_one_number p read make plain same only (w ∷ x ∷ ws) =
      short_plain m (p ∷ []) e n (w ∷ x ∷ ws) (ap (λ b. b && true) plain) (many 1 (suc (suc (length ws))) (omega arith))

  -- the one word left, an object
  diagnosed_one_object : {Y : Type 0} (make : ObjId → Y) (words : List (List ℕ)) → diagnosed_fault (wrong_in m (part.Object ∷ []) e n words) ≡ result_err (one_word words >>= (λ word. parse_object m word >>= (λ x. Ok (make x))))
  diagnosed_one_object make [] = short m (part.Object ∷ []) e n [] refl refl
  diagnosed_one_object make (w ∷ []) =
      exact_plain m (part.Object ∷ []) e n (w ∷ []) refl refl ∙ name_last (parse_object m w) make (only_object m w)
  diagnosed_one_object make (w ∷ x ∷ ws) =
      short_plain m (part.Object ∷ []) e n (w ∷ x ∷ ws) refl (many 1 (suc (suc (length ws))) (omega arith))

  diagnosed_one_count : {Y : Type 0} (make : ℕ → Y) (words : List (List ℕ)) → diagnosed_fault (wrong_in m (part.Count ∷ []) e n words) ≡ result_err (one_word words >>= (λ word. parse_count word >>= (λ x. Ok (make x))))
  diagnosed_one_count make words = diagnosed_one_number part.Count parse_count make refl (λ word. refl) only_count words

  diagnosed_one_txn : {Y : Type 0} (make : TxnId → Y) (words : List (List ℕ)) → diagnosed_fault (wrong_in m (part.Transaction ∷ []) e n words) ≡ result_err (one_word words >>= (λ word. parse_txn word >>= (λ x. Ok (make x))))
  diagnosed_one_txn make words = diagnosed_one_number part.Transaction parse_txn make refl (λ word. refl) only_txn words

  -- a kind of event, known or not
  diagnosed_one_event : (word : List ℕ) (words : List (List ℕ)) (r : Result EventKind LineFault) → Only Word r → parse_event_kind word ≡ r → diagnosed_fault (wrong_in m (part.Event ∷ []) e n (word ∷ words)) ≡ result_err (r >>= (λ kind. alone (break_on.Kind kind) words))
  unfolding number_or_name
  diagnosed_one_event word words (Err f) only is =
      diagnosed_in m (part.Event ∷ []) e n (word ∷ words)
      ∙ unknown (faults m (part.Event ∷ []) (word ∷ words)) 1 (length (word ∷ words)) (ap (λ r. is_fault Word (result_err r) || false) (is ∙ ap Err only))
      ∙ ap Some (sym only)
  diagnosed_one_event word [] (Ok kind) only is =
      exact m (part.Event ∷ []) e n (word ∷ []) (ap (λ r. is_fault Word (result_err r) || false) is) refl
      ∙ ap (λ r. number_or_name (result_err r ∷ [])) is
  diagnosed_one_event word (x ∷ ws) (Ok kind) only is =
      short m (part.Event ∷ []) e n (word ∷ x ∷ ws) (ap (λ r. is_fault Word (result_err r) || false) is) (many 1 (suc (suc (length ws))) (omega arith))

  diagnosed_kind_break : (words : List (List ℕ)) → diagnosed_fault (wrong_in m (part.Event ∷ []) e n words) ≡ result_err (parse_kind_break words)
  diagnosed_kind_break [] = short m (part.Event ∷ []) e n [] refl refl
  diagnosed_kind_break (word ∷ words) = diagnosed_one_event word words (parse_event_kind word) (only_event word) refl

module _ {A : Type 0} (m : Parts A) where
  diagnosed_break_of : (r : Result BreakKind LineFault) (words : List (List ℕ)) → diagnosed_fault (wrong_break_of m r words) ≡ result_err (r >>= (λ kind. break_of_kind m kind words))
  diagnosed_break_of (Err f) words = refl
  diagnosed_break_of (Ok break_kind.Kind) words = diagnosed_kind_break m _ 2 words
  diagnosed_break_of (Ok break_kind.Txn) words = diagnosed_one_txn m _ 2 (λ t. break_on.Txn t) words
  diagnosed_break_of (Ok break_kind.Object) words = diagnosed_one_object m _ 2 (λ object. break_on.Object object) words
  diagnosed_break_of (Ok break_kind.Owed) words = diagnosed_one_count m _ 2 (λ k. break_on.Owed k) words
  diagnosed_break_of (Ok break_kind.Ended) words = diagnosed_one_txn m _ 2 (λ t. break_on.Ended t) words

  diagnosed_break : (words : List (List ℕ)) → diagnosed_fault (wrong_break m words) ≡ result_err (parse_break m words)
  unfolding parse_break
  diagnosed_break [] = refl
  diagnosed_break (word ∷ words) = diagnosed_break_of (parse_break_kind word) words

  diagnosed_command_of : (r : Result CommandKind LineFault) (words : List (List ℕ)) → diagnosed_fault (wrong_command_of m r words) ≡ result_err (r >>= (λ kind. command_of_kind m kind words))
  diagnosed_command_of (Err f) words = refl
  diagnosed_command_of (Ok command_kind.Step) words = diagnosed_none m _ 1 command.Step words
  diagnosed_command_of (Ok command_kind.Back) words = diagnosed_none m _ 1 command.Back words
  diagnosed_command_of (Ok command_kind.Goto) words = diagnosed_one_count m _ 1 (λ k. command.Goto k) words
  diagnosed_command_of (Ok command_kind.Run) words = diagnosed_none m _ 1 command.Run words
  diagnosed_command_of (Ok command_kind.Break) words = diagnosed_break words ∙ kept_fault (parse_break m words) (λ on. command.Break on)
  diagnosed_command_of (Ok command_kind.Clear) words = diagnosed_none m _ 1 command.Clear words
  diagnosed_command_of (Ok command_kind.Value) words = diagnosed_one_object m _ 1 (λ object. command.Value object) words
  diagnosed_command_of (Ok command_kind.Status) words = diagnosed_one_txn m _ 1 (λ t. command.Status t) words
  diagnosed_command_of (Ok command_kind.Owed) words = diagnosed_none m _ 1 command.Owed words

  -- the fault of a diagnosis of words of a command
  pub diagnosed_command : (words : List (List ℕ)) → diagnosed_fault (wrong_command m words) ≡ result_err (parse_command m words)
  unfolding parse_command
  diagnosed_command [] = refl
  diagnosed_command (word ∷ words) = diagnosed_command_of (parse_command_kind word) words

-- the fault of a diagnosis, if memory does not run out
pub diagnosed_if : {E : Type 0} (r : Result (Option Diagnostic) E) (d : Option Diagnostic) (fault : Option LineFault) → IfOk r (λ found. found ≡ d) → diagnosed_fault d ≡ fault → IfOk r (λ found. diagnosed_fault found ≡ fault)
diagnosed_if (Ok found) d fault same reported = ap diagnosed_fault same ∙ reported
diagnosed_if (Err e) d fault same reported = tt
