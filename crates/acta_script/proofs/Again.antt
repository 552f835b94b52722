-- Reading a written event or kept item gives it back.
use Rattle.std.proofs.Common.{◌≡◌, ◌≤◌, ◌<◌, ◌+◌, ◌^◌, ℕ, suc, Bool, true, false, ◌&&◌, ◌||◌, not, cond, List, [], ◌∷◌, ◌++◌, length, take, drop, decimal, codes, Option, Some, None, option_map, ok_or, Result, Ok, IfSome, ℤ, pos, negsuc, refl, ap, ◌∙◌, arith, lit≤, lit<, ◌==◌}
use Rattle.std.specs.Fmt.{signed_decimal}
use Rattle.std.specs.List.{AllByRecursion, list_any, list_all, position_or_len, before_first, after_first}
use Rattle.std.specs.Str.{bytes_eq}
use Rattle.std.specs.Str.Parse.{AllDigits}
use Rattle.std.proofs.lemmas.Bool.{and_parts}
use Rattle.std.proofs.lemmas.Bool.Decides.{nat_tests}
use Rattle.std.proofs.lemmas.Fmt.{decimal_is_IsNumeral}
use Rattle.std.proofs.lemmas.Int.{ints}
use Rattle.std.proofs.lemmas.List.{append-nil, take_at}
use Rattle.std.proofs.lemmas.Str.Parse.{digit_from_value}
use Rattle.acta_words.specs.Text.{words_of, line_of}
use Rattle.acta_words.specs.Numerals.{read_integer}
use Rattle.acta_words.proofs.NumeralsAgain.{natural_again, positive_again, negative_again}
use Rattle.acta_words.proofs.TextAgain.{IsWord, words_again}
use Rattle.acta_table.specs.declared.dep.Dep.{Dep}
use Rattle.acta_table.specs.declared.dep.Dep.TheVariants.{Cd, Scd, Ad, Wd, Td, Ed, Cmd, Bd, Sd, Bcd, Bad, Wcd}
use Rattle.acta_table.specs.declared.event.ClassId.{ClassId}
use Rattle.acta_table.specs.declared.event.Event.{Event}
use Rattle.acta_table.specs.declared.event.Event.TheVariants.{Begin, Spawn, Split, Join, Delegate, Form, Operate, Commit, Abort, Permit}
use Rattle.acta_table.specs.declared.event.Kept.{Kept}
use Rattle.acta_table.specs.declared.event.ObjId.{ObjId}
use Rattle.acta_table.specs.declared.event.Op.{Op}
use Rattle.acta_table.specs.declared.event.Op.TheVariants.{Read, Write, Get, Add, Insert, Remove, Has, Size}
use Rattle.acta_table.specs.declared.event.Ret.{Ret}
use Rattle.acta_table.specs.declared.event.Ret.TheVariants.{Done, Value, Flag}
use Rattle.acta_table.specs.declared.event.TxnId.{TxnId}
use Rattle.acta_table.specs.declared.model.Parts.{Parts}
use Rattle.acta_table.specs.Dependencies.{word_of}
use Rattle.acta_table.specs.Faults.{lowest_fault, is_name}
use Rattle.acta_script.specs.declared.fault.LineFault.{LineFault}
use Rattle.acta_script.specs.declared.fault.LineFault.TheVariants.{Number, Name}
use Rattle.acta_script.specs.Laws.{IsInModel}
use Rattle.acta_script.specs.inside.Again.{IsReadAgain, IsKeptAgain}
use Rattle.acta_script.specs.inside.Ranges.{IsWithin, HasRanges, HasRange, integer_of}
use Rattle.acta_script.specs.Reading.{◌>>=◌, parse_txn, parse_integer, parse_class, parse_object, parse_kind, parse_begin, parse_spawn, parse_split, parse_join, parse_delegate, parse_form, parse_do, parse_commit, parse_abort, parse_permit, parse_event, return_named, parse_return, is_equals, both, with_return, plain, parse_kept, kept_of}
use Rattle.acta_script.specs.Writing.{txn_word, class_word, object_word, operation_words, event_words, event_line, return_word, kept_line}
use Rattle.acta_script.proofs.Checked.{IsChecked, checked}
use Rattle.acta_script.proofs.Named.{place, at-name}
use Rattle.acta_script.proofs.OperationsAgain.{each_small, operations_again, operations-spelled}
use Rattle.acta_script.proofs.Spelled.{is_spelled, is_word, are_words, no_sign, decimal-spelled, negative-spelled, name-spelled}

txn_again : (t : TxnId) → t.0 ≤ 0xffff → parse_txn (txn_word t) ≡ Ok t
txn_again t small = ap (λ (o : Option ℕ). ok_or (option_map (λ n. record { 0 = n }) o) Number) (natural_again 0xffff t.0 small (omega (arith, small)))

txn-spelled : (t : TxnId) → t.0 ≤ 0xffff → is_spelled (txn_word t) ≡ true
txn-spelled t small = decimal-spelled t.0 (omega (arith, small))

read_again : (bound : ℕ) (z : ℤ) → bound ≤ 2 ^ 63 → IsWithin bound z → read_integer bound (signed_decimal z) ≡ Some z
read_again bound (pos n) small within = positive_again bound n (omega (arith, ints, within.1)) (omega (arith, ints, within.1))
read_again bound (negsuc n) small within = negative_again bound n (omega (arith, ints, within.0)) (omega (arith, ints, within.0))

integer-spelled : (bound : ℕ) (z : ℤ) → bound ≤ 2 ^ 63 → IsWithin bound z → is_spelled (signed_decimal z) ≡ true
integer-spelled bound (pos n) small within = decimal-spelled n (omega (arith, ints, within.1))
integer-spelled bound (negsuc n) small within = negative-spelled n (omega (arith, ints, within.0))

integer_again : (z : ℤ) → IsWithin 0x8000_0000 z → parse_integer (signed_decimal z) ≡ Ok z
integer_again z within = ap (λ (o : Option ℤ). ok_or o Number) (read_again 0x8000_0000 z (lit≤ tt) within)

kind_again : (kind : Dep) → parse_kind (word_of kind) ≡ Ok kind
kind_again Cd = refl
kind_again Scd = refl
kind_again Ad = refl
kind_again Wd = refl
kind_again Td = refl
kind_again Ed = refl
kind_again Cmd = refl
kind_again Bd = refl
kind_again Sd = refl
kind_again Bcd = refl
kind_again Bad = refl
kind_again Wcd = refl

kind-spelled : (kind : Dep) → is_spelled (word_of kind) ≡ true
kind-spelled Cd = refl
kind-spelled Scd = refl
kind-spelled Ad = refl
kind-spelled Wd = refl
kind-spelled Td = refl
kind-spelled Ed = refl
kind-spelled Cmd = refl
kind-spelled Bd = refl
kind-spelled Sd = refl
kind-spelled Bcd = refl
kind-spelled Bad = refl
kind-spelled Wcd = refl

-- an operation with an INT
with_number : (op : ℤ → Op) (z : ℤ) → IsWithin 0x8000_0000 z → (parse_integer (signed_decimal z) >>= (λ v. Ok (op v))) ≡ Ok (op z)
with_number op z within = ap (λ (r : Result ℤ LineFault). r >>= (λ v. Ok (op v))) (integer_again z within)

module _ {A : Type 0} (m : Parts A) (good : IsChecked m) where
  class_again : (class : ClassId) → class.0 < length m.classes → parse_class m (class_word m class) ≡ Ok class
  class_again class within = ap (λ (o : Option ℕ). ok_or (option_map (λ n. record { 0 = n }) o) Name) (place (λ c. c.name) m.classes class.0 good.class_once within)

  class-spelled : (class : ClassId) → class.0 < length m.classes → is_spelled (class_word m class) ≡ true
  class-spelled class within = name-spelled (class_word m class) (at-name (λ c. c.name) is_name m.classes class.0 good.class_names_are within)

  object_again : (ob : ObjId) → ob.0 < length m.objects → parse_object m (object_word m ob) ≡ Ok ob
  object_again ob within = ap (λ (o : Option ℕ). ok_or (option_map (λ n. record { 0 = n }) o) Name) (place (λ o. o.name) m.objects ob.0 good.object_once within)

  object-spelled : (ob : ObjId) → ob.0 < length m.objects → is_spelled (object_word m ob) ≡ true
  object-spelled ob within = name-spelled (object_word m ob) (at-name (λ o. o.name) is_name m.objects ob.0 good.object_names_are within)

  abbrev done : TxnId → ObjId → Op → Result (Event A) LineFault
  done t ob op = Ok (Operate t ob op)

  operated : (t : TxnId) (ob : ObjId) (op : Op) (parsed : Result Op LineFault) → parsed ≡ Ok op → t.0 ≤ 0xffff → ob.0 < length m.objects
      → (parsed >>= (λ op. parse_txn (txn_word t) >>= (λ t. parse_object m (object_word m ob) >>= (λ object. done t object op)))) ≡ done t ob op
  operated t ob op parsed again small within =
      λ i. (again i) >>= (λ op. (txn_again t small i) >>= (λ t. (object_again ob within i) >>= (λ object. done t object op)))

  do_again : (t : TxnId) (ob : ObjId) (op : Op) → t.0 ≤ 0xffff → ob.0 < length m.objects → IfSome (integer_of op) (IsWithin 0x8000_0000) → parse_event m (event_words m (Operate t ob op)) ≡ Ok (Operate t ob op)
  unfolding parse_event parse_do
  do_again t ob Read small within number = operated t ob Read (Ok Read) refl small within
  do_again t ob Get small within number = operated t ob Get (Ok Get) refl small within
  do_again t ob Size small within number = operated t ob Size (Ok Size) refl small within
  do_again t ob (Write v) small within number = operated t ob (Write v) _ (with_number (λ v. Write v) v number) small within
  do_again t ob (Add v) small within number = operated t ob (Add v) _ (with_number (λ v. Add v) v number) small within
  do_again t ob (Insert v) small within number = operated t ob (Insert v) _ (with_number (λ v. Insert v) v number) small within
  do_again t ob (Remove v) small within number = operated t ob (Remove v) _ (with_number (λ v. Remove v) v number) small within
  do_again t ob (Has v) small within number = operated t ob (Has v) _ (with_number (λ v. Has v) v number) small within

  event_again : (e : Event A) → IsInModel m e → HasRanges e → parse_event m (event_words m e) ≡ Ok e
  unfolding parse_event parse_begin parse_spawn parse_split parse_join parse_delegate parse_form parse_commit parse_abort parse_permit
  event_again (Begin t class) inside ranges =
      λ i. (txn_again t ranges.txns.0 i) >>= (λ t. (class_again class inside.class i) >>= (λ class. Ok (Begin t class)))
  event_again (Spawn t c class) inside ranges =
      λ i. (txn_again t ranges.txns.0 i) >>= (λ t. (txn_again c ranges.txns.1.0 i) >>= (λ c. (class_again class inside.class i) >>= (λ class. Ok (Spawn t c class))))
  event_again (Split t u class ops) inside ranges =
      λ i. (txn_again t ranges.txns.0 i) >>= (λ t. (txn_again u ranges.txns.1.0 i) >>= (λ u. (operations_again ops (each_small ops ranges.operations) ranges.ascending i) >>= (λ ops. (class_again class inside.class i) >>= (λ class. Ok (Split t u class ops)))))
  event_again (Join t u) inside ranges =
      λ i. (txn_again t ranges.txns.0 i) >>= (λ t. (txn_again u ranges.txns.1.0 i) >>= (λ u. Ok (Join t u)))
  event_again (Delegate t u ops) inside ranges =
      λ i. (txn_again t ranges.txns.0 i) >>= (λ t. (txn_again u ranges.txns.1.0 i) >>= (λ u. (operations_again ops (each_small ops ranges.operations) ranges.ascending i) >>= (λ ops. Ok (Delegate t u ops))))
  event_again (Form kind j k) inside ranges =
      λ i. (kind_again kind i) >>= (λ kind. (txn_again j ranges.txns.0 i) >>= (λ j. (txn_again k ranges.txns.1.0 i) >>= (λ k. Ok (Form kind j k))))
  event_again (Operate t ob op) inside ranges = do_again t ob op ranges.txns.0 inside.object ranges.integer
  event_again (Commit t) inside ranges = λ i. (txn_again t ranges.txns.0 i) >>= (λ t. Ok (Commit t))
  event_again (Abort t) inside ranges = λ i. (txn_again t ranges.txns.0 i) >>= (λ t. Ok (Abort t))
  event_again (Permit t u ob) inside ranges =
      λ i. (txn_again t ranges.txns.0 i) >>= (λ t. (txn_again u ranges.txns.1.0 i) >>= (λ u. (object_again ob inside.object i) >>= (λ object. Ok (Permit t u object))))

  operation-spelled : (op : Op) → IfSome (integer_of op) (IsWithin 0x8000_0000) → list_all is_spelled (operation_words op) ≡ true
  operation-spelled Read number = refl
  operation-spelled Get number = refl
  operation-spelled Size number = refl
  operation-spelled (Write v) number = λ i. (integer-spelled 0x8000_0000 v (lit≤ tt) number i) && true
  operation-spelled (Add v) number = λ i. (integer-spelled 0x8000_0000 v (lit≤ tt) number i) && true
  operation-spelled (Insert v) number = λ i. (integer-spelled 0x8000_0000 v (lit≤ tt) number i) && true
  operation-spelled (Remove v) number = λ i. (integer-spelled 0x8000_0000 v (lit≤ tt) number i) && true
  operation-spelled (Has v) number = λ i. (integer-spelled 0x8000_0000 v (lit≤ tt) number i) && true

  event-spelled : (e : Event A) → IsInModel m e → HasRanges e → list_all is_spelled (event_words m e) ≡ true
  event-spelled (Begin t class) inside ranges = λ i. (txn-spelled t ranges.txns.0 i) && ((class-spelled class inside.class i) && true)
  event-spelled (Spawn t c class) inside ranges = λ i. (txn-spelled t ranges.txns.0 i) && ((txn-spelled c ranges.txns.1.0 i) && ((class-spelled class inside.class i) && true))
  event-spelled (Split t u class ops) inside ranges = λ i. (txn-spelled t ranges.txns.0 i) && ((txn-spelled u ranges.txns.1.0 i) && ((class-spelled class inside.class i) && ((operations-spelled ops (each_small ops ranges.operations) i) && true)))
  event-spelled (Join t u) inside ranges = λ i. (txn-spelled t ranges.txns.0 i) && ((txn-spelled u ranges.txns.1.0 i) && true)
  event-spelled (Delegate t u ops) inside ranges = λ i. (txn-spelled t ranges.txns.0 i) && ((txn-spelled u ranges.txns.1.0 i) && ((operations-spelled ops (each_small ops ranges.operations) i) && true))
  event-spelled (Form kind j k) inside ranges = λ i. (kind-spelled kind i) && ((txn-spelled j ranges.txns.0 i) && ((txn-spelled k ranges.txns.1.0 i) && true))
  event-spelled (Operate t ob op) inside ranges = λ i. (txn-spelled t ranges.txns.0 i) && ((object-spelled ob inside.object i) && (operation-spelled op ranges.integer i))
  event-spelled (Commit t) inside ranges = λ i. (txn-spelled t ranges.txns.0 i) && true
  event-spelled (Abort t) inside ranges = λ i. (txn-spelled t ranges.txns.0 i) && true
  event-spelled (Permit t u ob) inside ranges = λ i. (txn-spelled t ranges.txns.0 i) && ((txn-spelled u ranges.txns.1.0 i) && ((object-spelled ob inside.object i) && true))

-- reading the line of an event gives the event
pub event_line_again : {A : Type 0} (m : Parts A) (e : Event A) → lowest_fault m ≡ None → IsInModel m e → HasRanges e → IsReadAgain m e
unfolding event_line
event_line_again m e faultless inside ranges =
    let good = checked m faultless in
    ap (parse_event m) (words_again (event_words m e) (are_words (event_words m e) (event-spelled m good e inside ranges)))
    ∙ event_again m good e inside ranges

not_digit : (c d : ℕ) → c ≤ 57 → 57 < d → (c == d) ≡ false
not_digit c d low high = grind (arith, nat_tests)

not_digits : (ds : List ℕ) (d : ℕ) (rest : List ℕ) → AllDigits 10 ds → 57 < d → bytes_eq ds (d ∷ rest) ≡ false
not_digits [] d rest all high = refl
not_digits (c ∷ cs) d rest all high = ap (λ (t : Bool). t && bytes_eq cs rest) (not_digit c d (digit_from_value c all.0).1 high)

-- a number is not one of the words of returns
not_word : (z : ℤ) (d : ℕ) (rest : List ℕ) → IsWithin 0x8000_0000_0000_0000 z → 57 < d → bytes_eq (signed_decimal z) (d ∷ rest) ≡ false
not_word (pos n) d rest within high = not_digits (decimal n) d rest (decimal_is_IsNumeral n (omega (arith, ints, within.1))).0.1 high
not_word (negsuc n) d rest within high = ap (λ (t : Bool). t && bytes_eq (decimal (suc n)) rest) (not_digit 45 d (lit≤ tt) high)

number_named : (z : ℤ) → IsWithin 0x8000_0000_0000_0000 z → return_named (signed_decimal z) ≡ Some (Value z)
number_named z within =
    λ i. cond (not_word z 100 (codes "one") within (lit< tt) i) (Some Done)
    (cond (not_word z 121 (codes "es") within (lit< tt) i) (Some (Flag true))
    (cond (not_word z 110 (codes "o") within (lit< tt) i) (Some (Flag false))
    (option_map (λ v. Value v) (read_again 0x8000_0000_0000_0000 z (lit≤ tt) within i))))

return_again : (ret : Ret) → HasRange ret → parse_return (return_word ret ∷ []) ≡ Ok ret
unfolding parse_return
return_again Done range = refl
return_again (Flag true) range = refl
return_again (Flag false) range = refl
return_again (Value v) range = ap (λ (o : Option Ret). ok_or o Number) (number_named v range)

return-spelled : (ret : Ret) → HasRange ret → is_spelled (return_word ret) ≡ true
return-spelled Done range = refl
return-spelled (Flag true) range = refl
return-spelled (Flag false) range = refl
return-spelled (Value v) range = integer-spelled 0x8000_0000_0000_0000 v (lit≤ tt) range

-- the sign, which is a word, but not of an event
sign_is_word : IsWord (codes "=")
sign_is_word = record { some = refl; plain = (record { inside = refl; counts = refl }, tt) }

words_and : (a b : List (List ℕ)) → AllByRecursion IsWord a → AllByRecursion IsWord b → AllByRecursion IsWord (a ++ b)
words_and [] b all more = more
words_and (word ∷ a) b all more = (all.0, words_and a b all.1 more)

sign_at : (a b : List (List ℕ)) → list_all is_spelled a ≡ true → position_or_len is_equals (a ++ codes "=" ∷ b) ≡ length a
sign_at [] b all = refl
sign_at (word ∷ a) b all =
    let parts = and_parts (is_spelled word) (list_all is_spelled a) all in
    let one : 1 + length a ≡ suc (length a) = omega arith in
    ap (λ (t : Bool). cond (not t) (1 + position_or_len is_equals (a ++ codes "=" ∷ b)) 0) (no_sign word parts.0)
    ∙ ap (λ (n : ℕ). 1 + n) (sign_at a b parts.1) ∙ one

or_true : (b : Bool) → (b || true) ≡ true
or_true true = refl
or_true false = refl

has_sign : (a b : List (List ℕ)) → list_any is_equals (a ++ codes "=" ∷ b) ≡ true
has_sign [] b = refl
has_sign (word ∷ a) b = ap (λ (t : Bool). is_equals word || t) (has_sign a b) ∙ or_true (is_equals word)

lacks_sign : (a : List (List ℕ)) → list_all is_spelled a ≡ true → list_any is_equals a ≡ false
lacks_sign [] all = refl
lacks_sign (word ∷ a) all =
    let parts = and_parts (is_spelled word) (list_all is_spelled a) all in
    λ i. (no_sign word parts.0 i) || (lacks_sign a parts.1 i)

behind_sign : (a b : List (List ℕ)) → drop (length a + 1) (a ++ codes "=" ∷ b) ≡ b
behind_sign [] b = refl
behind_sign (word ∷ a) b =
    let one : length (word ∷ a) + 1 ≡ suc (length a + 1) = omega arith in
    ap (λ (n : ℕ). drop n (word ∷ (a ++ codes "=" ∷ b))) one ∙ behind_sign a b

module _ {A : Type 0} (m : Parts A) (e : Event A) (faultless : lowest_fault m ≡ None) (inside : IsInModel m e) (ranges : HasRanges e) where
  abbrev words : List (List ℕ)
  words = event_words m e

  parsed_again : parse_event m words ≡ Ok e
  parsed_again = event_again m (checked m faultless) e inside ranges

  spelled : list_all is_spelled words ≡ true
  spelled = event-spelled m (checked m faultless) e inside ranges

  plain_again : kept_of m (kept_line m (record { event = e; ret = None })) ≡ Ok (record { event = e; ret = None })
  unfolding kept_line parse_kept
  plain_again =
      ap (λ (ws : List (List ℕ)). parse_kept m (words_of (line_of ws))) (append-nil words)
      ∙ ap (parse_kept m) (words_again words (are_words words spelled))
      ∙ ap (λ (t : Bool). cond t (both with_return (parse_event m (before_first is_equals words)) (parse_return (after_first is_equals words))) (parse_event m words >>= plain)) (lacks_sign words spelled)
      ∙ ap (λ (r : Result (Event A) LineFault). r >>= plain) parsed_again

  with_return_again : (ret : Ret) → HasRange ret → kept_of m (kept_line m (record { event = e; ret = Some ret })) ≡ Ok (record { event = e; ret = Some ret })
  unfolding kept_line parse_kept
  with_return_again ret range =
      let behind = return_word ret ∷ [] in
      let all = words ++ codes "=" ∷ behind in
      ap (parse_kept m) (words_again all (words_and words (codes "=" ∷ behind) (are_words words spelled) (sign_is_word, (is_word (return_word ret) (return-spelled ret range), tt))))
      ∙ ap (λ (t : Bool). cond t (both with_return (parse_event m (before_first is_equals all)) (parse_return (after_first is_equals all))) (parse_event m all >>= plain)) (has_sign words behind)
      ∙ ap (λ (n : ℕ). both with_return (parse_event m (take n all)) (parse_return (drop (n + 1) all))) (sign_at words behind spelled)
      ∙ (λ i. both with_return (parse_event m (take_at words (codes "=" ∷ behind) _ refl i)) (parse_return (behind_sign words behind i)))
      ∙ (λ i. both with_return (parsed_again i) (return_again ret range i))

kept_again : {A : Type 0} (m : Parts A) (e : Event A) (ret : Option Ret) → lowest_fault m ≡ None → IsInModel m e → HasRanges e → IfSome ret HasRange → IsKeptAgain m (record { event = e; ret = ret })
kept_again m e None faultless inside ranges range = plain_again m e faultless inside ranges
kept_again m e (Some ret) faultless inside ranges range = with_return_again m e faultless inside ranges ret range

-- reading the line of a kept item gives the item
pub kept_line_again : {A : Type 0} (m : Parts A) (kept : Kept A) → lowest_fault m ≡ None → IsInModel m kept.event → HasRanges kept.event → IfSome kept.ret HasRange → IsKeptAgain m kept
kept_line_again m kept faultless inside ranges range = kept_again m kept.event kept.ret faultless inside ranges range
