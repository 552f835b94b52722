-- Reading a written set of operations gives it back.
use Rattle.std.proofs.Common.{◌≡◌, ◌≤◌, ◌<◌, ℕ, Bool, true, false, ◌&&◌, cond, ◌==◌, nat_le, List, [], ◌∷◌, ◌++◌, map, length, decimal, codes, Option, Some, option_map, option_and_then, ok_or, Result, Ok, refl, ap, ◌∙◌, arith, length-append}
use Rattle.std.specs.List.{AllByRecursion, list_all, slice_split, onto_first}
use Rattle.std.specs.List.Sorted.{IsStrictlySortedBy}
use Rattle.std.specs.Ordering.{nat_cmp}
use Rattle.std.specs.Str.{bytes_eq}
use Rattle.std.specs.Str.Parse.{AllDigits}
use Rattle.std.proofs.lemmas.Bool.{and_from, and_parts, leb-true}
use Rattle.std.proofs.lemmas.Bool.Decides.{nat_tests}
use Rattle.std.proofs.lemmas.Fmt.{decimal_is_IsNumeral}
use Rattle.std.proofs.lemmas.List.{append-nil}
use Rattle.std.proofs.lemmas.List.Folds.{list_all-append}
use Rattle.std.proofs.lemmas.Str.Parse.{digit_from_value}
use Rattle.acta_words.specs.Numerals.{read_natural}
use Rattle.acta_words.specs.Text.{each_read}
use Rattle.acta_words.proofs.NumeralsAgain.{natural_again}
use Rattle.acta_table.specs.declared.event.OpNo.{OpNo}
use Rattle.acta_table.specs.Numbered.{ascending}
use Rattle.acta_table.specs.Sets.{numbers_of, numbered, each_once}
use Rattle.acta_table.proofs.OpSets.{numbers-numbered}
use Rattle.acta_script.specs.declared.fault.LineFault.{LineFault}
use Rattle.acta_script.specs.declared.fault.LineFault.TheVariants.{Number}
use Rattle.acta_script.specs.Reading.{◌>>=◌, parse_numbers, parse_operations}
use Rattle.acta_script.specs.Writing.{operations_word}
use Rattle.acta_script.proofs.Ascending.{ascending-sorted}
use Rattle.acta_script.proofs.Joined.{behind_commas, word-joined}
use Rattle.acta_script.proofs.Spelled.{is_inside, is_spelled, decimal-inside, some_byte}

-- the numbers are of 32 bits
abbrev pub AreSmall : List OpNo → Type 0
AreSmall ops = AllByRecursion (λ o. o.0 ≤ 0xffff_ffff) ops

pub each_small : (ops : List OpNo) → list_all (λ o. nat_le o.0 0xffff_ffff) ops ≡ true → AreSmall ops
each_small [] all = tt
each_small (op ∷ ops) all =
    let parts = and_parts (nat_le op.0 0xffff_ffff) (list_all (λ o. nat_le o.0 0xffff_ffff) ops) all in
    (leb-true op.0 0xffff_ffff parts.0, each_small ops parts.1)

abbrev is_comma : ℕ → Bool
is_comma b = b == 44

abbrev HasNoComma : List ℕ → Type 0
HasNoComma bs = AllByRecursion (λ b. is_comma b ≡ false) bs

split_before : (bs rest : List ℕ) → HasNoComma bs → slice_split is_comma (bs ++ 44 ∷ rest) ≡ bs ∷ slice_split is_comma rest
split_before [] rest all = refl
split_before (b ∷ bs) rest all =
    ap (λ (f : Bool). cond f ([] ∷ slice_split is_comma (bs ++ 44 ∷ rest)) (onto_first b (slice_split is_comma (bs ++ 44 ∷ rest)))) all.0
    ∙ ap (onto_first b) (split_before bs rest all.1)

split_alone : (bs : List ℕ) → HasNoComma bs → slice_split is_comma bs ≡ bs ∷ []
split_alone [] all = refl
split_alone (b ∷ bs) all =
    ap (λ (f : Bool). cond f ([] ∷ slice_split is_comma bs) (onto_first b (slice_split is_comma bs))) all.0
    ∙ ap (onto_first b) (split_alone bs all.1)

no_comma : (c : ℕ) → 48 ≤ c → is_comma c ≡ false
no_comma c low = grind (arith, nat_tests)

no_commas : (ds : List ℕ) → AllDigits 10 ds → HasNoComma ds
no_commas [] all = tt
no_commas (c ∷ cs) all = (no_comma c (digit_from_value c all.0).0, no_commas cs all.1)

no_minus : (c : ℕ) → 48 ≤ c → (c == 45) ≡ false
no_minus c low = grind (arith, nat_tests)

not_minus : (ds rest : List ℕ) → AllDigits 10 ds → 0 < length ds → bytes_eq (ds ++ rest) (codes "-") ≡ false
not_minus [] rest all some = absurd (omega arith)
not_minus (c ∷ cs) rest all some = ap (λ (t : Bool). t && bytes_eq (cs ++ rest) []) (no_minus c (digit_from_value c all.0).0)

digits_of : (n : ℕ) → n ≤ 0xffff_ffff → AllDigits 10 (decimal n)
digits_of n small = (decimal_is_IsNumeral n (omega arith)).0.1

parts_again : (word : List ℕ) (ops : List OpNo) → HasNoComma word → AreSmall ops → slice_split is_comma (word ++ behind_commas ops) ≡ word ∷ map decimal (numbers_of ops)
parts_again word [] plain small = ap (slice_split is_comma) (append-nil word) ∙ split_alone word plain
parts_again word (op ∷ ops) plain small =
    split_before word (decimal op.0 ++ behind_commas ops) plain
    ∙ ap (λ (parts : List (List ℕ)). word ∷ parts) (parts_again (decimal op.0) ops (no_commas (decimal op.0) (digits_of op.0 small.0)) small.1)

each_again : (ops : List OpNo) → AreSmall ops → each_read (read_natural 0xffff_ffff) (map decimal (numbers_of ops)) ≡ Some (numbers_of ops)
each_again [] small = refl
each_again (op ∷ ops) small =
    ap (option_and_then (λ n. option_map (λ ns. n ∷ ns) (each_read (read_natural 0xffff_ffff) (map decimal (numbers_of ops))))) (natural_again 0xffff_ffff op.0 small.0 (omega (arith, small.0)))
    ∙ ap (option_map (λ ns. op.0 ∷ ns)) (each_again ops small.1)

numbered-numbers : (ops : List OpNo) → numbered (numbers_of ops) ≡ ops
numbered-numbers [] = refl
numbered-numbers (op ∷ ops) = ap (λ (os : List OpNo). op ∷ os) (numbered-numbers ops)

once : (ops : List OpNo) → IsStrictlySortedBy nat_cmp (numbers_of ops) → each_once (numbered (numbers_of ops)) ≡ ops
once ops sorted =
    ap (λ (ns : List ℕ). numbered (ascending ns)) (numbers-numbered (numbers_of ops))
    ∙ ap numbered (ascending-sorted (numbers_of ops) sorted)
    ∙ numbered-numbers ops

numbers_again : (op : OpNo) (ops : List OpNo) → AreSmall (op ∷ ops) → parse_numbers (decimal op.0 ++ behind_commas ops) ≡ Ok (numbered (numbers_of (op ∷ ops)))
numbers_again op ops small =
    ap (λ (parts : List (List ℕ)). ok_or (option_map numbered (each_read (read_natural 0xffff_ffff) parts)) Number) (parts_again (decimal op.0) ops (no_commas (decimal op.0) (digits_of op.0 small.0)) small.1)
    ∙ ap (λ (read : Option (List ℕ)). ok_or (option_map numbered read) Number) (each_again (op ∷ ops) small)

pub operations_again : (ops : List OpNo) → AreSmall ops → IsStrictlySortedBy nat_cmp (numbers_of ops) → parse_operations (operations_word ops) ≡ Ok ops
operations_again [] small sorted = refl
operations_again (op ∷ ops) small sorted =
    let word = decimal op.0 ++ behind_commas ops in
    let numeral = decimal_is_IsNumeral op.0 (omega (arith, small.0)) in
    ap parse_operations (word-joined op ops)
    ∙ ap (λ (b : Bool). cond b (Ok []) (parse_numbers word >>= (λ os. Ok (each_once os)))) (not_minus (decimal op.0) (behind_commas ops) numeral.0.1 numeral.0.0)
    ∙ ap (λ (r : Result (List OpNo) LineFault). r >>= (λ os. Ok (each_once os))) (numbers_again op ops small)
    ∙ ap Ok (once (op ∷ ops) sorted)

behind-inside : (ops : List OpNo) → AreSmall ops → list_all is_inside (behind_commas ops) ≡ true
behind-inside [] small = refl
behind-inside (op ∷ ops) small =
    list_all-append is_inside (decimal op.0) (behind_commas ops) ∙ and_from _ _ (decimal-inside op.0 (omega (arith, small.0))) (behind-inside ops small.1)

pub operations-spelled : (ops : List OpNo) → AreSmall ops → is_spelled (operations_word ops) ≡ true
operations-spelled [] small = refl
operations-spelled (op ∷ ops) small =
    let numeral = decimal_is_IsNumeral op.0 (omega (arith, small.0)) in
    ap is_spelled (word-joined op ops)
    ∙ and_from _ _ (some_byte (decimal op.0 ++ behind_commas ops) (omega (arith, numeral.0.0, length-append (decimal op.0) (behind_commas ops))))
    (list_all-append is_inside (decimal op.0) (behind_commas ops) ∙ and_from _ _ (decimal-inside op.0 (omega (arith, small.0))) (behind-inside ops small.1))
