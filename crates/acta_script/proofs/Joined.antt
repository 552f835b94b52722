-- Numbers that are read or written in sequence.
use Rattle.std.proofs.Common.{◌≡◌, ℕ, List, [], ◌∷◌, ◌++◌, map, decimal, length, get_or, take, drop, ◌≤◌, ◌-◌, arith, Option, option_map, sym, ap, ◌∙◌}
use Rattle.std.specs.List.{join_with_byte, flat_map}
use Rattle.std.proofs.lemmas.List.{append-nil, take_all}
use Rattle.acta_table.specs.declared.event.OpNo.{OpNo}
use Rattle.acta_table.specs.Sets.{numbers_of, numbered}
use Rattle.acta_script.specs.Writing.{operations_word}

-- the operations so far, combined with those of the remaining words
abbrev pub with_left : List OpNo → Option (List ℕ) → Option (List OpNo)
with_left ops left = option_map (λ ns. ops ++ numbered ns) left

-- some numbers, each after a comma
abbrev pub behind_commas : List OpNo → List ℕ
behind_commas ops = flat_map (λ op. 44 ∷ decimal op.0) ops

joined : (w : List ℕ) (ops : List OpNo) → join_with_byte 44 (w ∷ map decimal (numbers_of ops)) ≡ w ++ behind_commas ops
joined w [] = sym (append-nil w)
joined w (op ∷ ops) = ap (λ t. w ++ 44 ∷ t) (joined (decimal op.0) ops)

-- the word of a set that has a first number
pub word-joined : (op : OpNo) (ops : List OpNo) → operations_word (op ∷ ops) ≡ decimal op.0 ++ behind_commas ops
word-joined op ops = joined (decimal op.0) ops

-- the same, from the parts of a slice
pub word-parts : (ops : List OpNo) → 1 ≤ length ops → operations_word ops ≡ decimal (get_or ops 0 record { 0 = 0 }).0 ++ behind_commas (take (length ops - 1) (drop 1 ops))
word-parts [] some = absurd (omega arith)
word-parts (op ∷ ops) some =
    word-joined op ops ∙ ap (λ (os : List OpNo). decimal op.0 ++ behind_commas os) (sym (take_all (length (op ∷ ops) - 1) ops (omega arith)))
