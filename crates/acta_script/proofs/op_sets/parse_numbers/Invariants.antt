use Rattle.std.proofs.Common.{◌≡◌, map, drop, ok_or}
use Rattle.acta_words.specs.Numerals.{read_natural}
use Rattle.acta_words.specs.Text.{each_read}
use Rattle.acta_script.specs.declared.fault.LineFault.TheVariants.{Number}
use Rattle.acta_script.specs.Reading.{parse_numbers}
use Rattle.acta_script.proofs.Joined.{with_left}
use Rattle.acta_script.proofs.op_sets.parse_numbers.Given as goal

-- the numbers so far, combined with the rest, are all numbers
abbrev pub invariant-loop-part : goal.invariant-loop-part
invariant-loop-part g l =
    ok_or (with_left l.ops.items (each_read (read_natural 0xffff_ffff) (map (λ part. part.now) (drop l.part-index l.part-items)))) Number ≡ parse_numbers l.word
