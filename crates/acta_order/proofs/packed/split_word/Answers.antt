use Rattle.std.proofs.Common.{arith, sym}
use Rattle.std.proofs.lemmas.List.{take_all, drop_all}
use Rattle.acta_order.proofs.packed.split_word.Goals as goal

pub returns-then-marks-lt64-clause-first : goal.returns-then-marks-lt64-clause-first
returns-then-marks-lt64-clause-first c = sym (take_all 64 c.args.marks.now (omega (arith, c.if-marks-lt64.true)))

pub returns-then-marks-lt64-clause-behind : goal.returns-then-marks-lt64-clause-behind
returns-then-marks-lt64-clause-behind c = sym (drop_all 64 c.args.marks.now (omega (arith, c.if-marks-lt64.true)))
