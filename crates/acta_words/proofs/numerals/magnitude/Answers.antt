use Rattle.std.proofs.Common.{arith}
use Rattle.acta_words.proofs.Digits.{digit_step}
use Rattle.acta_words.proofs.numerals.magnitude.Goals as goal

pub loop-byte-preserved : goal.loop-byte-preserved
loop-byte-preserved c =
    let step = digit_step c.args.digits.now c.loop-byte.byte-index c.loop-byte.value (omega arith) c.requires c.loop-byte.invariant in
    grind (arith, step)
