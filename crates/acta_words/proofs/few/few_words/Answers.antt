use Rattle.std.proofs.Common.{ap, arith, length}
use Rattle.acta_words.proofs.few.few_words.Goals as goal

pub loop-span-smaller : goal.loop-span-smaller
loop-span-smaller c = let fewer = ap length c.in-Some.ensures.some.word in omega (arith, fewer)
