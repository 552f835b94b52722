use Rattle.std.proofs.Common.{◌+◌, sym, ◌∙◌, arith}
use Rattle.acta_script.proofs.WordsLeft.{none_left}
use Rattle.acta_script.proofs.diagnosis.wrong_word.Goals as goal

pub returns : goal.returns
returns g c =
    sym (none_left c.args.model.now c.args.fault (c.args.n + c.loop-i.i) (λ word. word.now) c.args.parts.now c.args.words.now c.loop-i.i (omega arith))
    ∙ c.loop-i.invariant
