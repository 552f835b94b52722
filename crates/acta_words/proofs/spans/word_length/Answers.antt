use Rattle.std.proofs.Common.{length, sym, arith, rules}
use Rattle.std.proofs.lemmas.List.Sums.{position_or_len_is}
use Rattle.acta_words.specs.Text.{is_blank}
use Rattle.acta_words.proofs.spans.word_length.Goals as goal

pub returns-then-is_blank-clause-length : goal.returns-then-is_blank-clause-length
returns-then-is_blank-clause-length c =
    sym (position_or_len_is is_blank c.args.bytes.now c.loop-i.i 0 (omega arith) c.loop-i.invariant (λ h. search rules))

pub returns-clause-length : goal.returns-clause-length
returns-clause-length c =
    sym (position_or_len_is is_blank c.args.bytes.now (length c.args.bytes.now) 0 (omega arith) (λ k lt. c.loop-i.invariant k (omega arith)) (λ h. absurd (omega arith)))
