use Rattle.std.proofs.Common.{length, sym, arith, rules}
use Rattle.std.proofs.lemmas.List.Sums.{position_or_len_is}
use Rattle.acta_words.specs.Text.{is_mark}
use Rattle.acta_words.proofs.words.comment_at.Goals as goal

pub returns-then-byte-eq35 : goal.returns-then-byte-eq35
returns-then-byte-eq35 c = sym (position_or_len_is is_mark c.args.line.now c.loop-i.i 0 (omega arith) c.loop-i.invariant (λ h. search rules))

pub returns : goal.returns
returns c = sym (position_or_len_is is_mark c.args.line.now (length c.args.line.now) 0 (omega arith) (λ k lt. c.loop-i.invariant k (omega arith)) (λ h. absurd (omega arith)))
