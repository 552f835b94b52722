use Rattle.std.proofs.Common.{length, sym, arith, rules}
use Rattle.std.proofs.lemmas.List.Sums.{position_or_len_is}
use Rattle.acta_words.specs.Text.{is_line_feed}
use Rattle.acta_words.proofs.lines.line_end.Goals as goal

pub returns-then-byte-eq10-clause-at : goal.returns-then-byte-eq10-clause-at
returns-then-byte-eq10-clause-at c = sym (position_or_len_is is_line_feed c.args.text.now c.loop-i.i 0 (omega arith) c.loop-i.invariant (λ h. search rules))

pub returns-clause-at : goal.returns-clause-at
returns-clause-at c = sym (position_or_len_is is_line_feed c.args.text.now (length c.args.text.now) 0 (omega arith) (λ k lt. c.loop-i.invariant k (omega arith)) (λ h. absurd (omega arith)))
