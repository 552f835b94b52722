use Rattle.std.proofs.Common.{not, length, sym, ap, arith, rules}
use Rattle.std.proofs.lemmas.List.Sums.{position_or_len_is}
use Rattle.acta_words.specs.Text.{is_blank}
use Rattle.acta_words.proofs.spans.count_blanks.Goals as goal

pub returns-then-not-is_blank-clause-count : goal.returns-then-not-is_blank-clause-count
returns-then-not-is_blank-clause-count c =
    sym (position_or_len_is (λ b. not (is_blank b)) c.args.bytes.now c.loop-i.i 0 (omega arith) (λ k lt. ap not (c.loop-i.invariant k lt)) (λ h. search rules))

pub returns-clause-count : goal.returns-clause-count
returns-clause-count c =
    sym (position_or_len_is (λ b. not (is_blank b)) c.args.bytes.now (length c.args.bytes.now) 0 (omega arith) (λ k lt. ap not (c.loop-i.invariant k (omega arith))) (λ h. absurd (omega arith)))
