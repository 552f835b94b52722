use Rattle.std.proofs.Common.{arith}
use Rattle.acta_words.proofs.SpansOfWords.{is_span_if}
use Rattle.acta_words.proofs.spans.word_span.Goals as goal

pub returns-clause-some : goal.returns-clause-some
returns-clause-some c =
    is_span_if c.args.line.now c.without_comment-bytes.result.now c.args.place c.loop.counter c.loop.at _ c.without_comment-bytes.ensures (omega arith) c.loop.invariant c.next_span-2.ensures.some
