use Rattle.acta_words.proofs.SpansOfWords.{IsAt}
use Rattle.acta_words.proofs.spans.word_span.Given as goal

abbrev pub invariant-loop : goal.invariant-loop
invariant-loop l = IsAt l.bytes l.counter l.at
