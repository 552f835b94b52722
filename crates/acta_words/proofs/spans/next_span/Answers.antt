use Rattle.std.proofs.Common.{◌≡◌, ◌≤◌, ◌+◌, drop, length, sym, ap, ◌∙◌, arith}
use Rattle.std.proofs.lemmas.List.{drop-drop, length-drop}
use Rattle.acta_words.proofs.SpansOfWords.{blanks, word_end, no_word, next}
use Rattle.acta_words.proofs.spans.next_span.Goals as goal

pub returns-then-length-eq0-clause-none : goal.returns-then-length-eq0-clause-none
returns-then-length-eq0-clause-none c =
    let bytes = c.args.bytes.now in
    let at = c.args.at in
    let k = c.count_blanks.result in
    let blank : k ≡ blanks (drop at bytes) = c.count_blanks.ensures.count ∙ ap blanks c.bytes_from.ensures in
    let ends : word_end (drop (at + k) bytes) ≡ 0 = sym (c.word_length-length.ensures.length ∙ ap word_end c.bytes_from-2.ensures) ∙ c.if-length-eq0.true in
    no_word (drop at bytes) (ap (λ j. word_end (drop j (drop at bytes))) (sym blank) ∙ ap word_end (drop-drop k at bytes) ∙ ends)

pub returns-clause-some : goal.returns-clause-some
returns-clause-some c =
    let bytes = c.args.bytes.now in
    let at = c.args.at in
    let k = c.count_blanks.result in
    let n = c.word_length-length.result in
    let few : n ≤ length (drop (at + k) bytes) = omega (arith, ap length c.bytes_from-2.ensures) in
    next bytes at k n
    (c.count_blanks.ensures.count ∙ ap blanks c.bytes_from.ensures)
    (c.word_length-length.ensures.length ∙ ap word_end c.bytes_from-2.ensures)
    (omega arith)
    (omega (arith, length-drop (at + k) bytes))
