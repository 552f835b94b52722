use Rattle.std.proofs.Common.{◌≡◌, ℕ, ◌<◌, get_or, false}
use Rattle.acta_words.specs.Text.{is_blank}
use Rattle.acta_words.proofs.spans.word_length.Given as goal

-- each byte so far is no blank
abbrev pub invariant-loop-i : goal.invariant-loop-i
invariant-loop-i l = (k : ℕ) → k < l.i → is_blank (get_or l.bytes k 0) ≡ false
