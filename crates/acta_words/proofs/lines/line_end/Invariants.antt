use Rattle.std.proofs.Common.{◌≡◌, ℕ, ◌<◌, get_or, false}
use Rattle.acta_words.specs.Text.{is_line_feed}
use Rattle.acta_words.proofs.lines.line_end.Given as goal

-- no byte so far is a line feed
abbrev pub invariant-loop-i : goal.invariant-loop-i
invariant-loop-i l = (k : ℕ) → k < l.i → is_line_feed (get_or l.text k 0) ≡ false
