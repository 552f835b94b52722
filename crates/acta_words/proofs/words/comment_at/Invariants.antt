use Rattle.std.proofs.Common.{◌≡◌, ℕ, ◌<◌, get_or, false}
use Rattle.acta_words.specs.Text.{is_mark}
use Rattle.acta_words.proofs.words.comment_at.Given as goal

-- no byte so far begins a comment
abbrev pub invariant-loop-i : goal.invariant-loop-i
invariant-loop-i l = (k : ℕ) → k < l.i → is_mark (get_or l.line k 0) ≡ false
