-- Locations of words in a line.
use Rattle.std.specs.Prelude.{◌≡◌, ℕ, ◌<◌, ◌≤◌, List, length, take, slice_get, slice_range, Some}
use Rattle.acta_words.specs.declared.spans.Span.{Span}
use Rattle.acta_words.specs.Text.{words_of}

-- the span of word number `place`, from 0: exactly the earlier words precede the span, and its bytes are the word
pub record IsSpanOf (line : List ℕ) (place : ℕ) (span : Span) : Type 0 where
  pub before : words_of (take span.from line) ≡ take place (words_of line)
  pub word : slice_get (words_of line) place ≡ Some (slice_range line span.from span.to)
  pub some : span.from < span.to
  pub within : span.to ≤ length line
