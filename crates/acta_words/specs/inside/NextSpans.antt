-- The spans of successive words.
use Rattle.std.specs.Prelude.{◌≡◌, ℕ, ◌<◌, ◌≤◌, ◌==◌, not, List, ◌∷◌, ◌++◌, filter, length, take, drop, slice_range}
use Rattle.std.specs.List.{slice_split}
use Rattle.acta_words.specs.declared.spans.Span.{Span}
use Rattle.acta_words.specs.Text.{is_blank}

-- the words of bytes that have no comment
abbrev pub words_between : List ℕ → List (List ℕ)
words_between bytes = filter (λ word. not (length word == 0)) (slice_split is_blank bytes)

-- no word crosses this position
abbrev pub IsCut : List ℕ → ℕ → Type 0
IsCut bytes at = words_between bytes ≡ words_between (take at bytes) ++ words_between (drop at bytes)

-- the span of the first word at or after position `at`
pub record IsNextSpan (bytes : List ℕ) (at : ℕ) (span : Span) : Type 0 where
  pub before : words_between (take span.from bytes) ≡ words_between (take at bytes)
  pub word : words_between (drop at bytes) ≡ slice_range bytes span.from span.to ∷ words_between (drop span.to bytes)
  pub cut : IsCut bytes span.to
  pub some : span.from < span.to
  pub within : span.to ≤ length bytes
