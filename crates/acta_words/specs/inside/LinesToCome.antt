-- The lines that an iterator has not yet returned.
use Rattle.std.specs.Prelude.{ℕ, List, []}
use Rattle.std.specs.Option.{option_map_or}
use Rattle.acta_words.specs.declared.lines.Lines.{Lines}
use Rattle.acta_words.specs.Text.{lines_of}

abbrev pub lines_to_come : Lines → List (List ℕ)
lines_to_come lines = option_map_or (λ text. lines_of text.now) lines.rest []
