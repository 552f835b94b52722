use Rattle.std.proofs.Common.{◌≡◌, ◌++◌, map, drop}
use Rattle.acta_words.specs.Text.{text_of}
use Rattle.std.specs.Prelude.{option_map}
use Rattle.acta_explore.specs.inside.Shown.{shown_value}
use Rattle.acta_ends.specs.EndLines.{lines_from, value_lines}
use Rattle.acta_ends.proofs.states.push_values.Given as goal

-- what is written, with what is left, is what is wanted
abbrev pub invariant-loop-place : goal.invariant-loop-place
invariant-loop-place g l =
    l.text.items ++ text_of (lines_from (value_lines l.model) l.place (map (option_map shown_value) (drop l.place l.values))) ≡ l.initial.text.items ++ text_of (lines_from (value_lines l.model) 0 (map (option_map shown_value) l.values))
