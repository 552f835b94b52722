use Rattle.std.proofs.Common.{◌≡◌, ◌++◌, map, drop}
use Rattle.acta_script.specs.Answers.{owed_line}
use Rattle.acta_words.specs.Text.{text_of}
use Rattle.acta_trace.proofs.state.push_owed_lines.Given as goal

abbrev pub invariant-loop-one : goal.invariant-loop-one
invariant-loop-one g l =
    l.text.items ++ text_of (map owed_line (drop l.one-index l.owed)) ≡ l.initial.text.items ++ text_of (map owed_line l.owed)
