use Rattle.std.proofs.Common.{◌≡◌, ◌++◌, drop}
use Rattle.acta_words.specs.Text.{text_of}
use Rattle.acta_trace.specs.States.{value_lines, value_lines_from}
use Rattle.acta_trace.proofs.state.push_value_lines.Given as goal

abbrev pub invariant-loop-number : goal.invariant-loop-number
invariant-loop-number g l =
    l.text.items ++ text_of (value_lines_from l.machine l.number (drop l.number l.machine.model.objects)) ≡ l.initial.text.items ++ text_of (value_lines l.machine)
