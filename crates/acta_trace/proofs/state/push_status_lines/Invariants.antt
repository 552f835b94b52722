use Rattle.std.proofs.Common.{◌≡◌, ◌++◌, drop}
use Rattle.acta_words.specs.Text.{text_of}
use Rattle.acta_trace.specs.States.{status_lines, status_lines_of}
use Rattle.acta_trace.proofs.state.push_status_lines.Given as goal

abbrev pub invariant-loop-kept : goal.invariant-loop-kept
invariant-loop-kept g l =
    l.text.items ++ text_of (status_lines_of l.machine (drop l.kept-index l.machine.kept)) ≡ l.initial.text.items ++ text_of (status_lines l.machine)
