use Rattle.std.proofs.Common.{◌≡◌, ◌++◌, drop}
use Rattle.acta_machine.specs.Table.{edges_in}
use Rattle.acta_words.specs.Text.{text_of}
use Rattle.acta_trace.specs.States.{edge_lines, edge_lines_from}
use Rattle.acta_trace.proofs.state.push_edge_lines.Given as goal

abbrev pub invariant-loop-place : goal.invariant-loop-place
invariant-loop-place g l =
    l.text.items ++ text_of (edge_lines_from l.t l.place (drop l.place (edges_in l.machine))) ≡ l.initial.text.items ++ text_of (edge_lines l.machine l.t)
