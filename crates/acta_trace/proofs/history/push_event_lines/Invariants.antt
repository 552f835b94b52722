use Rattle.std.proofs.Common.{◌≡◌, ◌++◌, map, drop}
use Rattle.acta_trace.specs.Lines.{event_line_in}
use Rattle.acta_words.specs.Text.{text_of}
use Rattle.acta_trace.proofs.history.push_event_lines.Given as goal

abbrev pub invariant-loop-kept : goal.invariant-loop-kept
invariant-loop-kept g l =
    l.text.items ++ text_of (map (event_line_in l.machine.model) (drop l.kept-index l.machine.kept)) ≡ l.initial.text.items ++ text_of (map (event_line_in l.machine.model) l.machine.kept)
