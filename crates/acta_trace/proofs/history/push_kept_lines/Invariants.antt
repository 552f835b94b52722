use Rattle.std.proofs.Common.{◌≡◌, ◌++◌, map, drop}
use Rattle.acta_script.specs.Writing.{kept_line}
use Rattle.acta_words.specs.Text.{text_of}
use Rattle.acta_trace.proofs.history.push_kept_lines.Given as goal

abbrev pub invariant-loop-kept : goal.invariant-loop-kept
invariant-loop-kept g l =
    l.text.items ++ text_of (map (kept_line l.machine.model) (drop l.kept-index l.machine.kept)) ≡ l.initial.text.items ++ text_of (map (kept_line l.machine.model) l.machine.kept)
