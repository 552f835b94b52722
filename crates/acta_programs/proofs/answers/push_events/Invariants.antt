use Rattle.std.proofs.Common.{◌≡◌, ◌++◌, map, drop}
use Rattle.acta_words.specs.Text.{text_of}
use Rattle.acta_programs.specs.Answers.{kept_event_line}
use Rattle.acta_programs.proofs.answers.push_events.Given as goal

-- the lines so far, and the rest
abbrev pub invariant-loop-kept : goal.invariant-loop-kept
invariant-loop-kept g l =
    l.text.items ++ text_of (map (kept_event_line l.machine.model) (drop l.kept-index l.machine.kept))
    ≡ l.initial.text.items ++ text_of (map (kept_event_line l.machine.model) l.machine.kept)
