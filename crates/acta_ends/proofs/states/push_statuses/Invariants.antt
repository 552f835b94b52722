use Rattle.std.proofs.Common.{◌≡◌, ◌++◌, map, drop}
use Rattle.acta_words.specs.Text.{text_of}
use Rattle.acta_ends.specs.EndLines.{status_line}
use Rattle.acta_ends.proofs.states.push_statuses.Given as goal

-- what is written, with what is left, is what is wanted
abbrev pub invariant-loop-status : goal.invariant-loop-status
invariant-loop-status g l =
    l.text.items ++ text_of (map status_line (drop l.status-index l.statuses)) ≡ l.initial.text.items ++ text_of (map status_line l.statuses)
