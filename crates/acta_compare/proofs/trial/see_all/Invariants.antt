use Rattle.std.proofs.Common.{◌≡◌, ◌++◌, length}
use Rattle.acta_words.specs.inside.LinesToCome.{lines_to_come}
use Rattle.acta_compare.specs.inside.Lines.{seen_from, state_from}
use Rattle.acta_compare.proofs.trial.see_all.Given as goal

-- what was seen so far, before what the lines that are left show, and where these lead to
abbrev pub invariant-loop-line : goal.invariant-loop-line
invariant-loop-line g l = record {
  seen : l.seen.items ++ seen_from l.machine (lines_to_come l.lines) ≡ seen_from l.fn.machine (lines_to_come l.initial.lines);
  state : state_from l.machine (lines_to_come l.lines) ≡ state_from l.fn.machine (lines_to_come l.initial.lines);
}

abbrev pub decreases-loop-line : goal.decreases-loop-line
decreases-loop-line g l = length (lines_to_come l.lines)
