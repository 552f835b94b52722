use Rattle.std.proofs.Common.{◌≡◌, take}
use Rattle.acta_explore.specs.Histories.{programs_after}
use Rattle.acta_programs.proofs.from.lines_after.Given as goal

-- the lines of the history, and those of the seats so far
abbrev pub invariant-loop-line : goal.invariant-loop-line
invariant-loop-line g l = l.all.items ≡ programs_after l.machine (take l.line-index l.lines)
