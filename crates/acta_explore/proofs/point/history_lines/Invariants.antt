use Rattle.std.proofs.Common.{◌≡◌, map, take}
use Rattle.acta_explore.specs.Histories.{history_line}
use Rattle.acta_explore.proofs.point.history_lines.Given as goal

-- the lines so far
abbrev pub invariant-loop-kept : goal.invariant-loop-kept
invariant-loop-kept g l = l.lines.items ≡ map history_line (take l.kept-index l.history)
