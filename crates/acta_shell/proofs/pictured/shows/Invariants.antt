use Rattle.std.proofs.Common.{map, take}
use Rattle.acta_shell.specs.Pictures.{Leads, pieces_from}
use Rattle.acta_shell.proofs.pictured.shows.Given as goal

-- the lines so far
abbrev pub invariant-loop-i : goal.invariant-loop-i
invariant-loop-i g l = Leads (pieces_from 1 (map (λ line. line.items) (take l.i l.lines))) l.text l.rest
