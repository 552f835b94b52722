use Rattle.std.proofs.Common.{◌≡◌, ◌++◌, map, take}
use Rattle.acta_shell.specs.Pictures.{numbered_from}
use Rattle.acta_shell.proofs.pictured.push_all.Given as goal

-- the lines so far
abbrev pub invariant-loop-i : goal.invariant-loop-i
invariant-loop-i g l = l.text.items ≡ l.initial.text.items ++ numbered_from 1 (map (λ line. line.items) (take l.i l.lines))
