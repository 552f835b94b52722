use Rattle.std.proofs.Common.{◌≡◌, ◌++◌, drop, map}
use Rattle.acta_script.specs.Writing.{kept_line}
use Rattle.acta_shell.proofs.pictured.kept_lines.Given as goal

-- the lines so far, and those of the rest, are all
abbrev pub invariant-loop-kept : goal.invariant-loop-kept
invariant-loop-kept g l =
    map (λ line. line.items) l.lines.items ++ map (kept_line l.machine.model) (drop l.kept-index l.machine.kept) ≡ map (kept_line l.machine.model) l.machine.kept
