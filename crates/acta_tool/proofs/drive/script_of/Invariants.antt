use Rattle.std.proofs.Common.{◌≡◌, ◌++◌, drop}
use Rattle.acta_tool.specs.Driving.{script_of}
use Rattle.acta_tool.proofs.drive.script_of.Given as goal

-- the events so far, before those of the lines that are left
abbrev pub invariant-loop-one : goal.invariant-loop-one
invariant-loop-one g l = l.events.items ++ script_of (drop l.one-index l.parsed) l.seat ≡ script_of l.parsed l.seat
