use Rattle.std.proofs.Common.{◌≡◌, ◌≤◌, ◌+◌, ◌-◌, ◌++◌, map}
use Rattle.std.specs.List.{range_with_len}
use Rattle.acta_tool.specs.Driving.{script_of, scripts_of}
use Rattle.acta_tool.proofs.drive.scripts_of.Given as goal

-- the scripts so far, before those of the seats that are left
abbrev pub invariant-loop-k : goal.invariant-loop-k
invariant-loop-k g l = record {
  made : l.scripts.items ++ map (script_of l.parsed) (range_with_len (l.k + 1) (l.workers - l.k)) ≡ scripts_of l.workers l.parsed;
  within : l.k ≤ l.workers;
}
