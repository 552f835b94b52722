use Rattle.std.proofs.Common.{◌≡◌, ◌++◌, drop}
use Rattle.acta_next.specs.Candidates.{in_progress, in_progress_among}
use Rattle.acta_next.proofs.candidates.in_progress.Given as goal

abbrev pub invariant-loop-kept : goal.invariant-loop-kept
invariant-loop-kept g l =
    l.active.items ++ in_progress_among l.machine (drop l.kept-index l.machine.kept) ≡ in_progress l.machine
