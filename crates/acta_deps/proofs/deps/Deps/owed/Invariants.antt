use Rattle.std.proofs.Common.{◌≡◌, ◌≤◌, ◌+◌, ◌++◌, length, drop}
use Rattle.acta_table.specs.declared.limits.TheConstants.{MOST_EDGES}
use Rattle.acta_deps.specs.Deps.{status_of}
use Rattle.acta_deps.specs.Debts.{owed_from}
use Rattle.acta_deps.proofs.deps.Deps.owed.Given as goal

-- the debts so far, and those of what is left, are all
abbrev pub invariant-loop-e : goal.invariant-loop-e
invariant-loop-e g l =
    record {
      count : l.number ≡ l.e-index;
      few : length l.edges ≤ MOST_EDGES;
      rest : l.owed.items ++ owed_from (status_of l.self) (l.number + 1) (drop l.e-index l.edges) ≡ owed_from (status_of l.self) 1 l.edges;
    }
