use Rattle.std.proofs.Common.{◌≡◌, ℕ, ◌-◌, ◌<◌, ◌≤◌, true}
use Rattle.acta_table.specs.declared.limits.TheConstants.{LAST_TXN}
use Rattle.acta_machine.specs.Table.{status_in}
use Rattle.acta_next.specs.Candidates.{has_begun}
use Rattle.acta_next.proofs.unused.first_unused.Given as goal

-- all numbers before this one are used
abbrev pub invariant-loop-number : goal.invariant-loop-number
invariant-loop-number g l =
    record {
      from : 1 ≤ l.number;
      to : l.number ≤ LAST_TXN;
      used : (t : ℕ) → 1 ≤ t → t < l.number → has_begun (status_in l.machine t) ≡ true;
    }

abbrev pub decreases-loop-number : goal.decreases-loop-number
decreases-loop-number g l = LAST_TXN - l.number
