use Rattle.std.proofs.Common.{◌≡◌, ◌+◌, ◌++◌, drop, flat_map}
use Rattle.std.specs.Prelude.{filter_map, option_map}
use Rattle.std.specs.List.{enumerate_from}
use Rattle.acta_axioms.specs.Legal.{debt_in, owed_on}
use Rattle.acta_judge.specs.Broken.{edge_faults}
use Rattle.acta_judge.proofs.edges.Stretch.report.Given as goal

-- the faults and the debts so far, with those by the edges ahead, are all
abbrev pub invariant-loop-e : goal.invariant-loop-e
invariant-loop-e g l =
    record {
      counted : l.number ≡ l.initial.number + l.e-index;
      reported : l.faults.items ++ flat_map (edge_faults l.walk.front) (enumerate_from l.number (drop l.e-index l.edges)) ≡ flat_map (edge_faults l.walk.front) l.self;
      rest : l.owed.items ++ filter_map (λ e. option_map (owed_on e) (debt_in l.walk.front e.1)) (enumerate_from l.number (drop l.e-index l.edges)) ≡ filter_map (λ e. option_map (owed_on e) (debt_in l.walk.front e.1)) l.self;
    }
