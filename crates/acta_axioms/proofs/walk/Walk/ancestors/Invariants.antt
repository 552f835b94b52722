use Rattle.std.proofs.Common.{◌≡◌, ◌-◌, length, map, fold}
use Rattle.std.specs.BTreeSet.{insert_key}
use Rattle.std.specs.Ordering.{nat_cmp}
use Rattle.acta_table.specs.Ancestors.{ancestors_from}
use Rattle.acta_table.specs.Numbered.{ascending}
use Rattle.acta_axioms.specs.History.{parent_of, ancestors}
use Rattle.acta_axioms.proofs.walk.Walk.ancestors.Given as goal

-- the numbers so far and those of the remaining ancestors are those of all ancestors
abbrev pub invariant-loop : goal.invariant-loop
invariant-loop g l =
    fold (insert_key nat_cmp) l.numbers.keys (map (λ u. u.0) (ancestors_from (length l.self.front - l.counter) (parent_of l.self.front) l.next)) ≡ ascending (map (λ u. u.0) (ancestors l.self.front l.fn.t.0))
