use Rattle.std.proofs.Common.{◌≡◌, map, filter, fold}
use Rattle.std.specs.BTreeSet.{insert_key}
use Rattle.std.specs.Ordering.{nat_cmp}
use Rattle.acta_table.specs.Numbered.{ascending}
use Rattle.acta_sets.specs.Operations.{is_conflicting_holder}
use Rattle.acta_sets.proofs.table.OpTable.conflicting_holders.Given as goal

-- the numbers so far and those of the rest are those of all
abbrev pub invariant-loop-number : goal.invariant-loop-number
invariant-loop-number g l =
    fold (insert_key nat_cmp) l.numbers.keys (map (λ k. k) (filter (is_conflicting_holder l.t.0 l.exempts.keys l.ob.0 l.op l.self) l.number-iterator))
    ≡ ascending (map (λ k. k) (filter (is_conflicting_holder l.t.0 l.exempts.keys l.ob.0 l.op l.self) l.initial.number-iterator))
