use Rattle.std.proofs.Common.{◌≡◌, [], drop, fold}
use Rattle.std.specs.List.{filter_map}
use Rattle.std.specs.BTreeSet.{insert_key}
use Rattle.acta_explore.specs.Outcomes.{debt_cmp}
use Rattle.acta_explore.specs.inside.Shown.{debt_among}
use Rattle.acta_explore.proofs.outcome.debt_set.Given as goal

-- adding the rest from here gives all
abbrev pub invariant-loop-one : goal.invariant-loop-one
invariant-loop-one g l = fold (insert_key debt_cmp) l.debts.keys (filter_map (debt_among l.edges) (drop l.one-index l.owed)) ≡ fold (insert_key debt_cmp) [] (filter_map (debt_among l.edges) l.owed)
