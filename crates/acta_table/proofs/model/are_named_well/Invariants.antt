use Rattle.std.proofs.Common.{◌≡◌, drop, map}
use Rattle.std.specs.List.{list_all}
use Rattle.acta_table.specs.Faults.{is_name}
use Rattle.acta_table.proofs.model.are_named_well.Given as goal

-- what is left is named well where all are
abbrev pub invariant-loop-item : goal.invariant-loop-item
invariant-loop-item g l =
    list_all is_name (map g.T.Named.name_of (drop l.item-index l.items))
    ≡ list_all is_name (map g.T.Named.name_of l.items)
