use Rattle.std.proofs.Common.{◌≡◌, drop, map}
use Rattle.std.specs.List.{list_any}
use Rattle.std.specs.Str.{bytes_eq}
use Rattle.acta_table.proofs.model.is_name_of_one.Given as goal

-- what is left has it where all have it
abbrev pub invariant-loop-item : goal.invariant-loop-item
invariant-loop-item g l =
    list_any (bytes_eq l.name) (map g.T.Named.name_of (drop l.item-index l.items))
    ≡ list_any (bytes_eq l.name) (map g.T.Named.name_of l.items)
