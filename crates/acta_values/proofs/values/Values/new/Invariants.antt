use Rattle.std.proofs.Common.{[], take}
use Rattle.std.specs.List.{AllZip}
use Rattle.acta_table.specs.declared.model.Kind.{Kind}
use Rattle.acta_values.specs.declared.live_value.LiveValue.{LiveValue}
use Rattle.acta_values.specs.LiveValues.{IsAfter}
use Rattle.acta_values.proofs.values.Values.new.Given as goal

-- the values so far are the initial ones
abbrev pub invariant-loop-kind : goal.invariant-loop-kind
invariant-loop-kind g l = AllZip (λ (kind : Kind) (v : LiveValue g.row.A.Denot). IsAfter kind [] v) (take l.kind-index l.kinds) l.values.items
