use Rattle.std.proofs.Common.{◌≡◌, drop}
use Rattle.std.specs.List.{list_all}
use Rattle.acta_values.specs.KeptValues.{kinds_of}
use Rattle.acta_order.specs.Search.{is_sound}
use Rattle.acta_order.proofs.order.unsound_in.Given as goal

-- what is left is sound where all are
abbrev pub invariant-loop-item : goal.invariant-loop-item
invariant-loop-item g l = list_all (is_sound (kinds_of l.model.objects)) (drop l.item-index l.items) ≡ list_all (is_sound (kinds_of l.model.objects)) l.items
