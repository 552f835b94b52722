use Rattle.std.proofs.Common.{◌++◌, ◌∷◌, [], ap, ◌∙◌, sym, map}
use Rattle.std.specs.Prelude.{option_map}
use Rattle.std.proofs.lemmas.List.{map-append}
use Rattle.acta_machine.specs.Table.{value_in}
use Rattle.acta_explore.specs.inside.Shown.{shown_value}
use Rattle.acta_explore.proofs.Looping.{map-range}
use Rattle.acta_explore.proofs.outcome.values.Goals as goal

pub loop-ob-preserved : goal.loop-ob-preserved
loop-ob-preserved g c =
    ap (map (option_map shown_value)) c.in_ok-push.ensures.items
    ∙ (map-append (option_map shown_value) c.loop-ob.values.items (c.in_ok-object_value.field-0 ∷ [])
    ∙ ((λ i. c.loop-ob.invariant i ++ c.in_ok-object_value.ensures i ∷ [])
    ∙ sym (map-range (value_in c.args.machine.now) c.loop-ob.ob)))
