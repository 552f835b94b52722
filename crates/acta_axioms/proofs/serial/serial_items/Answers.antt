use Rattle.std.proofs.Common.{◌<◌, length, map, Some, List, ap, ◌∙◌, sym, subst}
use Rattle.std.specs.List.{All}
use Rattle.acta_axioms.specs.declared.serial.SerialItem.{SerialItem}
use Rattle.acta_axioms.proofs.GroupTies.{listed-serial, listed-replayed, listed-objects}
use Rattle.acta_axioms.proofs.serial.serial_items.Goals as goal

pub returns-clause-items : goal.returns-clause-items
returns-clause-items g c =
    c.of.ensures ∙ c.in_ok-in_commit_order.ensures ∙ listed-serial c.args.model.now c.args.kept.now c.in_ok-groups.groups c.requires.strict c.requires.faultless c.in_ok-groups.ensures

pub returns-clause-replayed : goal.returns-clause-replayed
returns-clause-replayed g c =
    listed-replayed c.args.model.now c.args.kept.now c.requires.strict c.requires.faultless
    ∙ ap (map (λ (item : SerialItem). Some item.ret)) (sym (c.of.ensures ∙ c.in_ok-in_commit_order.ensures ∙ listed-serial c.args.model.now c.args.kept.now c.in_ok-groups.groups c.requires.strict c.requires.faultless c.in_ok-groups.ensures))

pub returns-clause-in_model : goal.returns-clause-in_model
returns-clause-in_model g c =
    subst (λ (items : List SerialItem). All (λ item. item.ob.0 < length c.args.model.now.objects) items)
    (sym (c.of.ensures ∙ c.in_ok-in_commit_order.ensures ∙ listed-serial c.args.model.now c.args.kept.now c.in_ok-groups.groups c.requires.strict c.requires.faultless c.in_ok-groups.ensures))
    (listed-objects c.args.model.now c.args.kept.now c.requires.faultless)
