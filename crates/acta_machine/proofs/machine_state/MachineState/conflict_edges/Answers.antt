use Rattle.std.proofs.Common.{◌∙◌, ap, sym, [], Option, option_map}
use Rattle.std.specs.Option.{option_map_or}
use Rattle.acta_table.specs.declared.model.Class.{Class}
use Rattle.acta_table.specs.Policies.{edges_upon}
use Rattle.acta_machine.specs.Conflicts.{conflicting_holders}
use Rattle.acta_machine.specs.inside.Abstraction.{abstraction}
use Rattle.acta_axioms.proofs.Searches.{upon-refuses}
use Rattle.acta_machine.proofs.machine_state.MachineState.conflict_edges.Goals as goal

-- a class that refuses forms no edges
pub returns-then-refuses : goal.returns-then-refuses
returns-then-refuses g c =
    let us = conflicting_holders c.args.self.now.model (abstraction c.args.self.now) c.args.t.0 c.args.ob c.args.op.now in
    let class = sym c.class_of.ensures ∙ ap (option_map (λ x. x.now)) c.in-Some.is in
    c.new-then-refuses.ensures.items
    ∙ sym (ap (λ (k : Option (Class g.row.A.Denot)). option_map_or (λ x. edges_upon x.policy c.args.t us) k []) class ∙ upon-refuses c.in-Some.class.now.policy c.args.t us (sym c.if-refuses.ensures))
