use Rattle.std.proofs.Common.{Option, ap, sym, false, ◌∙◌}
use Rattle.std.specs.Option.{option_map_or}
use Rattle.acta_sets.specs.declared.held_op.HeldOp.{HeldOp}
use Rattle.acta_sets.specs.Operations.{is_held}
use Rattle.acta_axioms.proofs.Numbers.{holds_number}
use Rattle.acta_axioms.proofs.walk.Walk.holds.Goals as goal

pub returns-in-Some : goal.returns-in-Some
returns-in-Some g c =
    c.is_held.ensures
    ∙ sym (ap (λ (i : Option HeldOp). option_map_or (is_held c.args.t.0) i false) (sym c.operation.ensures ∙ c.in-Some.is))
    ∙ holds_number c.args.self.now.model c.args.self.now.front c.args.t.0 c.args.op.0

pub returns-in-None : goal.returns-in-None
returns-in-None g c =
    sym (ap (λ (i : Option HeldOp). option_map_or (is_held c.args.t.0) i false) (sym c.operation.ensures ∙ c.in-None.is))
    ∙ holds_number c.args.self.now.model c.args.self.now.front c.args.t.0 c.args.op.0
