use Rattle.std.proofs.Common.{Some, sym, ap, ◌∙◌}
use Rattle.std.specs.Option.{option_copied}
use Rattle.acta_axioms.specs.Edges.{holders_against}
use Rattle.acta_axioms.proofs.Searches.{upon-refuses, upon-class}
use Rattle.acta_axioms.proofs.walk.Walk.edges_upon.Goals as goal

pub returns-then-refuses : goal.returns-then-refuses
returns-then-refuses g c =
    let m = c.args.self.now.model in
    let h = c.args.self.now.front in
    upon-class m h c.args.t c.args.object c.args.op.now (Some c.in-Some.class.now) c.new-then-refuses.result.items (sym (ap option_copied c.in-Some.is) ∙ c.class.ensures)
    (c.new-then-refuses.ensures.items ∙ sym (upon-refuses c.in-Some.class.now.policy c.args.t (holders_against m h c.args.t.0 c.args.object.0 c.args.op.now) (sym c.refuses.ensures ∙ c.if-refuses.true)))
