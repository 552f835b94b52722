use Rattle.std.proofs.Common.{◌∙◌}
use Rattle.std.proofs.lemmas.Bool.{ne_eqb}
use Rattle.acta_deps.specs.Deps.{status_of}
use Rattle.acta_deps.proofs.Upon.{upon_alone}
use Rattle.acta_deps.proofs.deps.Deps.owes_after.Goals as goal

pub returns-then-is_noted : goal.returns-then-is_noted
returns-then-is_noted g c =
    let t = c.args.change.txn.0 in
    let u = c.args.u.0 in
    c.owes_upon.ensures
    ∙ upon_alone c.args.missing c.args.other c.requires (status_of c.args.self.now) t c.args.change.status u (ne_eqb u t c.if-u-change.true) c.args.self.now.edges (c.lemma_invariant.ensures.clear u) (c.is_noted.ensures c.if-is_noted.true)
