use Rattle.std.proofs.Common.{◌∙◌}
use Rattle.acta_table.proofs.EdgeSets.{form-edge}
use Rattle.acta_axioms.proofs.forming.form.Goals as goal

pub returns-in-Ok-clause-formed : goal.returns-in-Ok-clause-formed
returns-in-Ok-clause-formed g c = c.in-Ok.ensures.keys ∙ form-edge c.args.edges.now.keys c.args.edge
