use Rattle.std.proofs.Common.{◌∙◌, ap, List}
use Rattle.acta_table.specs.declared.dep.Edge.{Edge}
use Rattle.acta_table.specs.Edges.{is_among}
use Rattle.acta_table.proofs.EdgeSets.{has-edge}
use Rattle.acta_deps.proofs.edge_list.EdgeList.has.Goals as goal

pub returns : goal.returns
returns g c = c.contains.ensures ∙ has-edge c.self.inside.edges.keys c.args.edge.now ∙ ap (λ (es : List Edge). is_among es c.args.edge.now) c.self.view_is
