use Rattle.std.proofs.Common.{◌<◌, length, arith}
use Rattle.acta_deps.proofs.FormedEdges.{next_fits}
use Rattle.acta_deps.proofs.edge_list.EdgeList.form_each.Goals as goal

pub form-requires-clause-fits : goal.form-requires-clause-fits
form-requires-clause-fits g c =
    let within : c.loop-edge.edge-index < length c.args.more.now = omega arith in
    next_fits c.loop-edge.self c.args.more.now _ c.loop-edge.edge-index _ _ within c.loop-edge.invariant.rest c.requires.fits
