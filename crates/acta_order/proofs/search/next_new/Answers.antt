use Rattle.std.proofs.Common.{[], get_or}
use Rattle.acta_order.specs.Earlier.{limit}
use Rattle.acta_order.proofs.Searching.{found-weaker}
use Rattle.acta_order.proofs.search.next_new.Goals as goal

pub returns : goal.returns
returns g c = found-weaker g.row.A.Denot c.args.memo.now c.args.replay.now c.next_fitting.new.replay (λ t. get_or c.args.groups.now t []) (limit c.args.earlier.now) c.args.ts.now c.args.path.now.stack c.args.low c.args.from c.in_ok-found.found c.in_ok-found.ensures
