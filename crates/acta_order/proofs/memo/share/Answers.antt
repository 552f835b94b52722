use Rattle.acta_order.proofs.Remembering.{grows-same, grows-push}
use Rattle.acta_order.proofs.memo.share.Goals as goal

pub returns-in_err-push-clause-grows : goal.returns-in_err-push-clause-grows
returns-in_err-push-clause-grows g c = grows-same c.args.shared.now.items c.push.new.self.items c.in_err-push.ensures.items

pub returns-clause-grows : goal.returns-clause-grows
returns-clause-grows g c = grows-push c.args.shared.now.items c.push.new.self.items (record { rest = c.args.rest.items; changes = c.args.changes.items }) c.in_ok-push.ensures.items
