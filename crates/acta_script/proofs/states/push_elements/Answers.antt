use Rattle.acta_script.proofs.Elements.{whole}
use Rattle.acta_script.proofs.states.push_elements.Goals as goal

pub returns : goal.returns
returns g c =
    whole c.args.elements.now c.args.line.now.items c.push.new.self.items c.push_marked.new.line.items c.push_after.new.line.items c.push-2.new.self.items
    c.in-len1-up.len_at_least (c.in_ok-push.ensures.items) c.in_ok-push_marked.ensures c.in_ok-push_after.ensures c.in_ok-push-2.ensures.items
