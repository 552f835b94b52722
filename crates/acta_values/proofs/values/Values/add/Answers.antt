use Rattle.std.proofs.Common.{rules, ◌≤◌, length, List, subst}
use Rattle.acta_values.specs.declared.live_value.LiveValue.{LiveValue}
use Rattle.acta_values.proofs.Added.{added_nowhere}
use Rattle.acta_values.proofs.values.Values.add.Goals as goal

pub returns-else-ob-len-clause-ok : goal.returns-else-ob-len-clause-ok
returns-else-ob-len-clause-ok g c = λ kinds items after next room t.
    let past : length c.self.inside.values.items ≤ c.args.ob.0 = search rules in
    added_nowhere kinds items c.args.self.now t c.args.ob c.args.op.now after (subst (λ (values : List (LiveValue g.row.A.Denot)). length values ≤ c.args.ob.0) c.self.view_is past) room
