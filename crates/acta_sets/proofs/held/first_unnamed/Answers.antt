use Rattle.std.proofs.Common.{sym}
use Rattle.acta_sets.proofs.Unnamed.{unnamed-none}
use Rattle.acta_sets.proofs.held.first_unnamed.Goals as goal

pub returns-then-are_named : goal.returns-then-are_named
returns-then-are_named g c = sym (unnamed-none c.args.ops.now c.args.list.now (c.are_named.ensures.all c.if-are_named.true))
