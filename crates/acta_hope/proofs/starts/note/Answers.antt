use Rattle.std.proofs.Common.{sym, ◌∙◌}
use Rattle.acta_hope.proofs.NeverBegun.{lost-set, never-begins}
use Rattle.acta_hope.proofs.starts.note.Goals as goal

pub returns-then-is_lost_by-clause-lost : goal.returns-then-is_lost_by-clause-lost
returns-then-is_lost_by-clause-lost g c =
    lost-set c.args.machine.now c.args.lost.now c.args.edge.now.j.0 c.args.number c.if-txn-lost.true c.requires.lost
    (never-begins c.args.machine.now c.args.number c.args.edge.now c.requires.at (sym c.is_lost_by.ensures ∙ c.if-is_lost_by.true))
