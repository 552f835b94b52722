use Rattle.std.proofs.Common.{◌≤◌, ap, subst}
use Rattle.acta_debug.specs.Moves.{gone_to}
use Rattle.acta_debug.specs.Sessions.{Session, moved_to}
use Rattle.acta_debug.proofs.Standing.{gone-within, same-ok}
use Rattle.acta_debug.proofs.debugger.Debugger.come_to.Goals as goal

pub returns-then-not-has_between-clause-ok : goal.returns-then-not-has_between-clause-ok
returns-then-not-has_between-clause-ok g c =
    c.step_to.ensures.ok (subst (λ (s : Session g.row.A.Denot). s.at ≤ c.args.n) c.self.view_is c.if-self-n.true)

pub returns-in-Ok-clause-ok : goal.returns-in-Ok-clause-ok
returns-in-Ok-clause-ok g c =
    let s = c.args.self.now in
    let n = c.args.n in
    same-ok (gone_to s n) (moved_to s n) c.goto.new.self (gone-within s n c.requires) c.in-Ok.ensures.ok

pub returns-in-Ok-clause-same : goal.returns-in-Ok-clause-same
returns-in-Ok-clause-same g c = ap (λ (s : Session g.row.A.Denot). moved_to s c.args.n) (returns-in-Ok-clause-ok g c)
