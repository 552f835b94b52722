use Rattle.std.proofs.Common.{◌∙◌, ◌-◌, ap, sym}
use Rattle.std.specs.Prelude.{Ok}
use Rattle.acta_debug.specs.Sessions.{Session, moved_to}
use Rattle.acta_debug.proofs.Standing.{not-both, stepped-behind}
use Rattle.acta_debug.proofs.debugger.Debugger.back.Goals as goal

pub returns-in_err-move_machine-clause-blocked : goal.returns-in_err-move_machine-clause-blocked
returns-in_err-move_machine-clause-blocked g c =
    let at = ap (λ (s : Session g.row.A.Denot). s.at) c.self.view_is in
    λ e bad. absurd (not-both _ e (stepped-behind c.args.self.now c.self.inside.at at c.if-at-eq0.false) bad)

pub returns-in_err-draw_near-clause-blocked : goal.returns-in_err-draw_near-clause-blocked
returns-in_err-draw_near-clause-blocked g c =
    let at = ap (λ (s : Session g.row.A.Denot). s.at) c.self.view_is in
    λ e bad. absurd (not-both _ e (stepped-behind c.args.self.now c.self.inside.at at c.if-at-eq0.false) bad)

pub returns-clause-ok : goal.returns-clause-ok
returns-clause-ok g c =
    let at = ap (λ (s : Session g.row.A.Denot). s.at) c.self.view_is in
    stepped-behind c.args.self.now c.self.inside.at at c.if-at-eq0.false
    ∙ ap (λ (s : Session g.row.A.Denot). Ok s) (sym (c.in_ok-move_machine.ensures.ok ∙ ap (λ (s : Session g.row.A.Denot). moved_to s (c.self.inside.at - 1)) c.draw_near.ensures))

pub returns-clause-blocked : goal.returns-clause-blocked
returns-clause-blocked g c = λ e bad. absurd (not-both _ e (returns-clause-ok g c) bad)
