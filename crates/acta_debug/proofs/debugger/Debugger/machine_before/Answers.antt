use Rattle.std.proofs.Common.{◌∙◌, ap, arith, length, subst}
use Rattle.std.proofs.lemmas.List.{length-take-le}
use Rattle.acta_machine.specs.Table.{State}
use Rattle.acta_debug.specs.Sessions.{Session}
use Rattle.acta_debug.specs.inside.Shown.{IsFront}
use Rattle.acta_debug.proofs.Fronts.{inside-front}
use Rattle.acta_debug.proofs.debugger.Debugger.machine_before.Goals as goal

pub returns-clause-front : goal.returns-clause-front
returns-clause-front g c =
    subst (λ (q : Session g.row.A.Denot). IsFront q.model q.history c.in_ok-copy.field-0) c.self.view_is
    (inside-front c.self.inside.machine c.in_ok-copy.field-0 c.self.inside.history.items c.self.inside.at c.self.invariant.stands c.in_ok-copy.ensures)

pub returns-clause-before : goal.returns-clause-before
returns-clause-before g c =
    let stands = c.self.invariant.stands in
    let size = ap (λ (s : State g.row.A.Denot). length s.kept) c.in_ok-copy.ensures ∙ ap length stands.kept ∙ length-take-le c.self.inside.at c.self.inside.history.items stands.within in
    omega (arith, size, c.if-self-n.false)
