use Rattle.std.proofs.Common.{◌∙◌, List, ap, arith, get_or, length, subst, sym}
use Rattle.acta_machine.specs.Table.{State}
use Rattle.acta_debug.specs.Sessions.{Session}
use Rattle.acta_debug.specs.inside.Shown.{IsFront}
use Rattle.acta_debug.proofs.Fronts.{fresh-front, front-at}
use Rattle.acta_debug.proofs.debugger.Debugger.checkpoint_before.Goals as goal

pub returns-in_ok-copy-in-Some-clause-front : goal.returns-in_ok-copy-in-Some-clause-front
returns-in_ok-copy-in-Some-clause-front g c =
    let inside = c.self.inside in
    let size = ap length c.as_slice.ensures.value in
    subst (λ (q : Session g.row.A.Denot). IsFront q.model q.history c.in_ok-copy-in-Some.field-0) c.self.view_is
    (front-at inside.machine.model inside.history.items inside.checkpoints.items c.in-Some.k c.index.result.now c.in_ok-copy-in-Some.field-0 c.self.invariant.fronts
    (omega (arith, size, c.in-Some.ensures.within)) (c.in_ok-copy-in-Some.ensures ∙ c.index.ensures))

pub returns-in_ok-copy-in-Some-clause-before : goal.returns-in_ok-copy-in-Some-clause-before
returns-in_ok-copy-in-Some-clause-before g c =
    let k = c.in-Some.k in
    let t = c.index.result.now in
    let read = ap (λ (ts : List (State g.row.A.Denot)). get_or ts k t) c.as_slice.ensures.value in
    let size = ap (λ (s : State g.row.A.Denot). length s.kept) (c.in_ok-copy-in-Some.ensures ∙ c.index.ensures ∙ sym read) in
    omega (arith, size, c.in-Some.ensures.up_to t)

pub returns-in_ok-new-in-None-clause-front : goal.returns-in_ok-new-in-None-clause-front
returns-in_ok-new-in-None-clause-front g c =
    let copied = c.in_ok-new-in-None.field-0 in
    let same = c.in_ok-model-in-None.ensures ∙ c.model.ensures in
    let front = subst (λ t. IsFront c.in_ok-model-in-None.model c.self.inside.history.items t) (sym c.in_ok-new-in-None.ensures.fresh) (fresh-front c.in_ok-model-in-None.model c.self.inside.history.items) in
    subst (λ (q : Session g.row.A.Denot). IsFront q.model q.history copied) c.self.view_is (subst (λ m. IsFront m c.self.inside.history.items copied) same front)
