use Rattle.std.proofs.Common.{◌≡◌, ◌+◌, ap, arith, inl, length, subst, sym}
use Rattle.std.specs.Prelude.{Err, Ok}
use Rattle.acta_debug.specs.inside.Shown.{AreFronts, session_of}
use Rattle.acta_debug.specs.Moves.{stepped}
use Rattle.acta_debug.specs.Sessions.{Session, moved_to}
use Rattle.acta_debug.specs.declared.errors.MoveError.TheVariants.{AtEnd}
use Rattle.acta_debug.proofs.Fronts.{after-model}
use Rattle.acta_debug.proofs.Standing.{not-both, step-inside, step-moves, stepped-ahead, stepped-end}
use Rattle.acta_debug.proofs.debugger.Debugger.step.Goals as goal

pub invariant_of-self-2 : goal.invariant_of-self-2
invariant_of-self-2 g c =
    let items = c.self.inside.history.items in
    let checkpoints = c.self.inside.checkpoints.items in
    record {
      stands =
          step-inside c.self.inside.machine c.take.new.self items c.as_slice-history.result.now c.self.inside.at c.self.inside.breaks.items c.self.invariant.stands c.as_slice-history.ensures.value c.in_ok-take.ensures.follows
          c.index-history-at.result c.if-at-history.false c.index-history-at.is c.in_ok-take.ensures.ok;
      fronts = subst (λ m. AreFronts m items checkpoints) (sym (after-model c.self.inside.machine c.take.new.self _ c.in_ok-take.ensures.ok)) c.self.invariant.fronts;
    }

pub returns-clause-ok : goal.returns-clause-ok
returns-clause-ok g c =
    step-moves c.self.inside.machine c.take.new.self c.self.inside.history.items c.as_slice-history.result.now c.self.inside.at c.self.inside.breaks.items c.self.invariant.stands c.as_slice-history.ensures.value c.in_ok-take.ensures.follows
    c.index-history-at.result c.if-at-history.false c.index-history-at.is c.in_ok-take.ensures.ok c.args.self.now c.self.view_is

pub returns-clause-blocked : goal.returns-clause-blocked
returns-clause-blocked g c = λ e bad. absurd (not-both _ e (returns-clause-ok g c) bad)

pub returns-then-at-history-clause-only : goal.returns-then-at-history-clause-only
returns-then-at-history-clause-only g c =
    let before = session_of c.self.inside.machine c.self.inside.history.items c.self.inside.at c.self.inside.breaks.items in
    let size = ap length c.as_slice-history.ensures.value in
    inl (subst (λ (q : Session g.row.A.Denot). stepped q ≡ Err AtEnd) c.self.view_is (stepped-end before (omega (arith, size, c.if-at-history.true))))

pub returns-in_err-take-clause-blocked : goal.returns-in_err-take-clause-blocked
returns-in_err-take-clause-blocked g c =
    let before = session_of c.self.inside.machine c.self.inside.history.items c.self.inside.at c.self.inside.breaks.items in
    let size = ap length c.as_slice-history.ensures.value in
    let on = stepped-ahead before (omega (arith, size, c.if-at-history.false)) in
    λ e bad. absurd (not-both _ e (subst (λ (q : Session g.row.A.Denot). stepped q ≡ Ok (moved_to q (q.at + 1))) c.self.view_is on) bad)
