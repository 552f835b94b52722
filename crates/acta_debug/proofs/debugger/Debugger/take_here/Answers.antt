use Rattle.std.proofs.Common.{◌≡◌, ◌∙◌, ◌++◌, ◌∷◌, [], ap, arith, length, sym, take}
use Rattle.acta_machine.specs.Table.{State, answer_to}
use Rattle.acta_debug.specs.Histories.{state_at}
use Rattle.acta_debug.specs.Sessions.{Session}
use Rattle.acta_debug.proofs.Standing.{shows-state}
use Rattle.acta_debug.proofs.Taking.{admitted-fronts, admitted-inside, admitted-moves, refused-inside, refused-moves}
use Rattle.acta_debug.proofs.debugger.Debugger.take_here.Goals as goal

pub invariant_of-self-in-Refused : goal.invariant_of-self-in-Refused
invariant_of-self-in-Refused g c =
    let self = c.self.inside in
    refused-inside self.machine c.take.new.self self.history.items self.at self.breaks.items c.args.event.now c.self.invariant.stands c.in_ok-answer.ensures.ok
    c.in-Refused.rule c.in-Refused.by (sym c.in_ok-answer.ensures.answer ∙ c.in-Refused.is) self.checkpoints.items c.reserve.new.self.items c.in_ok-reserve.ensures.items c.self.invariant.fronts

pub returns-in-Refused-clause-ok : goal.returns-in-Refused-clause-ok
returns-in-Refused-clause-ok g c =
    let self = c.self.inside in
    refused-moves self.machine c.take.new.self self.history.items self.at self.breaks.items c.args.event.now c.self.invariant.stands c.in_ok-answer.ensures.ok
    c.in-Refused.rule c.in-Refused.by (sym c.in_ok-answer.ensures.answer ∙ c.in-Refused.is) c.args.self.now c.reserve.new.self.items c.in_ok-reserve.ensures.items c.self.view_is

pub returns-in-Refused-clause-answer : goal.returns-in-Refused-clause-answer
returns-in-Refused-clause-answer g c =
    let self = c.self.inside in
    c.in_ok-answer.ensures.answer ∙ ap (λ (s : State g.row.A.Denot). answer_to s c.args.event.now) (shows-state self.machine self.history.items self.at c.self.invariant.stands)
    ∙ ap (λ (q : Session g.row.A.Denot). answer_to (state_at q.model q.history q.at) c.args.event.now) c.self.view_is

pub invariant_of-self-in-Admitted : goal.invariant_of-self-in-Admitted
invariant_of-self-in-Admitted g c =
    let self = c.self.inside in
    let admitted = sym c.in_ok-answer.ensures.answer ∙ c.in-Admitted.is in
    let list = c.push_reserved.new.self.items in
    let longer : list ≡ take self.at self.history.items ++ record { event = c.args.event.now; ret = c.in-Admitted.ret } ∷ [] =
    c.push_reserved.ensures.items ∙ (λ i. (c.truncate.ensures.items ∙ ap (take self.at) c.in_ok-reserve.ensures.items) i ++ record { event = c.in_ok-event_copy.ensures i; ret = c.in-Admitted.ret } ∷ []) in
    let kept = ap length c.history.ensures.history in
    let few = c.history.ensures.within in
    record {
      stands = admitted-inside self.machine c.take.new.self self.history.items self.at self.breaks.items c.args.event.now c.self.invariant.stands c.in_ok-answer.ensures.ok c.in-Admitted.place c.in-Admitted.ret admitted list longer
          (length c.history.result.now) kept (omega (arith, kept, few)) c.history.ensures.follows;
      fronts = admitted-fronts self.machine c.take.new.self self.history.items self.at self.breaks.items c.args.event.now c.self.invariant.stands c.in_ok-answer.ensures.ok c.in-Admitted.place c.in-Admitted.ret admitted list longer
          self.checkpoints.items c.keep_within.new.machines.items c.keep_within.ensures c.self.invariant.fronts;
    }

pub returns-in-Admitted-clause-ok : goal.returns-in-Admitted-clause-ok
returns-in-Admitted-clause-ok g c =
    let self = c.self.inside in
    admitted-moves self.machine c.take.new.self self.history.items self.at self.breaks.items c.args.event.now c.self.invariant.stands c.in_ok-answer.ensures.ok c.in-Admitted.place c.in-Admitted.ret
    (sym c.in_ok-answer.ensures.answer ∙ c.in-Admitted.is) c.push_reserved.new.self.items
    (c.push_reserved.ensures.items ∙ (λ i. (c.truncate.ensures.items ∙ ap (take self.at) c.in_ok-reserve.ensures.items) i ++ record { event = c.in_ok-event_copy.ensures i; ret = c.in-Admitted.ret } ∷ []))
    c.args.self.now (length c.history.result.now) (ap length c.history.ensures.history) c.self.view_is

pub returns-in-Admitted-clause-answer : goal.returns-in-Admitted-clause-answer
returns-in-Admitted-clause-answer g c =
    let self = c.self.inside in
    sym c.in-Admitted.is ∙ c.in_ok-answer.ensures.answer ∙ ap (λ (s : State g.row.A.Denot). answer_to s c.args.event.now) (shows-state self.machine self.history.items self.at c.self.invariant.stands)
    ∙ ap (λ (q : Session g.row.A.Denot). answer_to (state_at q.model q.history q.at) c.args.event.now) c.self.view_is
