use Rattle.std.proofs.Common.{List, sym, subst}
use Rattle.std.specs.Prelude.{IfSome}
use Rattle.std.proofs.lemmas.Option.{IfSome_then}
use Rattle.acta_machine.specs.Changes.{summary_of}
use Rattle.acta_machine.specs.Summary.{Summary}
use Rattle.acta_machine.specs.Table.{State}
use Rattle.acta_machine.specs.declared.refused.Refused.{Refused}
use Rattle.acta_machine.specs.inside.Refused.{AreRefused, IsRefusedBy}
use Rattle.acta_machine.specs.inside.Abstraction.{abstraction}
use Rattle.acta_machine.proofs.machine.Machine.known_refusal.Goals as goal

pub returns-clause-refusal : goal.returns-clause-refusal
unfolding IsRefusedBy
returns-clause-refusal g c =
    let model = c.self.inside.machine_state.model in
    IfSome_then c.broken_among.result
    (subst (λ (x : State g.row.A.Denot). IfSome c.broken_among.result (IsRefusedBy x.model (summary_of x.model x.kept) c.args.event.now)) c.self.view_is
    (subst (λ (s : Summary). IfSome c.broken_among.result (IsRefusedBy model s c.args.event.now)) c.self.invariant.agrees
    (c.broken_among.ensures model (abstraction c.self.inside.machine_state)
    (subst (λ (xs : List (Refused g.row.A.Denot)). AreRefused model (abstraction c.self.inside.machine_state) xs) (sym c.deref.ensures.value) c.self.invariant.refused))))
    (λ broken why. why.0)

pub returns-clause-so : goal.returns-clause-so
unfolding IsRefusedBy
returns-clause-so g c =
    let model = c.self.inside.machine_state.model in
    IfSome_then c.broken_among.result
    (subst (λ (x : State g.row.A.Denot). IfSome c.broken_among.result (IsRefusedBy x.model (summary_of x.model x.kept) c.args.event.now)) c.self.view_is
    (subst (λ (s : Summary). IfSome c.broken_among.result (IsRefusedBy model s c.args.event.now)) c.self.invariant.agrees
    (c.broken_among.ensures model (abstraction c.self.inside.machine_state)
    (subst (λ (xs : List (Refused g.row.A.Denot)). AreRefused model (abstraction c.self.inside.machine_state) xs) (sym c.deref.ensures.value) c.self.invariant.refused))))
    (λ broken why. why.1)
