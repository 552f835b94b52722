use Rattle.std.proofs.Common.{sym, subst}
use Rattle.acta_machine.specs.Changes.{summary_of}
use Rattle.acta_machine.specs.Summary.{Summary}
use Rattle.acta_machine.specs.Table.{State}
use Rattle.acta_machine.specs.inside.Refused.{IsRefusedBy}
use Rattle.acta_machine.specs.inside.Abstraction.{abstraction}
use Rattle.acta_machine.proofs.machine.Machine.note_refusal.Goals as goal

pub invariant_of-self : goal.invariant_of-self
unfolding IsRefusedBy
invariant_of-self g c =
    let model = c.self.inside.machine_state.model in
    record {
      agrees = c.self.invariant.agrees;
      records = c.self.invariant.records;
      remembered = c.self.invariant.remembered;
      kinds = c.self.invariant.kinds;
      within = c.self.invariant.within;
      follows = c.self.invariant.follows;
      refused = c.keep_refused.ensures model (abstraction c.self.inside.machine_state) c.self.invariant.refused
          (subst (λ (s : Summary). IsRefusedBy model s c.args.event.now c.args.broken) (sym c.self.invariant.agrees)
          (subst (λ (x : State g.row.A.Denot). IsRefusedBy x.model (summary_of x.model x.kept) c.args.event.now c.args.broken) (sym c.self.view_is)
          (c.requires.refusal, c.requires.so)));
    }
