use Rattle.std.proofs.Common.{sym, subst}
use Rattle.acta_table.specs.declared.event.Event.{Event}
use Rattle.acta_machine.specs.inside.Remembered.{IsNoted}
use Rattle.acta_machine.proofs.machine_state.MachineState.remember.Goals as goal

pub returns-in-Begin-clause-noted : goal.returns-in-Begin-clause-noted
returns-in-Begin-clause-noted g c =
    subst (λ (event : Event g.row.A.Denot). IsNoted c.args.self.now.store.lineage c.enter.new.self.lineage event) (sym c.in-Begin.is) (c.enter.ensures.entered, c.enter.ensures.most)

pub returns-in-Spawn-clause-noted : goal.returns-in-Spawn-clause-noted
returns-in-Spawn-clause-noted g c =
    subst (λ (event : Event g.row.A.Denot). IsNoted c.args.self.now.store.lineage c.enter-in-Spawn.new.self.lineage event) (sym c.in-Spawn.is) (c.enter-in-Spawn.ensures.entered, c.enter-in-Spawn.ensures.most)

pub returns-in-Split-clause-noted : goal.returns-in-Split-clause-noted
returns-in-Split-clause-noted g c =
    subst (λ (event : Event g.row.A.Denot). IsNoted c.args.self.now.store.lineage c.enter-in-Split.new.self.lineage event) (sym c.in-Split.is) (c.enter-in-Split.ensures.entered, c.enter-in-Split.ensures.most)
