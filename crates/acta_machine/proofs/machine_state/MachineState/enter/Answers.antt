use Rattle.acta_machine.specs.declared.machine_state.TxnRecord.{TxnRecord}
use Rattle.acta_machine.specs.Summary.{entered}
use Rattle.acta_machine.specs.inside.Abstraction.{abstraction}
use Rattle.acta_machine.proofs.Records.{record_of-entered}
use Rattle.acta_machine.proofs.machine_state.MachineState.enter.Goals as goal

pub returns-clause-shows : goal.returns-clause-shows
unfolding entered
returns-clause-shows g c =
    let record_of : TxnRecord = record { class = c.args.class; parent = c.args.parent } in
    let records = c.args.self.now.records.items in
    λ i. record (abstraction c.args.self.now) {
      class = λ u. record_of-entered (λ o. o.class) records c.args.t.0 record_of c.requires u i;
      parent = λ u. record_of-entered (λ o. o.parent) records c.args.t.0 record_of c.requires u i;
    }
