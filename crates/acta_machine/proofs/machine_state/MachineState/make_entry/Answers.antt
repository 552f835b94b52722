use Rattle.acta_machine.specs.inside.Abstraction.{abstraction}
use Rattle.acta_machine.proofs.Records.{same_records}
use Rattle.acta_machine.proofs.machine_state.MachineState.make_entry.Goals as goal

pub returns-clause-shows : goal.returns-clause-shows
returns-clause-shows g c =
    let same = same_records c.lengthen.new.items.items c.args.self.now.records.items c.lengthen.ensures.same in
    λ i. record (abstraction c.args.self.now) {
      status = c.make_room.ensures.status i;
      class = λ u. (same u i).class;
      parent = λ u. (same u i).parent;
      edges = c.make_room.ensures.edges i;
    }
