use Rattle.acta_locked.proofs.Growing.{of-some-run}
use Rattle.acta_locked.proofs.desk.LockedDeskDeskEventEntry.hand.Goals as goal

pub returns-clause-entry : goal.returns-clause-entry
returns-clause-entry g c =
    let shared_log = c.deref_mut.result.now in
    let took = c.take.ensures in
    of-some-run c.take.result g.J.Job.model c.args.self.now.seat c.args.event shared_log.book c.take.new.self.book shared_log.of_model took.entry took.ok took.run
