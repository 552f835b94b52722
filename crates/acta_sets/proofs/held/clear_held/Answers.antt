use Rattle.acta_sets.proofs.Among.{AreAmong-cleared}
use Rattle.acta_sets.proofs.held.clear_held.Goals as goal

pub returns-clause-among : goal.returns-clause-among
returns-clause-among g c = AreAmong-cleared c.args.held.now.items c.clear_at.new.held.items c.args.holders.now.keys c.remove.new.self.keys c.args.at c.remove.ensures.keys c.clear_at.ensures
