use Rattle.std.proofs.Common.{subst}
use Rattle.acta_sets.specs.Lineages.{IsEntered}
use Rattle.acta_values.specs.Stores.{Stored}
use Rattle.acta_values.proofs.store.Store.enter.Goals as goal

pub returns-clause-entered : goal.returns-clause-entered
returns-clause-entered g c = subst (λ (s : Stored). IsEntered s.lineage c.enter.new.self.lineage c.args.t.0 c.args.parent) c.self.view_is c.enter.ensures.entered

pub invariant_of-self : goal.invariant_of-self
invariant_of-self g c = record { after = c.self.invariant.after; chained = c.enter.ensures.chained c.self.inside.operations c.self.invariant.chained }
