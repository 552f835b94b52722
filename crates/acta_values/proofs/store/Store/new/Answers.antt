use Rattle.std.proofs.Common.{rules, [], sym, subst}
use Rattle.acta_sets.specs.Chains.{AreChained}
use Rattle.acta_sets.proofs.Chaining.{AreChained-none}
use Rattle.acta_values.proofs.store.Store.new.Goals as goal

pub invariant_of-result : goal.invariant_of-result
invariant_of-result g c = record {
  after = search rules;
  chained = subst (AreChained c.new-2.result) (sym c.new-3.ensures) (AreChained-none c.new-2.result (record { entries = []; most = 0 }));
}
