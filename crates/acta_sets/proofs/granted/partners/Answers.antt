use Rattle.std.proofs.Common.{sym, subst}
use Rattle.std.specs.List.Sorted.{IsStrictlySortedBy}
use Rattle.acta_sets.specs.Permits.{txn_cmp}
use Rattle.acta_sets.proofs.Partners.{none_sorted}
use Rattle.acta_sets.proofs.granted.partners.Goals as goal

pub returns-in-None-clause-ascending : goal.returns-in-None-clause-ascending
returns-in-None-clause-ascending g c = subst (IsStrictlySortedBy txn_cmp) (sym c.new.ensures.items) none_sorted
