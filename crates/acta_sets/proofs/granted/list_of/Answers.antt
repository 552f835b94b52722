use Rattle.std.proofs.Common.{sym, subst}
use Rattle.std.specs.List.Sorted.{IsStrictlySortedBy}
use Rattle.acta_sets.specs.Permits.{grant_cmp}
use Rattle.acta_sets.proofs.granted.list_of.Goals as goal

pub returns-in-None-clause-ascending : goal.returns-in-None-clause-ascending
unfolding IsStrictlySortedBy
returns-in-None-clause-ascending g c = subst (IsStrictlySortedBy grant_cmp) (sym c.new.ensures.items) tt
