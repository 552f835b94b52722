use Rattle.std.proofs.Common.{ap, sym, ◌∙◌}
use Rattle.acta_deps.specs.Deps.{DepState, status_of}
use Rattle.acta_deps.specs.Debts.{owes_both}
use Rattle.acta_deps.proofs.deps.Deps.lemma_invariant.Goals as goal

pub returns-clause-clear : goal.returns-clause-clear
returns-clause-clear g c =
    λ u. ap (λ (d : DepState). owes_both (status_of d) d.edges u) (sym c.self.view_is) ∙ c.self.invariant.clear u
