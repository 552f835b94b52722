use Rattle.std.proofs.Common.{List, ap, ◌∙◌}
use Rattle.acta_table.specs.declared.dep.Edge.{Edge}
use Rattle.acta_deps.specs.Deps.{status_listed}
use Rattle.acta_deps.specs.Debts.{owes_both}
use Rattle.acta_deps.proofs.Clear.{take_clear}
use Rattle.acta_deps.proofs.deps.Deps.take_back.Goals as goal

pub invariant_of-self : goal.invariant_of-self
invariant_of-self g c =
    record {
      few = c.self.invariant.few;
      nobody = c.self.invariant.nobody;
      clear = λ u.
          ap (λ (es : List Edge). owes_both (status_listed c.self.inside.statuses.items) es u) c.truncate.ensures
          ∙ take_clear (status_listed c.self.inside.statuses.items) c.self.inside.edges _ c.self.invariant.clear u;
    }
