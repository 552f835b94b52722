use Rattle.std.proofs.Common.{◌≡◌, ◌≤◌, List, length, ap, sym, subst, ◌∙◌}
use Rattle.acta_table.specs.declared.dep.Edge.{Edge}
use Rattle.acta_table.specs.declared.answer.Status.{Status}
use Rattle.acta_deps.specs.Deps.{status_listed}
use Rattle.acta_deps.specs.Debts.{owes_both}
use Rattle.acta_deps.proofs.deps.Deps.copy.Goals as goal

pub invariant_of-result : goal.invariant_of-result
invariant_of-result g c =
    let same : c.in_ok-from_slice.field-0.items ≡ c.self.inside.statuses.items = c.in_ok-from_slice.ensures.items ∙ c.deref.ensures.value in
    record {
      few = subst (λ (xs : List Status). length xs ≤ 16384) (sym same) c.self.invariant.few;
      nobody = ap (λ (xs : List Status). status_listed xs 0) same ∙ c.self.invariant.nobody;
      clear = λ u. ap (λ (xs : List Status). owes_both (status_listed xs) c.in_ok-copy.field-0 u) same ∙ ap (λ (es : List Edge). owes_both (status_listed c.self.inside.statuses.items) es u) c.in_ok-copy.ensures ∙ c.self.invariant.clear u;
    }
