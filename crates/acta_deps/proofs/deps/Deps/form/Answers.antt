use Rattle.std.proofs.Common.{◌≡◌, ℕ, List, None, ap, sym, ◌∙◌, subst}
use Rattle.std.specs.List.{All}
use Rattle.acta_table.specs.declared.dep.Edge.{Edge}
use Rattle.acta_table.specs.declared.answer.Status.{Status}
use Rattle.acta_deps.specs.Deps.{DepState, status_of, status_listed}
use Rattle.acta_deps.specs.Debts.{debt_of, owes_both}
use Rattle.acta_deps.proofs.Clear.{form_clear}
use Rattle.acta_deps.proofs.deps.Deps.form.Goals as goal

pub invariant_of-self-2 : goal.invariant_of-self-2
invariant_of-self-2 g c =
    let s : ℕ → Status = status_listed c.self.inside.statuses.items in
    let unowed : All (λ e. debt_of s e ≡ None) c.args.more.now = subst (λ (d : DepState). All (λ e. debt_of (status_of d) e ≡ None) c.args.more.now) (sym c.self.view_is) c.requires.unowed in
    record {
      few = c.self.invariant.few;
      nobody = c.self.invariant.nobody;
      clear = λ u.
          ap (λ (es : List Edge). owes_both s es u) c.in_ok-form_all.ensures.formed
          ∙ form_clear s c.self.inside.edges c.args.more.now unowed c.self.invariant.clear u;
    }
