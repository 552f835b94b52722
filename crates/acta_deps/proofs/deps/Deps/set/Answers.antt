use Rattle.std.proofs.Common.{◌<◌, ◌≤◌, ◌∙◌, ℕ, ap, sym, subst, length, length-set}
use Rattle.acta_table.specs.declared.answer.Status.{Status}
use Rattle.acta_deps.specs.Deps.{DepState, status_of}
use Rattle.acta_deps.specs.Debts.{owes_both}
use Rattle.acta_deps.specs.Statuses.{with_status}
use Rattle.acta_deps.proofs.StatusTables.{status_set, front_kept}
use Rattle.acta_deps.proofs.deps.Deps.set.Goals as goal

pub returns-clause-status : goal.returns-clause-status
returns-clause-status g c =
    let within : c.args.t.0 < length c.self.inside.statuses.items = subst (λ (d : DepState). c.args.t.0 < length d.statuses) (sym c.self.view_is) c.requires.room in
    status_set c.self.inside.statuses.items c.args.t.0 c.args.status within ∙ ap (λ (d : DepState). with_status (status_of d) c.args.t.0 c.args.status) c.self.view_is

pub invariant_of-self : goal.invariant_of-self
invariant_of-self g c =
    let within : c.args.t.0 < length c.self.inside.statuses.items = subst (λ (d : DepState). c.args.t.0 < length d.statuses) (sym c.self.view_is) c.requires.room in
    record {
      few = subst (λ (n : ℕ). n ≤ 16384) (sym (length-set c.self.inside.statuses.items c.args.t.0 c.args.status)) c.self.invariant.few;
      nobody = front_kept c.self.inside.statuses.items c.args.t.0 c.args.status c.requires.low ∙ c.self.invariant.nobody;
      clear = λ u.
          ap (λ (f : ℕ → Status). owes_both f c.self.inside.edges u) (status_set c.self.inside.statuses.items c.args.t.0 c.args.status within)
          ∙ ap (λ (d : DepState). owes_both (with_status (status_of d) c.args.t.0 c.args.status) d.edges u) c.self.view_is
          ∙ c.requires.clear u;
    }
