use Rattle.std.proofs.Common.{◌≡◌, ◌≤◌, ℕ, List, length, arith, ap, ◌∙◌}
use Rattle.acta_table.specs.declared.answer.Status.{Status}
use Rattle.acta_deps.specs.Deps.{DepState, status_of, status_listed}
use Rattle.acta_deps.specs.Debts.{owes_both}
use Rattle.acta_deps.proofs.StatusTables.{same_listed}
use Rattle.acta_deps.proofs.deps.Deps.make_room.Goals as goal

pub invariant_of-self : goal.invariant_of-self
invariant_of-self g c =
    let before : List Status = c.self.inside.statuses.items in
    let after : List Status = c.lengthen.new.items.items in
    let same : status_listed after ≡ status_listed before = same_listed after before c.lengthen.ensures.same in
    let few : length before ≤ 16384 = c.self.invariant.few in
    record {
      few = let grown = c.lengthen.ensures.few in let small = c.requires in omega arith;
      nobody = ap (λ (f : ℕ → Status). f 0) same ∙ c.self.invariant.nobody;
      clear = λ u. ap (λ (f : ℕ → Status). owes_both f c.self.inside.edges u) same ∙ c.self.invariant.clear u;
    }

pub returns-clause-status : goal.returns-clause-status
returns-clause-status g c =
    same_listed c.lengthen.new.items.items c.self.inside.statuses.items c.lengthen.ensures.same
    ∙ ap (λ (d : DepState). status_of d) c.self.view_is
