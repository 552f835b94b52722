use Rattle.std.proofs.Common.{◌&&◌, ◌∙◌, ℕ, Bool, List, Option, sym, ap}
use Rattle.std.specs.List.{list_any}
use Rattle.std.proofs.lemmas.Bool.{eq-eqb}
use Rattle.acta_table.specs.declared.dep.Edge.{Edge}
use Rattle.acta_table.specs.declared.dep.Missing.{Missing}
use Rattle.acta_table.specs.declared.answer.Status.{Status}
use Rattle.acta_deps.specs.Deps.{status_of}
use Rattle.acta_deps.specs.Debts.{debt_of, owes_commit, owes_abort}
use Rattle.acta_deps.specs.Statuses.{with_status}
use Rattle.acta_deps.specs.inside.BlockKinds.{other_of, would_owe_both}
use Rattle.acta_deps.proofs.Clashes.{would_owe_both_by}
use Rattle.acta_deps.proofs.deps.Deps.would_owe_both.Goals as goal

pub returns-then-e-change : goal.returns-then-e-change
returns-then-e-change g c =
    let t : ℕ = c.args.change.txn.0 in
    let s' : ℕ → Status = with_status (status_of c.args.self.now) t c.args.change.status in
    let es : List Edge = c.args.self.now.edges in
    let e : Edge = c.edge-e.result.now in
    let other : Option Missing → Bool = λ o. other_of o (list_any (owes_commit s' e.j.0) es) (list_any (owes_abort s' e.j.0) es) in
    λ d.
    c.owes_other-is_other.ensures
    ∙ ap other c.debt_after-debt.ensures
    ∙ ap (λ b. b && other (debt_of s' e)) (sym (eq-eqb e.i.0 t c.if-e-change.true))
    ∙ sym (would_owe_both_by s' es t c.args.place e c.requires.place c.requires.within c.edge-e.ensures)
    ∙ ap (would_owe_both s' es t) (c.edge-e.ensures d)
