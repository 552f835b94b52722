use Rattle.std.proofs.Common.{sym, ◌∙◌}
use Rattle.acta_table.specs.declared.dep.Missing.TheVariants.{Commit, Abort}
use Rattle.acta_table.specs.Numbered.{first_number}
use Rattle.acta_deps.specs.inside.BlockKinds.{owes}
use Rattle.acta_deps.specs.inside.Changes.{status_after}
use Rattle.acta_deps.proofs.Blocks.{owing-first}
use Rattle.acta_deps.proofs.deps.Deps.clash_edges.Goals as goal

pub returns-in_err-commit-clause-txn : goal.returns-in_err-commit-clause-txn
returns-in_err-commit-clause-txn g c =
    absurd (owing-first (status_after c.args.self.now c.args.change) c.args.self.now.edges c.in_ok-number.number Commit (sym c.in_ok-number.ensures) (sym c.in_err-commit.ensures.number))

pub returns-in_err-abort-clause-txn : goal.returns-in_err-abort-clause-txn
returns-in_err-abort-clause-txn g c =
    absurd (owing-first (status_after c.args.self.now c.args.change) c.args.self.now.edges c.in_ok-number.number Abort (sym c.in_ok-number.ensures) (sym c.in_err-abort.ensures.number))

pub returns-clause-so : goal.returns-clause-so
returns-clause-so g c = (
  ((λ i. first_number (owes Commit (status_after c.args.self.now c.args.change) (c.in_ok-commit.ensures.party i)) c.args.self.now.edges) ∙ sym c.in_ok-commit.ensures.number, c.in_ok-commit.ensures.edge),
  ((λ i. first_number (owes Abort (status_after c.args.self.now c.args.change) (c.in_ok-commit.ensures.party i)) c.args.self.now.edges) ∙ sym c.in_ok-abort.ensures.number, c.in_ok-abort.ensures.edge),
)
