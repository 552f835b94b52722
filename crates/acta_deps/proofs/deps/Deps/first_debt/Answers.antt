use Rattle.acta_deps.specs.inside.BlockKinds.{owes}
use Rattle.acta_deps.specs.inside.Changes.{status_after}
use Rattle.acta_deps.proofs.Blocks.{numbered-first, numbered-party}
use Rattle.acta_deps.proofs.deps.Deps.first_debt.Goals as goal

pub returns-clause-number : goal.returns-clause-number
returns-clause-number g c =
    numbered-first (owes c.args.missing (status_after c.args.self.now c.args.change) c.args.number) c.args.self.now.edges c.in_ok-first.first c.numbered.result c.in_ok-first.ensures c.numbered.ensures.edge c.numbered.ensures.number

pub returns-clause-party : goal.returns-clause-party
returns-clause-party g c =
    numbered-party c.args.missing (status_after c.args.self.now c.args.change) c.args.number c.args.self.now.edges c.in_ok-first.first c.numbered.result c.in_ok-first.ensures c.numbered.ensures.edge
