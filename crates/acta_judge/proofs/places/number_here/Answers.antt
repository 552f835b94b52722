use Rattle.std.proofs.Common.{ap, ◌∙◌, ◌+◌, length}
use Rattle.acta_judge.proofs.Counting.{number_shown}
use Rattle.acta_judge.proofs.places.number_here.Goals as goal

pub returns : goal.returns
returns g c =
    ap (λ xs. length xs + 1) c.operations.ensures.operations ∙ number_shown c.args.walk.now.model c.args.walk.now.front
