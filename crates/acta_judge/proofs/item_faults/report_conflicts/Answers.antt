use Rattle.std.proofs.Common.{rules, ◌≡◌, List, [], ◌∷◌, map, refl, ap, ◌∙◌}
use Rattle.acta_axioms.specs.Operations.{Operation}
use Rattle.acta_axioms.specs.Values.{conflicting}
use Rattle.acta_axioms.specs.Walks.{op_numbers}
use Rattle.acta_judge.proofs.item_faults.report_conflicts.Goals as goal

numbered : (os : List Operation) → map (λ o. o.0) (op_numbers os) ≡ map (λ o. o.number) os
numbered [] = refl
numbered (o ∷ os) = ap (λ ns. o.number ∷ ns) (numbered os)

pub returns-in_ok-ops-in-Operate : goal.returns-in_ok-ops-in-Operate
returns-in_ok-ops-in-Operate g c =
    let ops = conflicting c.args.walk.now.model c.args.walk.now.front c.in-Operate.t.0 c.in-Operate.object.0 c.in-Operate.op in
    let same = ap (map (λ o. o.0)) (c.as_slice.ensures.value ∙ c.in_ok-ops-in-Operate.ensures) ∙ numbered ops in
    search (rules, same)
