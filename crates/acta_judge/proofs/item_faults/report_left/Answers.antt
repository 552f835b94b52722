use Rattle.std.proofs.Common.{◌≡◌, ◌++◌, ℕ, List, [], ◌∷◌, map, filter, not, refl, ap, subst, ◌∙◌}
use Rattle.std.specs.Prelude.{OnOk}
use Rattle.acta_table.specs.Sets.{numbers_of, is_named}
use Rattle.acta_axioms.specs.Faults.{faults_of}
use Rattle.acta_axioms.specs.Operations.{Operation, access_set}
use Rattle.acta_axioms.specs.Walks.{op_numbers}
use Rattle.acta_judge.proofs.item_faults.report_left.Goals as goal

numbered : (os : List Operation) → numbers_of (op_numbers os) ≡ map (λ q. q.number) os
numbered [] = refl
numbered (o ∷ os) = ap (λ ns. o.number ∷ ns) (numbered os)

pub returns : goal.returns
returns g c =
    let held = access_set c.args.walk.now.model c.args.walk.now.front c.args.t.0 in
    let same : numbers_of c.as_slice.result.now ≡ map (λ q. q.number) held = ap numbers_of (c.as_slice.ensures.value ∙ c.in_ok-held.ensures) ∙ numbered held in
    subst (λ (ns : List ℕ). OnOk c.report_unnamed.result (c.report_unnamed.new.faults.items ≡ c.args.faults.now.items ++ (faults_of c.args.breach.broken c.args.breach.place (filter (λ o. not (is_named c.args.ops.now o)) ns)))) same c.report_unnamed.ensures
