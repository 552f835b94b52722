use Rattle.std.proofs.Common.{map, List, ℕ, IfErr, ap, subst, ◌∙◌}
use Rattle.acta_script.specs.Reading.{IsWhy, alternatives_in}
use Rattle.acta_script.proofs.programs.parse_alternatives.Goals as goal

pub returns-clause-fault : goal.returns-clause-fault
returns-clause-fault g c =
    subst (λ (parts : List (List (List ℕ))). IfErr c.alternatives_in.result (IsWhy (alternatives_in {A = g.row.A.Denot} c.args.model.now parts)))
    (ap (map (λ part. map (λ word. word.now) part.now)) c.deref.ensures.value ∙ c.in_ok-parts.ensures)
    c.alternatives_in.ensures.fault
