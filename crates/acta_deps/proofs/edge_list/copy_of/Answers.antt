use Rattle.std.proofs.lemmas.List.Elements.{same_from_all_zip}
use Rattle.acta_deps.proofs.edge_list.copy_of.Goals as goal

pub returns : goal.returns
returns g c = same_from_all_zip _ _ _ c.in_ok-copy.ensures.cases (λ x y r. r)
