use Rattle.acta_judge.proofs.Generations.{of_child, of_orphan}
use Rattle.acta_judge.proofs.laws.ancestors_are_the_parent_and_its_own.Goals as goal

pub returns-clause-of_a_child : goal.returns-clause-of_a_child
returns-clause-of_a_child g c = λ h t p parent. of_child h t p parent

pub returns-clause-of_no_child : goal.returns-clause-of_no_child
returns-clause-of_no_child g c = λ h t none. of_orphan h t none
