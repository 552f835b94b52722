use Rattle.std.proofs.Common.{◌∙◌, ap, sym}
use Rattle.acta_values.specs.LiveSets.{Marks, count_on}
use Rattle.acta_values.proofs.LiveSets.{length_elements}
use Rattle.acta_values.proofs.live_set.LiveSet.len.Goals as goal

pub returns-clause-len : goal.returns-clause-len
returns-clause-len g c = c.self.invariant ∙ ap (λ (marks : Marks). count_on marks) c.self.view_is ∙ sym (length_elements c.args.self.now)
