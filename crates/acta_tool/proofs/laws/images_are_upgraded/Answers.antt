use Rattle.std.proofs.Common.{ap}
use Rattle.acta_image.specs.Spelling.{image, image_in}
use Rattle.acta_tool.specs.declared.args.Command.TheVariants.{Upgrade}
use Rattle.acta_tool.specs.Output.{output_by}
use Rattle.acta_tool.proofs.TextsAndImages.{found_in, found_in_both, written_equivalent}
use Rattle.acta_tool.proofs.laws.images_are_upgraded.Goals as goal

pub returns-clause-upgraded : goal.returns-clause-upgraded
returns-clause-upgraded g c = λ version input has. ap (λ found. output_by Upgrade found input) (found_in version c.args.model.now c.lemma_invariant.ensures has)

pub returns-clause-output : goal.returns-clause-output
returns-clause-output g c = λ version command input has takes. written_equivalent command (image_in version c.args.model.now) (image c.args.model.now) input (found_in_both version c.args.model.now c.lemma_invariant.ensures has) takes
