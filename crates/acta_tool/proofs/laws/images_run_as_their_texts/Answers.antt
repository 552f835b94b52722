use Rattle.std.proofs.Common.{ap}
use Rattle.acta_machine.specs.Table.{run_answers, run_state}
use Rattle.acta_image.specs.Spelling.{image}
use Rattle.acta_tool.specs.Driving.{task_of}
use Rattle.acta_tool.proofs.TextsAndImages.{found_equivalent, loaded_is, written_equivalent}
use Rattle.acta_tool.proofs.laws.images_run_as_their_texts.Goals as goal

pub returns-clause-answers : goal.returns-clause-answers
returns-clause-answers g c = λ m events is. ap (λ p. run_answers p events) (loaded_is c.args.model.now m c.lemma_invariant.ensures is)

pub returns-clause-state : goal.returns-clause-state
returns-clause-state g c = λ m events is. ap (λ p. run_state p events) (loaded_is c.args.model.now m c.lemma_invariant.ensures is)

pub returns-clause-output : goal.returns-clause-output
returns-clause-output g c = λ command input takes. written_equivalent command (image c.args.model.now) c.args.text.now input (found_equivalent c.args.text.now c.args.model.now c.requires c.lemma_invariant.ensures) takes

pub returns-clause-driven : goal.returns-clause-driven
returns-clause-driven g c = λ workers turns input. ap (λ found. task_of workers turns found input) (found_equivalent c.args.text.now c.args.model.now c.requires c.lemma_invariant.ensures)
