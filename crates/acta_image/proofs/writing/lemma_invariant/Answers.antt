use Rattle.acta_image.proofs.Images.{few-names, written-again, short-classes, short-objects}
use Rattle.acta_image.proofs.writing.lemma_invariant.Goals as goal

pub returns-clause-again : goal.returns-clause-again
returns-clause-again g c = written-again c.args.model.now c.lemma_invariant.ensures

pub returns-clause-objects : goal.returns-clause-objects
returns-clause-objects g c = short-objects c.args.model.now c.lemma_invariant.ensures

pub returns-clause-classes : goal.returns-clause-classes
returns-clause-classes g c = short-classes c.args.model.now c.lemma_invariant.ensures

pub returns-clause-few : goal.returns-clause-few
returns-clause-few g c = few-names c.args.model.now c.lemma_invariant.ensures
