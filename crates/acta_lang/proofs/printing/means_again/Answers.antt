use Rattle.acta_lang.proofs.ReadAgain.{read_again}
use Rattle.acta_lang.proofs.printing.means_again.Goals as goal

pub returns : goal.returns
returns g c = read_again c.args.model.now c.lemma_invariant.ensures
