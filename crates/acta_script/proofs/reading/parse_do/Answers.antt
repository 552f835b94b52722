use Rattle.acta_script.proofs.DoSaid.{parse_do-short}
use Rattle.acta_script.proofs.reading.parse_do.Goals as goal

pub returns-in_default-clause-parsed : goal.returns-in_default-clause-parsed
returns-in_default-clause-parsed g c = parse_do-short c.args.model.now (λ word. word.now) c.args.words.now c.in_default.len_below
