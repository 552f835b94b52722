use Rattle.acta_words.proofs.FirstLines.{few_lines}
use Rattle.acta_words.proofs.lines.Lines.of.Goals as goal

pub returns-clause-count : goal.returns-clause-count
returns-clause-count c = few_lines c.args.text.now
