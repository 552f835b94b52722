use Rattle.acta_script.proofs.SplitSaid.{parse_split-second}
use Rattle.acta_script.proofs.Reported.{reported}
use Rattle.acta_script.proofs.reading.parse_split.Goals as goal

pub returns-in_err-u-clause-fault : goal.returns-in_err-u-clause-fault
returns-in_err-u-clause-fault g c =
    reported _ _ c.in_err-u.field-0.0
    (parse_split-second c.args.model.now (λ word. word.now) c.args.words.now _ c.in_ok-t.t c.in_err-u.field-0.0 c.in-len4.len_at_least c.in-len4.len_below c.in_ok-t.ensures c.in_err-u.ensures)
    c.from_residual-in_err-u.ensures.1
