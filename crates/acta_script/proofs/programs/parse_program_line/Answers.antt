use Rattle.std.proofs.Common.{◌-◌, length, map, take, drop}
use Rattle.acta_script.proofs.Alternatives.{some-alternative}
use Rattle.acta_script.proofs.programs.parse_program_line.Goals as goal

pub returns-in_ok-seat-in-Ok-clause-some : goal.returns-in_ok-seat-in-Ok-clause-some
returns-in_ok-seat-in-Ok-clause-some g c =
    let words = c.args.words.now in
    some-alternative c.args.model.now (map (λ word. word.now) (take (length words - 1) (drop 1 words))) c.in-Ok.alternatives c.in-Ok.ensures.ok
