use Rattle.std.proofs.Common.{ap, length, ◌∙◌}
use Rattle.acta_words.specs.Text.{lines_of}
use Rattle.acta_machine.specs.Table.{fresh}
use Rattle.acta_io.specs.Input.{line_numbers}
use Rattle.acta_compare.specs.inside.Lines.{seen_from, state_from}
use Rattle.acta_compare.proofs.Trying.{each-seen}
use Rattle.acta_compare.proofs.trial.Trial.of.Goals as goal

pub returns-clause-seen : goal.returns-clause-seen
returns-clause-seen g c =
    c.in_ok-seen.ensures.seen
    ∙ ap (λ s. seen_from s (lines_of c.args.input.now)) (c.in_ok-machine.ensures.fresh ∙ ap fresh c.in_ok-copy.ensures)

pub returns-clause-each : goal.returns-clause-each
unfolding line_numbers
returns-clause-each g c =
    ap length c.in_ok-seen.ensures.seen ∙ each-seen c.in_ok-machine.machine (lines_of c.args.input.now) 1

pub returns-clause-machine : goal.returns-clause-machine
returns-clause-machine g c =
    c.in_ok-seen.ensures.machine
    ∙ ap (λ s. state_from s (lines_of c.args.input.now)) (c.in_ok-machine.ensures.fresh ∙ ap fresh c.in_ok-copy.ensures)
