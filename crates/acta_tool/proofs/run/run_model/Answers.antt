use Rattle.std.proofs.Common.{◌∙◌, ap}
use Rattle.acta_machine.specs.Table.{run_answers, run_state}
use Rattle.acta_tool.proofs.Outputs.{whole}
use Rattle.acta_tool.proofs.run.run_model.Goals as goal

pub returns : goal.returns
returns g c =
    (λ i. record { is_refused = c.is_some.ensures i; text = c.in_ok-reported.field-0.items })
    ∙ whole c.args.is_kept c.args.model _ c.in_ok-read.read.parsed.items c.in_ok-read.read.stop c.in_ok-run.run'.answers c.in_ok-run.run'.machine c.in_ok-reported.field-0.items
    c.in_ok-read.ensures.parsed
    (c.in_ok-run.ensures.answers ∙ ap (run_answers c.args.model) c.as_slice.ensures.value)
    (c.in_ok-run.ensures.machine ∙ ap (run_state c.args.model) c.as_slice.ensures.value)
    c.in_ok-reported.ensures
