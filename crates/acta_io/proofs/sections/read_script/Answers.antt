use Rattle.std.proofs.Common.{◌∙◌}
use Rattle.std.specs.Prelude.{None}
use Rattle.acta_io.proofs.DebugScripts.{all_events, no_commands}
use Rattle.acta_io.proofs.sections.read_script.Goals as goal

pub returns-in-None-clause-events : goal.returns-in-None-clause-events
returns-in-None-clause-events g c =
    all_events c.args.model.now c.args.input.now c.in_ok-parsed.field-0.parsed.items (c.in_ok-parsed.ensures.parsed ∙ (λ i. record { parsed = c.in_ok-parsed.field-0.parsed.items; stop = c.in-None.is i }))

pub returns-in-None-clause-commands : goal.returns-in-None-clause-commands
returns-in-None-clause-commands g c =
    (λ i. record { parsed = c.new.ensures.items i; stop = None })
    ∙ no_commands c.args.model.now c.args.input.now c.in_ok-parsed.field-0.parsed.items (c.in_ok-parsed.ensures.parsed ∙ (λ i. record { parsed = c.in_ok-parsed.field-0.parsed.items; stop = c.in-None.is i }))
