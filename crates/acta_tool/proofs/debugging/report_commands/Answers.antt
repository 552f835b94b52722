use Rattle.std.proofs.Common.{ap, ◌∙◌}
use Rattle.acta_debug.specs.Cursors.{CursorState}
use Rattle.acta_io.specs.inside.Sections.{parsed_of}
use Rattle.acta_tool.proofs.DebugOutputs.{whole}
use Rattle.acta_tool.proofs.debugging.report_commands.Goals as goal

pub returns : goal.returns
returns g c =
    (λ i. record { is_refused = c.is_some.ensures i; text = c.render_last.new.text.items })
    ∙ whole c.args.model c.args.events.now (parsed_of c.args.commands.now) c.new-cursor.result.session c.as_slice.result.now c.new-text.result.items c.render_commands-reported.new.text.items c.render_last.new.text.items
    (ap (λ (k : CursorState g.row.A.Denot). k.session) c.new-cursor.ensures ∙ c.in_ok-debugger.ensures) c.as_slice.ensures.value c.new-text.ensures.items c.in_ok-reported.ensures c.in_ok-render_last.ensures
