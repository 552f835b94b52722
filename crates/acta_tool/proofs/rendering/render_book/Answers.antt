use Rattle.std.proofs.Common.{◌∙◌}
use Rattle.acta_tool.proofs.BookLines.{whole}
use Rattle.acta_tool.proofs.rendering.render_book.Goals as goal

pub returns : goal.returns
returns g c =
    whole c.args.book.now c.args.fronts.now c.model.result.now c.entries.result.now c.machine-machine.result.now c.args.text.now.items c.render_entries.new.text.items c.render_fronts.new.text.items c.push_debt_lines.new.text.items
    (c.model.ensures ∙ c.machine-machine.ensures.model) c.entries.ensures.entries c.machine-machine.ensures.machine c.in_ok-render_entries.ensures c.in_ok-render_fronts.ensures c.in_ok-push_debt_lines.ensures
