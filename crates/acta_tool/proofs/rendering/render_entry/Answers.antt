use Rattle.std.proofs.Common.{decimal, rules}
use Rattle.acta_script.specs.Answers.{answer_line}
use Rattle.acta_script.specs.Writing.{event_line}
use Rattle.acta_tool.specs.Driving.{entry_line}
use Rattle.acta_tool.proofs.EntryLines.{whole}
use Rattle.acta_tool.proofs.rendering.render_entry.Goals as goal

pub returns : goal.returns
unfolding entry_line
returns g c =
    let entry = c.args.entry.now in
    whole c.args.text.now.items (decimal entry.number) (decimal entry.seat) (event_line c.args.model.now entry.event) (answer_line entry.answer)
    c.extend_from_slice.new.self.items c.push_natural.new.line.items c.push_word.new.line.items c.push_word-2.new.line.items c.push_word-3.new.line.items c.push_line.new.text.items
    (search rules) (search rules) (search rules) (search rules) (search rules) (search rules)
