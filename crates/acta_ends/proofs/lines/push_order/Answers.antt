use Rattle.std.proofs.Common.{codes, map, rules}
use Rattle.acta_ends.specs.EndLines.{step_word}
use Rattle.acta_ends.proofs.Pieces.{whole}
use Rattle.acta_ends.proofs.lines.push_order.Goals as goal

pub returns : goal.returns
returns g c =
    whole c.args.text.now.items c.extend_from_slice.new.self.items c.push_steps.new.text.items c.push_line.new.text.items
    (codes "order") (map (step_word c.args.lines.now c.args.numbers.now) c.args.steps.now)
    (search rules) (search rules) (search rules)
