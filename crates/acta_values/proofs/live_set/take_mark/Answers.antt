use Rattle.std.proofs.Common.{◌+◌, ◌∙◌, ap, sym}
use Rattle.acta_values.specs.LiveSets.{one_if, count_on}
use Rattle.acta_values.proofs.LiveSets.{counted_written}
use Rattle.acta_values.proofs.live_set.take_mark.Goals as goal

pub returns-in-Some-clause-count : goal.returns-in-Some-clause-count
returns-in-Some-clause-count g c =
    (λ i. count_on ((c.get_mut.follows.holds c.remove.new.self).0 i) + one_if (c.last_or-was.ensures i))
    ∙ counted_written _ c.args.marks.now.entries c.in-Some.trail.now c.remove.new.self (sym c.in-Some.ensures.value)
    ∙ ap (λ b. count_on c.args.marks.now.entries + one_if b) (sym c.last_or.ensures)
