use Rattle.std.specs.Prelude.{find, drop}
use Rattle.std.proofs.Common.{ap, ◌∙◌}
use Rattle.std.proofs.lemmas.List.{take_rest}
use Rattle.acta_sets.specs.Operations.{is_against}
use Rattle.acta_sets.specs.inside.Listing.{passes_at}
use Rattle.acta_sets.proofs.Listed.{find-ended, against_open}
use Rattle.acta_sets.proofs.listing.first_of_list.Goals as goal

pub returns-then-list-numbers : goal.returns-then-list-numbers
returns-then-list-numbers g c =
    let test = is_against c.args.t.0 c.args.exempts.now.keys c.args.ob.0 c.args.op.now in
    let list = c.args.list.now in
    c.first_of.ensures
    ∙ ap (find (passes_at test c.args.items.now)) (take_rest c.as_slice-numbers.result.now list.front ∙ ap (drop list.front) c.as_slice-numbers.ensures.value)
    ∙ find-ended test c.args.items.now list.numbers.items list.front (against_open c.args.t.0 c.args.exempts.now.keys c.args.ob.0 c.args.op.now) c.requires.1

pub returns-else-list-numbers : goal.returns-else-list-numbers
returns-else-list-numbers g c =
    c.first_of-else-list-numbers.ensures ∙ ap (find (passes_at (is_against c.args.t.0 c.args.exempts.now.keys c.args.ob.0 c.args.op.now) c.args.items.now)) c.as_slice-numbers.ensures.value
