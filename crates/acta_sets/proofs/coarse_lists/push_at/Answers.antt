use Rattle.std.specs.Prelude.{◌≡◌, Some, length, slice_get, set}
use Rattle.std.proofs.Common.{ap, sym, refl, ◌∙◌}
use Rattle.std.specs.Option.{option_map_or}
use Rattle.std.proofs.lemmas.Option.{slice_get_read}
use Rattle.acta_sets.specs.declared.listing.ModeList.{ModeList}
use Rattle.acta_sets.specs.inside.Modes.{total_place}
use Rattle.acta_sets.specs.inside.Listing.{in_table, at_place}
use Rattle.acta_sets.proofs.Listed.{numbers-more, put-table, set-same}
use Rattle.acta_sets.proofs.coarse_lists.push_at.Goals as goal

pub returns-in-Some-clause-numbers : goal.returns-in-Some-clause-numbers
returns-in-Some-clause-numbers g c = λ k q at.
    let found : slice_get c.args.lists.now.items c.args.place ≡ Some c.in-Some.list.now = slice_get_read c.args.lists.now.items (length c.args.lists.now.items) c.args.place c.in-Some.list.now refl c.requires.there c.in-Some.ensures.value in
    let ls = c.args.lists.now.items in
    let w : ModeList g.row.A.Denot = record { numbers = c.push_reserved.new.self; front = c.in-Some.list.now.front } in
    numbers-more (in_table ls) (in_table (set ls c.args.place w)) k c.in-Some.list.now w c.args.number (put-table ls k c.args.place w at c.requires.there) (ap (at_place ls) at ∙ found) c.push_reserved.ensures.items q

pub returns-in-Some-clause-fronts : goal.returns-in-Some-clause-fronts
returns-in-Some-clause-fronts g c = λ q.
    let found : slice_get c.args.lists.now.items c.args.place ≡ Some c.in-Some.list.now = slice_get_read c.args.lists.now.items (length c.args.lists.now.items) c.args.place c.in-Some.list.now refl c.requires.there c.in-Some.ensures.value in
    let w : ModeList g.row.A.Denot = record { numbers = c.push_reserved.new.self; front = c.in-Some.list.now.front } in
    set-same (λ (l : ModeList g.row.A.Denot). l.front) 0 c.args.lists.now.items c.args.place w (total_place q) c.requires.there
    (ap (λ o. option_map_or (λ (l : ModeList g.row.A.Denot). l.front) o 0) (sym (found)))
