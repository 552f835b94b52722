use Rattle.std.specs.Prelude.{◌≡◌, ◌<◌, [], Some, length, slice_get, set}
use Rattle.std.proofs.Common.{rules, ap, sym, refl, ◌∙◌}
use Rattle.std.specs.Option.{option_map_or}
use Rattle.std.proofs.lemmas.Option.{slice_get_read}
use Rattle.acta_sets.specs.declared.listing.ModeList.{ModeList}
use Rattle.acta_sets.specs.declared.mode.ModeKey.{ModeKey}
use Rattle.acta_sets.specs.declared.mode.Holder.TheVariants.{Anyone}
use Rattle.acta_sets.specs.inside.Modes.{total_place}
use Rattle.acta_sets.specs.inside.Listing.{in_table, at_place, numbers_in, front_in}
use Rattle.acta_sets.proofs.Listed.{HaveEnded-same, FrontsHold-put, put-table, set-same}
use Rattle.acta_sets.proofs.coarse_lists.advance_under.Goals as goal

pub front_of-list-requires : goal.front_of-list-requires
front_of-list-requires g c =
    let below : c.in-Some-coarse_place.place < length c.args.lists.now.items = search rules in
    let found : slice_get c.args.lists.now.items c.in-Some-coarse_place.place ≡ Some c.in-Some-get_mut.list.now =
    slice_get_read c.args.lists.now.items (length c.args.lists.now.items) c.in-Some-coarse_place.place c.in-Some-get_mut.list.now refl below c.in-Some-get_mut.ensures.value in
    let ls = c.args.lists.now.items in
    let k : ModeKey = record { holder = Anyone; ob = c.args.ob; mode = c.in-Some.mode } in
    let at : in_table ls k ≡ Some c.in-Some-get_mut.list.now = ap (at_place ls) (sym c.in-Some-coarse_place.ensures.place) ∙ found in
    HaveEnded-same c.args.items.now (numbers_in (in_table ls) k) c.as_slice.result.now (front_in (in_table ls) k) c.in-Some-get_mut.list.now.front
    (ap (λ o. option_map_or (λ l. l.numbers.items) o []) at ∙ sym c.as_slice.ensures.value) (ap (λ o. option_map_or (λ l. l.front) o 0) at) (c.requires k)

pub returns-in-Some-get_mut-clause-numbers : goal.returns-in-Some-get_mut-clause-numbers
returns-in-Some-get_mut-clause-numbers g c = λ q.
    let below : c.in-Some-coarse_place.place < length c.args.lists.now.items = search rules in
    let found : slice_get c.args.lists.now.items c.in-Some-coarse_place.place ≡ Some c.in-Some-get_mut.list.now =
    slice_get_read c.args.lists.now.items (length c.args.lists.now.items) c.in-Some-coarse_place.place c.in-Some-get_mut.list.now refl below c.in-Some-get_mut.ensures.value in
    let w : ModeList g.row.A.Denot = record { numbers = c.in-Some-get_mut.list.now.numbers; front = c.front_of-list.result } in
    set-same (λ (l : ModeList g.row.A.Denot). l.numbers.items) [] c.args.lists.now.items c.in-Some-coarse_place.place w (total_place q) below
    (ap (λ o. option_map_or (λ (l : ModeList g.row.A.Denot). l.numbers.items) o []) (sym (found)))

pub returns-in-Some-get_mut-clause-fronts : goal.returns-in-Some-get_mut-clause-fronts
returns-in-Some-get_mut-clause-fronts g c =
    let below : c.in-Some-coarse_place.place < length c.args.lists.now.items = search rules in
    let found : slice_get c.args.lists.now.items c.in-Some-coarse_place.place ≡ Some c.in-Some-get_mut.list.now =
    slice_get_read c.args.lists.now.items (length c.args.lists.now.items) c.in-Some-coarse_place.place c.in-Some-get_mut.list.now refl below c.in-Some-get_mut.ensures.value in
    let ls = c.args.lists.now.items in
    let k : ModeKey = record { holder = Anyone; ob = c.args.ob; mode = c.in-Some.mode } in
    let w : ModeList g.row.A.Denot = record { numbers = c.in-Some-get_mut.list.now.numbers; front = c.front_of-list.result } in
    FrontsHold-put c.args.items.now (in_table ls) (in_table (set ls c.in-Some-coarse_place.place w)) k w
    (put-table ls k c.in-Some-coarse_place.place w (sym c.in-Some-coarse_place.ensures.place) below) c.requires
    (HaveEnded-same c.args.items.now c.as_slice.result.now c.in-Some-get_mut.list.now.numbers.items c.front_of-list.result c.front_of-list.result c.as_slice.ensures.value refl c.front_of-list.ensures)
