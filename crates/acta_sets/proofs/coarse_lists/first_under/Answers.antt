use Rattle.std.specs.Prelude.{◌≡◌, ◌<◌, ◌≤◌, [], Some, None, find, length, slice_get}
use Rattle.std.proofs.Common.{rules, refl, ap, sym, ◌∙◌}
use Rattle.std.specs.Option.{option_map_or}
use Rattle.std.proofs.lemmas.Option.{slice_get_read, slice_get_past}
use Rattle.acta_sets.specs.declared.mode.ModeKey.{ModeKey}
use Rattle.acta_sets.specs.declared.mode.Holder.TheVariants.{Anyone}
use Rattle.acta_sets.specs.Operations.{is_against}
use Rattle.acta_sets.specs.inside.Listing.{in_table, at_place, numbers_in, front_in, passes_at}
use Rattle.acta_sets.proofs.Listed.{HaveEnded-same}
use Rattle.acta_sets.proofs.coarse_lists.first_under.Goals as goal

pub first_of_list-requires : goal.first_of_list-requires
first_of_list-requires g c =
    let ls = c.args.lists.now.items in
    let k : ModeKey = record { holder = Anyone; ob = c.args.ob.0; mode = c.args.mode } in
    let list = c.index.result.now in
    let below : c.in_ok-place.place < length ls = search rules in
    let found : slice_get ls c.in_ok-place.place ≡ Some list = slice_get_read ls (length ls) c.in_ok-place.place list refl below c.index.ensures in
    let at : in_table ls k ≡ Some list = ap (at_place ls) (sym c.in_ok-place.ensures.place) ∙ found in
    HaveEnded-same c.args.items.now (numbers_in (in_table ls) k) list.numbers.items (front_in (in_table ls) k) list.front
    (ap (λ o. option_map_or (λ l. l.numbers.items) o []) at) (ap (λ o. option_map_or (λ l. l.front) o 0) at) (c.requires k)

pub returns-then-place-len : goal.returns-then-place-len
returns-then-place-len g c =
    let ls = c.args.lists.now.items in
    let k : ModeKey = record { holder = Anyone; ob = c.args.ob.0; mode = c.args.mode } in
    let list = c.index.result.now in
    let below : c.in_ok-place.place < length ls = search rules in
    let found : slice_get ls c.in_ok-place.place ≡ Some list = slice_get_read ls (length ls) c.in_ok-place.place list refl below c.index.ensures in
    let at : in_table ls k ≡ Some list = ap (at_place ls) (sym c.in_ok-place.ensures.place) ∙ found in
    c.first_of_list.ensures ∙ ap (find (passes_at (is_against c.args.t.0 c.args.exempts.now.keys c.args.ob.0 c.args.op.now) c.args.items.now)) (sym (ap (λ o. option_map_or (λ l. l.numbers.items) o []) at))

pub returns-else-place-len : goal.returns-else-place-len
returns-else-place-len g c =
    let ls = c.args.lists.now.items in
    let k : ModeKey = record { holder = Anyone; ob = c.args.ob.0; mode = c.args.mode } in
    let past : length ls ≤ c.in_ok-place.place = search rules in
    let at : in_table ls k ≡ None = ap (at_place ls) (sym c.in_ok-place.ensures.place) ∙ slice_get_past ls c.in_ok-place.place past in
    ap (find (passes_at (is_against c.args.t.0 c.args.exempts.now.keys c.args.ob.0 c.args.op.now) c.args.items.now)) (sym (ap (λ o. option_map_or (λ l. l.numbers.items) o []) at))
