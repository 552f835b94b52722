use Rattle.std.specs.Prelude.{◌≡◌, ◌<◌, ◌≤◌, Some, [], ℕ, Option, length, slice_get}
use Rattle.std.proofs.Common.{rules, refl, ap, sym, ◌∙◌}
use Rattle.std.specs.Option.{option_map_or}
use Rattle.std.proofs.lemmas.Option.{slice_get_read, slice_get_past}
use Rattle.acta_sets.specs.declared.listing.ModeList.{ModeList}
use Rattle.acta_sets.specs.declared.mode.Holder.TheVariants.{Anyone}
use Rattle.acta_sets.specs.declared.mode.ModeKey.{ModeKey}
use Rattle.acta_table.specs.Numbered.{numbers_where}
use Rattle.acta_sets.specs.inside.Listing.{at_place, belongs}
use Rattle.acta_sets.specs.inside.Modes.{coarse}
use Rattle.acta_sets.proofs.table.OpTable.in_mode.Goals as goal

pub returns-in_default : goal.returns-in_default
returns-in_default g c =
    let ls = c.self.inside.coarse.items in
    let k : ModeKey = record { holder = Anyone; ob = c.args.ob; mode = c.args.mode } in
    sym (ap (λ (place : Option ℕ). option_map_or (λ (l : ModeList g.row.A.Denot). l.numbers.items) (at_place ls place) []) (sym c.coarse_place.ensures.place ∙ c.in_default.is))
    ∙ c.self.invariant.coarse k
    ∙ ap (numbers_where (belongs coarse k)) c.self.view_is

pub returns-then-place-len : goal.returns-then-place-len
returns-then-place-len g c =
    let ls = c.self.inside.coarse.items in
    let k : ModeKey = record { holder = Anyone; ob = c.args.ob; mode = c.args.mode } in
    let below : c.in-Some.place < length ls = search rules in
    let found : slice_get ls c.in-Some.place ≡ Some c.index.result.now = slice_get_read ls (length ls) c.in-Some.place c.index.result.now refl below c.index.ensures in
    c.as_slice.ensures.value
    ∙ ap (λ o. option_map_or (λ (l : ModeList g.row.A.Denot). l.numbers.items) o []) (sym (ap (at_place ls) (sym c.in-Some.ensures.place) ∙ found))
    ∙ c.self.invariant.coarse k
    ∙ ap (numbers_where (belongs coarse k)) c.self.view_is

pub returns-else-place-len : goal.returns-else-place-len
returns-else-place-len g c =
    let ls = c.self.inside.coarse.items in
    let k : ModeKey = record { holder = Anyone; ob = c.args.ob; mode = c.args.mode } in
    let past : length ls ≤ c.in-Some.place = search rules in
    ap (λ o. option_map_or (λ (l : ModeList g.row.A.Denot). l.numbers.items) o []) (sym (ap (at_place ls) (sym c.in-Some.ensures.place) ∙ slice_get_past ls c.in-Some.place past))
    ∙ c.self.invariant.coarse k
    ∙ ap (numbers_where (belongs coarse k)) c.self.view_is
