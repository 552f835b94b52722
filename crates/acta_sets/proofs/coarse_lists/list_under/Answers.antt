use Rattle.std.specs.Prelude.{◌++◌, ◌∷◌, [], Option, if◌then◌else◌}
use Rattle.std.proofs.Common.{ap, sym, ◌∙◌}
use Rattle.acta_sets.specs.declared.mode.ModeKey.{ModeKey}
use Rattle.acta_sets.specs.declared.mode.LockMode.{LockMode}
use Rattle.acta_sets.specs.declared.mode.Holder.TheVariants.{Anyone}
use Rattle.acta_sets.specs.inside.Listing.{in_table, numbers_in, is_key}
use Rattle.acta_sets.proofs.coarse_lists.list_under.Goals as goal

pub returns-in-Some-coarse_place-clause-numbers : goal.returns-in-Some-coarse_place-clause-numbers
returns-in-Some-coarse_place-clause-numbers g c = λ q.
    let k : ModeKey = record { holder = Anyone; ob = c.args.ob; mode = c.in-Some.mode } in
    let before = numbers_in (in_table c.args.lists.now.items) q in
    c.push_at.ensures.numbers k q (sym c.in-Some-coarse_place.ensures.place)
    ∙ ap (λ (mode : Option LockMode). if is_key q c.args.ob mode then before ++ c.args.number ∷ [] else before) (sym c.in-Some.is)
