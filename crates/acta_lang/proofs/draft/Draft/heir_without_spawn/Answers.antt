use Rattle.std.proofs.Common.{◌&&◌, false, option_map, sym, ◌∙◌}
use Rattle.std.specs.Option.{option_map_or}
use Rattle.acta_table.specs.Faults.{lacks_parents}
use Rattle.acta_lang.specs.Drafts.{closed}
use Rattle.acta_lang.specs.Faults.{heir_without_spawn}
use Rattle.acta_lang.specs.inside.Abstraction.{current_shown}
use Rattle.acta_lang.proofs.draft.Draft.heir_without_spawn.Goals as goal

pub returns-then-is_end : goal.returns-then-is_end
unfolding heir_without_spawn
returns-then-is_end g c =
    let is_end = sym c.is_end.ensures ∙ c.if-is_end.true in
    c.lacks_parents.ensures c.in-Some.class.name.now
    ∙ sym (λ i. is_end i && option_map_or (λ c. lacks_parents (closed {A = g.row.A.Denot} c)) (option_map current_shown (c.in-Some.is i)) false)
