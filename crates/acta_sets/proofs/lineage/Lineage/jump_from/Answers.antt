use Rattle.std.specs.Prelude.{◌≡◌, true}
use Rattle.std.proofs.Common.{ap, sym, subst, ◌∙◌}
use Rattle.acta_sets.specs.declared.lineage.Entry.{Entry}
use Rattle.acta_sets.specs.Lineages.{Lineage, is_above, IsWellFounded}
use Rattle.acta_sets.proofs.Lineages.{line-through, above-line}
use Rattle.acta_sets.proofs.lineage.Lineage.jump_from.Goals as goal

pub returns-then-gap-saturating_sub : goal.returns-then-gap-saturating_sub
returns-then-gap-saturating_sub g c =
    let l : Lineage = c.args.self.now in
    let sound : IsWellFounded l = subst IsWellFounded c.self.view_is c.self.invariant in
    let near = c.entry-near.result.jump in
    let far = c.entry-far.result.jump in
    let to_near : is_above l near c.args.parent ≡ true =
    ap (λ (e : Entry). is_above l e.jump c.args.parent) c.entry-near.ensures ∙ sound.jumps c.args.parent c.in-Some.field-0 (sym c.parent.ensures.parent ∙ c.in-Some.is) in
    let to_far : is_above l far near ≡ true =
    ap (λ (e : Entry). is_above l e.jump near) c.entry-far.ensures ∙ sound.jumps near c.in-Some-parent.field-0 (sym c.parent-2.ensures.parent ∙ c.in-Some-parent.is) in
    line-through l sound.deeper far near (above-line l far near to_far) c.args.parent (above-line l near c.args.parent to_near)
