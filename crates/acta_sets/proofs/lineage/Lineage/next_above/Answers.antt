use Rattle.std.specs.Prelude.{◌≡◌, true}
use Rattle.std.proofs.Common.{ap, sym, subst, ◌∙◌}
use Rattle.acta_sets.specs.declared.lineage.Entry.{Entry}
use Rattle.acta_sets.specs.Lineages.{Lineage, is_above, IsWellFounded}
use Rattle.acta_sets.proofs.Lineages.{line-through, above-line, above-depth}
use Rattle.acta_sets.proofs.lineage.Lineage.next_above.Goals as goal

pub returns-else-depth-clause-above : goal.returns-else-depth-clause-above
returns-else-depth-clause-above g c = λ x e.
    let l : Lineage = c.args.self.now in
    let sound : IsWellFounded l = subst IsWellFounded c.self.view_is c.self.invariant in
    let above : is_above l c.entry-jump.result.jump c.args.t ≡ true =
    ap (λ (e : Entry). is_above l e.jump c.args.t) c.entry-jump.ensures ∙ sound.jumps c.args.t c.in_ok-parent.parent (sym c.parent.ensures.parent ∙ c.in_ok-parent.was) in
    line-through l sound.deeper x c.entry-jump.result.jump e c.args.t (above-line l c.entry-jump.result.jump c.args.t above)

pub returns-else-depth-clause-higher : goal.returns-else-depth-clause-higher
returns-else-depth-clause-higher g c =
    let l : Lineage = c.args.self.now in
    let sound : IsWellFounded l = subst IsWellFounded c.self.view_is c.self.invariant in
    let above : is_above l c.entry-jump.result.jump c.args.t ≡ true =
    ap (λ (e : Entry). is_above l e.jump c.args.t) c.entry-jump.ensures ∙ sound.jumps c.args.t c.in_ok-parent.parent (sym c.parent.ensures.parent ∙ c.in_ok-parent.was) in
    above-depth l sound.deeper c.entry-jump.result.jump c.args.t above
