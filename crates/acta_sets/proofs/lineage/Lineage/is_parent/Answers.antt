use Rattle.std.specs.Prelude.{◌≡◌, ℕ, true, Some}
use Rattle.std.proofs.Common.{sym, subst, ◌∙◌}
use Rattle.std.proofs.lemmas.Bool.Decides.{Decides-eqb}
use Rattle.acta_sets.specs.Lineages.{Lineage, parent_in, is_in_line, IsWellFounded}
use Rattle.acta_sets.proofs.Lineages.{line-parent}
use Rattle.acta_sets.proofs.lineage.Lineage.is_parent.Goals as goal

pub returns-in-Some : goal.returns-in-Some
returns-in-Some g c = λ is h e.
    let l : Lineage = c.args.self.now in
    let u = c.in-Some.parent in
    let sound : IsWellFounded l = subst IsWellFounded c.self.view_is c.self.invariant in
    let parent : parent_in l c.args.t ≡ Some u = sym c.parent.ensures.parent ∙ c.in-Some.is in
    subst (λ (k : ℕ). is_in_line l k h ≡ true) ((Decides-eqb u.0 c.args.u).0 is) (line-parent l sound.deeper c.args.t u parent h e)
