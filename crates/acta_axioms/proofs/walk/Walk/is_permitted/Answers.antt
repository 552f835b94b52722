use Rattle.std.proofs.Common.{◌&&◌, ap, sym, ◌∙◌}
use Rattle.acta_axioms.specs.inside.Walking.{is_left}
use Rattle.acta_axioms.proofs.Permitting.{left-counts}
use Rattle.acta_axioms.proofs.walk.Walk.is_permitted.Goals as goal

pub returns : goal.returns
returns g c =
    let h = c.args.self.now.front in
    let s = c.args.s.0 in
    let t = c.args.t.0 in
    let object = c.args.object.0 in
    let first = sym c.has_begun.ensures ∙ c.if-not-has_begun.false in
    let second = sym c.has_begun-2.ensures ∙ c.if-not-has_begun-2.false in
    c.has.ensures
    ∙ c.self.invariant.permits_are s t object
    ∙ ap (λ w. is_left w.front s t object) c.self.view_is
    ∙ (λ i. sym first i && sym second i && is_left h s t object)
    ∙ left-counts h s t object
