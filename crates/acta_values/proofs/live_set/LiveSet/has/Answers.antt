use Rattle.std.proofs.Common.{◌≡◌, ◌∙◌, ap, sym, Bool, List, [], Option, w32}
use Rattle.std.specs.Prelude.{FitsSigned, ℤ}
use Rattle.std.specs.Option.{unwrap_or}
use Rattle.std.proofs.lemmas.Int.{to_z-of_z}
use Rattle.acta_objects.specs.inside.Sets.{has}
use Rattle.acta_values.specs.declared.trail.Numbered.{Numbered}
use Rattle.acta_values.specs.LiveSets.{Marks, IsOrdered, is_on, trail_at, elements_of}
use Rattle.acta_values.proofs.LiveSets.{has_elements}
use Rattle.acta_values.proofs.live_set.LiveSet.has.Goals as goal

-- whether an element is present, by the trail that is found
present : (marks shown : Marks) (x : ℤ) → IsOrdered marks → marks ≡ shown → is_on (trail_at marks x) ≡ has (elements_of shown) x
present marks shown x ordered is = sym (has_elements marks ordered x) ∙ ap (λ (m : Marks). has (elements_of m) x) is

pub returns-in-Some : goal.returns-in-Some
returns-in-Some g c =
    let fits : FitsSigned w32 c.args.x = c.ranges.x in
    let found = simp to_z-of_z at c.in-Some.ensures.value in
    c.last_or.ensures
    ∙ ap (λ (o : Option (List (Numbered Bool))). is_on (unwrap_or o [])) found
    ∙ present c.self.inside.marks.entries c.args.self.now c.args.x c.read_order.ensures.ordered c.self.view_is

pub returns-in-None : goal.returns-in-None
returns-in-None g c =
    let fits : FitsSigned w32 c.args.x = c.ranges.x in
    let found = simp to_z-of_z at c.in-None.ensures.value in
    ap (λ (o : Option (List (Numbered Bool))). is_on (unwrap_or o [])) found
    ∙ present c.self.inside.marks.entries c.args.self.now c.args.x c.read_order.ensures.ordered c.self.view_is
