use Rattle.std.proofs.Common.{arith, ◌≡◌, ◌+◌, ◌∙◌, List, [], ◌∷◌, ap, subst, length, map}
use Rattle.std.proofs.lemmas.List.{map-append, length-map}
use Rattle.acta_sets.specs.declared.held_op.HeldOp.{HeldOp}
use Rattle.acta_sets.specs.Operations.{added}
use Rattle.acta_values.specs.KeptValues.{AreAfter}
use Rattle.acta_order.specs.declared.item.Item.{Item}
use Rattle.acta_order.specs.Search.{held}
use Rattle.acta_order.proofs.replay.Replay.drop_last.Goals as goal

pub invariant_of-self : goal.invariant_of-self
invariant_of-self g c =
    let b = c.self.inside in
    let rest : List Item = c.pop.new.self.items in
    let kinds = b.kinds.items in
    let last = c.in-Some.last in
    let whole = ap (map held) c.in-Some.ensures.items ∙ map-append held rest (last ∷ []) in
    let before : AreAfter kinds (added (map held rest) (record { 0 = 0 }) last.ob last.op) b.values = subst (λ (items : List HeldOp). AreAfter kinds items b.values) whole c.self.invariant in
    let many = length-map rest held in
    let number : c.len.result + 1 ≡ length (map held rest) + 1 = omega (arith, c.len.ensures, many, c.pop.new.self.ok) in
    c.forget.ensures kinds (map held rest) (record { 0 = 0 }) before number
