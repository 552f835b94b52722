use Rattle.std.proofs.Common.{arith, ◌≡◌, ◌+◌, ◌<◌, ◌∙◌, List, [], ◌∷◌, ap, sym, subst, length, map}
use Rattle.std.proofs.lemmas.List.{map-append, length-map}
use Rattle.acta_table.specs.declared.limits.TheConstants.{MOST_EVENTS}
use Rattle.acta_sets.specs.declared.held_op.HeldOp.{HeldOp}
use Rattle.acta_values.specs.KeptValues.{AreAfter}
use Rattle.acta_order.specs.declared.item.Item.{Item}
use Rattle.acta_order.specs.Search.{Replaying, held}
use Rattle.acta_order.proofs.replay.Replay.add.Goals as goal

pub invariant_of-self-in-Ok : goal.invariant_of-self-in-Ok
invariant_of-self-in-Ok g c =
    let b = c.self.inside in
    let done : List Item = b.done.items in
    let many = length-map done held in
    let same = ap (λ (x : Replaying). length x.done) c.self.view_is in
    let number : c.len.result + 1 ≡ length (map held done) + 1 = omega (arith, c.len.ensures, many, b.done.ok) in
    let room : length (map held done) < MOST_EVENTS = omega (arith, c.requires, many, same) in
    subst (λ (items : List HeldOp). AreAfter b.kinds.items items c.add.new.self) (sym (ap (map held) c.in_ok-push.ensures.items ∙ map-append held done (c.args.item ∷ [])))
    (c.in-Ok.ensures.ok b.kinds.items (map held done) c.self.invariant number room (record { 0 = 0 }))
