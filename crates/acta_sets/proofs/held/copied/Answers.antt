use Rattle.std.proofs.Common.{◌+◌, ◌∙◌, ap, sym, take}
use Rattle.acta_sets.specs.inside.Held.{lists}
use Rattle.acta_sets.proofs.Lists.{lists-more}
use Rattle.acta_sets.proofs.held.copied.Goals as goal

pub loop-list-preserved : goal.loop-list-preserved
loop-list-preserved g c =
    let at = c.loop-list.list-index in
    let read = c.deref-list-items.ensures.value in
    lists-more c.deref-list-items.result.now c.loop-list.copied.items c.push.new.self.items at c.list-item.result c.in_ok-copied_list.field-0
    c.loop-list-test.true c.list-item.is (c.in_ok-copied_list.ensures ∙ c.as_slice.ensures) c.in_ok-push.ensures.items (c.loop-list.invariant ∙ ap (λ h. take at (lists h)) (sym read))
    ∙ ap (λ h. take (at + 1) (lists h)) read
