use Rattle.std.proofs.Common.{◌≡◌, ◌∙◌, List, sym, subst, length, drop}
use Rattle.acta_sets.specs.Operations.{added}
use Rattle.acta_values.specs.declared.live_value.LiveValue.{LiveValue}
use Rattle.acta_values.specs.KeptValues.{AreAfter}
use Rattle.acta_values.proofs.Forgotten.{last_counts, forgotten_after}
use Rattle.acta_values.proofs.TakenBack.{taken_front}
use Rattle.acta_values.proofs.values.Values.forget.Goals as goal

pub undo-requires : goal.undo-requires
undo-requires g c = λ within d.
    let last = c.requires in
    last_counts last.kinds last.items c.args.number last.holder c.args.ob c.args.op.now c.deref_mut.result.now d (subst (λ (values : List (LiveValue g.row.A.Denot)). AreAfter last.kinds (added last.items last.holder c.args.ob c.args.op.now) values) (sym (c.deref_mut.ensures.value ∙ c.self.view_is)) last.after) within last.next

pub returns : goal.returns
returns g c = λ kinds items t after next.
    let before : AreAfter kinds (added items t c.args.ob c.args.op.now) c.deref_mut.result.now = subst (λ (values : List (LiveValue g.row.A.Denot)). AreAfter kinds (added items t c.args.ob c.args.op.now) values) (sym (c.deref_mut.ensures.value ∙ c.self.view_is)) after in
    let long : length c.undo.new.values ≡ c.self.inside.values.len = c.undo.auto.values ∙ c.deref_mut.ensures.len in
    subst (λ (values : List (LiveValue g.row.A.Denot)). AreAfter kinds items values) (sym (taken_front c.self.inside.values.len c.undo.new.values (drop (length c.undo.new.values) c.self.inside.values.items) long)) (forgotten_after kinds items c.args.number t c.args.ob c.args.op.now c.deref_mut.result.now c.undo.new.values before next c.undo.ensures)
