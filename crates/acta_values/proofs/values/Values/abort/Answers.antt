use Rattle.std.proofs.Common.{◌≡◌, ◌∙◌, List, sym, subst, length, drop}
use Rattle.acta_table.specs.declared.answer.Fate.TheVariants.{Aborted}
use Rattle.acta_sets.specs.Operations.{ended}
use Rattle.acta_values.specs.declared.live_value.LiveValue.{LiveValue}
use Rattle.acta_values.specs.KeptValues.{AreAfter}
use Rattle.acta_values.proofs.TakenBack.{taken_front}
use Rattle.acta_values.proofs.values.Values.abort.Goals as goal

pub returns : goal.returns
returns g c = λ kinds after.
    let before : AreAfter kinds c.args.items.now c.deref_mut.result.now = subst (λ (values : List (LiveValue g.row.A.Denot)). AreAfter kinds c.args.items.now values) (sym (c.deref_mut.ensures.value ∙ c.self.view_is)) after in
    let long : length c.take_back.new.values ≡ c.self.inside.values.len = c.take_back.auto.values ∙ c.deref_mut.ensures.len in
    subst (λ (values : List (LiveValue g.row.A.Denot)). AreAfter kinds (ended c.args.t.0 Aborted c.args.items.now) values) (sym (taken_front c.self.inside.values.len c.take_back.new.values (drop (length c.take_back.new.values) c.self.inside.values.items) long)) (c.take_back.ensures kinds before)
