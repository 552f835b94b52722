use Rattle.std.proofs.Common.{◌||◌, ◌==◌, List, ap, ◌∙◌}
use Rattle.std.specs.List.{list_any}
use Rattle.std.proofs.lemmas.Result.{IfOk-weaker}
use Rattle.acta_table.specs.declared.event.TxnId.{TxnId}
use Rattle.acta_axioms.proofs.Searches.{exempt-on}
use Rattle.acta_axioms.proofs.walk.Walk.exempt_on.Goals as goal

pub returns : goal.returns
returns g c =
    let base = c.in_ok-exempt_numbers.field-0.keys in
    IfOk-weaker c.with_txns.result _ _
    (λ keys all. exempt-on c.args.self.now.model c.args.self.now.front c.args.t.0 c.args.object.0 base keys.keys c.in_ok-permitters.permitters.items c.in_ok-exempt_numbers.ensures c.in_ok-permitters.ensures
    (λ u. all u ∙ ap (λ (ts : List TxnId). list_any (λ k. k == u) base || list_any (λ s. s.0 == u) ts) c.deref.ensures.value))
    c.with_txns.ensures
