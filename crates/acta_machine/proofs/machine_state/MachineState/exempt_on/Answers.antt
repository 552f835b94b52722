use Rattle.std.proofs.Common.{◌||◌, ◌==◌, List, ℕ, ap, ◌∙◌}
use Rattle.std.specs.List.{list_any}
use Rattle.std.proofs.lemmas.Result.{IfOk-weaker}
use Rattle.acta_table.specs.declared.event.TxnId.{TxnId}
use Rattle.acta_machine.specs.inside.Abstraction.{abstraction}
use Rattle.acta_machine.proofs.ConflictingHolders.{in-exempt}
use Rattle.acta_machine.proofs.machine_state.MachineState.exempt_on.Goals as goal

pub returns : goal.returns
returns g c =
    let base = c.in_ok-exempt_numbers.field-0.keys in
    IfOk-weaker c.with_txns.result _ _
    (λ _ all u.
    all u
    ∙ ap (λ (ts : List TxnId). list_any (λ k. k == u) base || list_any (λ s. s.0 == u) ts) c.deref.ensures.value
    ∙ (λ i. (ap (λ (keys : List ℕ). list_any (λ k. k == u) keys) c.in_ok-exempt_numbers.ensures ∙ in-exempt c.args.self.now.model (abstraction c.args.self.now) c.args.t.0 u) i
    || c.in_ok-permitters.ensures.named (record { 0 = u }) i))
    c.with_txns.ensures
