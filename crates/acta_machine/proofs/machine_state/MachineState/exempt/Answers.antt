use Rattle.std.proofs.Common.{◌<◌, arith, ◌++◌, ◌+◌, ◌-◌, ◌∷◌, [], length, sym, ap, ◌∙◌}
use Rattle.std.proofs.lemmas.List.{append_assoc}
use Rattle.acta_table.specs.Ancestors.{ancestors_from}
use Rattle.acta_machine.specs.inside.Abstraction.{abstraction}
use Rattle.acta_axioms.proofs.Searches.{line-next}
use Rattle.acta_machine.proofs.machine_state.MachineState.exempt.Goals as goal

pub loop-preserved : goal.loop-preserved
loop-preserved g c =
    let low = c.loop-test.true in
    let count = c.len-end.ensures in
    let within : c.loop.counter < length c.args.self.now.kept.items = omega (arith, low, count) in
    let rest = line-next (length c.args.self.now.kept.items) c.loop.counter (abstraction c.args.self.now).parent c.in-Some.parent c.loop.next c.parent-next-in-loop.result within c.in-Some.is c.parent-next-in-loop.ensures in
    ap (λ txns. txns ++ ancestors_from (length c.args.self.now.kept.items - (c.loop.counter + 1)) (abstraction c.args.self.now).parent c.parent-next-in-loop.result) c.in_ok-push.ensures.items
    ∙ append_assoc c.loop.exempt.items (c.in-Some.parent ∷ []) _
    ∙ sym (ap (λ line. c.loop.exempt.items ++ line) rest) ∙ c.loop.invariant
