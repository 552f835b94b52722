use Rattle.std.proofs.Common.{◌<◌, ◌≤◌, ◌∙◌, ap, arith, get_or, length, subst, sym}
use Rattle.std.specs.Prelude.{IfSome}
use Rattle.std.proofs.lemmas.List.{get_or_default}
use Rattle.acta_machine.specs.Table.{State}
use Rattle.acta_debug.proofs.debugger.nearest_of.Goals as goal
use Rattle.acta_debug.proofs.debugger.nearest_of.Goals.{then-most-kept+then-kept-events, else-most-kept}

pub loop-k-preserved : goal.loop-k-preserved
loop-k-preserved g c =
    let machines = c.args.machines.now in
    let k = c.loop-k.k in
    elim c.if-most-kept.branch [
      | then-most-kept+then-kept-events w ↦ record {
        within = subst (λ o. IfSome o (λ k. k < length machines)) (sym w.found-is) c.loop-k-test.true;
        up_to = λ t.
            let one = get_or_default machines k c.index-machines-k.result t c.loop-k-test.true in
            let size = ap length c.history-kept.ensures.history ∙ ap (λ (s : State g.row.A.Denot). length s.kept) (c.index-machines-k.is ∙ one) in
            let few : length (get_or machines k t).kept ≤ c.args.events = omega (arith, size, w.if-kept-events.true) in
            subst (λ o. IfSome o (λ k. length (get_or machines k t).kept ≤ c.args.events)) (sym w.found-is) few;
      }
      | else-most-kept w ↦ record {
        within = subst (λ o. IfSome o (λ k. k < length machines)) (sym w.found-is) c.loop-k.invariant.within;
        up_to = λ t. subst (λ o. IfSome o (λ k. length (get_or machines k t).kept ≤ c.args.events)) (sym w.found-is) (c.loop-k.invariant.up_to t);
      }
    ]
