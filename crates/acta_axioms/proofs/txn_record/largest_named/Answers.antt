use Rattle.std.proofs.Common.{subst, ◌≤◌, arith}
use Rattle.std.specs.List.{All}
use Rattle.std.proofs.lemmas.List.{take_all}
use Rattle.acta_table.specs.Events.{named}
use Rattle.acta_axioms.proofs.Named.{named-more}
use Rattle.acta_axioms.proofs.txn_record.largest_named.Goals as goal
use Rattle.acta_axioms.proofs.txn_record.largest_named.Goals.{then-t-largest, else-t-largest}

pub loop-item-preserved : goal.loop-item-preserved
loop-item-preserved g c =
    let here = subst (λ k. All (λ t. t ≤ c.largest_in-t.result) (named k.event)) c.item-item.is c.largest_in-t.ensures in
    elim c.if-t-largest.branch [
      | then-t-largest w ↦ named-more c.args.kept.now c.loop-item.item-index c.loop-item.largest c.if-t-largest.largest c.largest_in-t.result c.item-item.result c.loop-item-test.true (omega arith) (omega arith) here c.loop-item.invariant
      | else-t-largest w ↦ named-more c.args.kept.now c.loop-item.item-index c.loop-item.largest c.if-t-largest.largest c.largest_in-t.result c.item-item.result c.loop-item-test.true (omega arith) (omega arith) here c.loop-item.invariant
    ]

pub returns : goal.returns
returns g c = subst (All (λ k. All (λ t. t ≤ c.loop-item.largest) (named k.event))) (take_all c.loop-item.item-index c.args.kept.now c.loop-item-test.false) c.loop-item.invariant
