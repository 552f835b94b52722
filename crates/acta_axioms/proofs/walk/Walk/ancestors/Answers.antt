use Rattle.std.proofs.Common.{◌<◌, ◌+◌, ◌-◌, length, map, fold, sym, ap, arith, ◌∙◌}
use Rattle.std.specs.BTreeSet.{insert_key}
use Rattle.std.specs.Ordering.{nat_cmp}
use Rattle.acta_table.specs.declared.event.TxnId.{TxnId}
use Rattle.acta_table.specs.Ancestors.{ancestors_from}
use Rattle.acta_axioms.specs.History.{parent_of}
use Rattle.acta_axioms.proofs.Searches.{line-next}
use Rattle.acta_axioms.proofs.walk.Walk.ancestors.Goals as goal

pub loop-preserved : goal.loop-preserved
loop-preserved g c =
    let h = c.args.self.now.front in
    let within : c.loop.counter < length h = omega (arith, c.loop-test.true, ap length c.front-end.ensures.front) in
    let rest = line-next (length h) c.loop.counter (parent_of h) c.in-Some.parent c.loop.next c.parent-next-in-loop.result within c.in-Some.is c.parent-next-in-loop.ensures in
    ap (λ keys. fold (insert_key nat_cmp) keys (map (λ (u : TxnId). u.0) (ancestors_from (length h - (c.loop.counter + 1)) (parent_of h) c.parent-next-in-loop.result))) c.in_ok-insert.ensures.keys
    ∙ sym (ap (λ line. fold (insert_key nat_cmp) c.loop.numbers.keys (map (λ (u : TxnId). u.0) line)) rest)
    ∙ c.loop.invariant
