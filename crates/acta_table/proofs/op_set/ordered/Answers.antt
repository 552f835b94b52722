use Rattle.std.proofs.Common.{◌+◌, ◌∙◌, ap, sym, fold, drop, arith, List, ℕ}
use Rattle.std.specs.BTreeSet.{insert_key}
use Rattle.std.specs.Ordering.{nat_cmp}
use Rattle.std.proofs.lemmas.List.{at_drop_more}
use Rattle.acta_table.specs.declared.event.OpNo.{OpNo}
use Rattle.acta_table.specs.Sets.{numbers_of}
use Rattle.acta_table.proofs.op_set.ordered.Goals as goal

pub loop-op-preserved : goal.loop-op-preserved
loop-op-preserved g c =
    let ops = c.args.ops.now in
    let i = c.loop-op.op-index in
    let before = c.loop-op.set.keys in
    ap (λ (keys : List ℕ). fold (insert_key nat_cmp) keys (numbers_of (drop (i + 1) ops))) c.in_ok-insert.ensures.keys
    ∙ sym (at_drop_more (λ (xs : List OpNo). fold (insert_key nat_cmp) before (numbers_of xs)) ops i _ (omega arith))
    ∙ c.loop-op.invariant
