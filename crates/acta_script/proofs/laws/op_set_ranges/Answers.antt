use Rattle.std.proofs.Common.{nat_le, ◌∙◌, arith}
use Rattle.std.proofs.lemmas.Bool.{and_from, le-leb}
use Rattle.std.proofs.lemmas.List.Folds.{list_all_more}
use Rattle.acta_script.proofs.laws.op_set_ranges.Goals as goal

pub loop-op-preserved : goal.loop-op-preserved
loop-op-preserved g c =
    list_all_more (λ o. nat_le o.0 0xffff_ffff) c.as_slice-op-items.result.now c.loop-op.op-index record { 0 = 0 } (omega arith)
    ∙ and_from _ _ c.loop-op.invariant (le-leb _ _ c.op_number_range.ensures)
