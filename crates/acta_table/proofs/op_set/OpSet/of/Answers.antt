use Rattle.std.proofs.Common.{◌∙◌, ap, sym, subst, List, ℕ}
use Rattle.std.specs.List.Sorted.{IsStrictlySortedBy}
use Rattle.std.specs.Ordering.{nat_cmp}
use Rattle.acta_table.specs.declared.event.OpNo.{OpNo}
use Rattle.acta_table.specs.Sets.{numbers_of}
use Rattle.acta_table.proofs.InOrder.{each_once-sorted}
use Rattle.acta_table.proofs.OpSets.{numbers-numbered}
use Rattle.acta_table.proofs.op_set.OpSet.of.Goals as goal

pub invariant_of-result-2 : goal.invariant_of-result-2
invariant_of-result-2 g c =
    let numbers = ap numbers_of (c.of-2.ensures ∙ c.in_ok-listed.ensures.listed) ∙ numbers-numbered c.in_ok-set.set.keys in
    subst (λ (ns : List ℕ). IsStrictlySortedBy nat_cmp ns) (sym numbers) c.listed.ensures.ascending

-- numbers that are already ascending
pub invariant_of-result : goal.invariant_of-result
invariant_of-result g c =
    subst (λ (ops : List OpNo). IsStrictlySortedBy nat_cmp (numbers_of ops)) (sym (c.of.ensures ∙ c.in_ok-from_slice.ensures.items)) (c.ascend.ensures c.if-ascend.true)

pub returns-then-ascend : goal.returns-then-ascend
returns-then-ascend g c =
    c.of.ensures ∙ c.in_ok-from_slice.ensures.items ∙ each_once-sorted c.args.ops.now (c.ascend.ensures c.if-ascend.true)
