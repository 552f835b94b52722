use Rattle.std.proofs.Common.{◌≡◌, ◌∙◌, ap, ◌==◌, Decides}
use Rattle.std.specs.Cmp.Lexicographic.{pointwise}
use Rattle.std.proofs.lemmas.Bool.{eqb-true, eq-eqb}
use Rattle.std.proofs.lemmas.Slice.Eq.{slice_eq-Decides}
use Rattle.acta_table.specs.declared.event.OpNo.{OpNo}
use Rattle.acta_table.proofs.op_set.OpSet.is_same.Goals as goal

same-number : (a b : OpNo) → Decides (a.0 == b.0) (a ≡ b)
same-number a b = (λ e. ap (λ n. record { 0 = n }) (eqb-true a.0 b.0 e), λ e. eq-eqb a.0 b.0 (ap (λ o. o.0) e))

pub returns : goal.returns
returns g c =
    slice_eq-Decides {E = λ a b. a.0 == b.0} same-number _ _ _ (c.eq.ensures ∙ (λ i. pointwise (λ (a b : OpNo). a.0 == b.0) (c.as_slice.ensures.items i) (c.as_slice-2.ensures.items i)))
