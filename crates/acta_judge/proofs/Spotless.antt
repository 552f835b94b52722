-- A verdict without faults has none at any place.
use Rattle.std.proofs.Common.{◌≡◌, List, [], ◌∷◌, ◌++◌, refl}
use Rattle.std.specs.Ordering.{match_ordering}
use Rattle.std.specs.declared.cmp.Ordering.{Ordering}
use Rattle.std.specs.declared.cmp.Ordering.TheVariants.{Less, Equal, Greater}
use Rattle.acta_table.specs.declared.event.Kept.{Kept}
use Rattle.acta_table.specs.declared.model.Parts.{Parts}
use Rattle.acta_axioms.specs.declared.fault.Fault.{Fault}
use Rattle.acta_axioms.specs.Faults.{faults_in_places}
use Rattle.acta_axioms.proofs.Faultless.{none-both}
use Rattle.acta_judge.specs.Broken.{faults_in_edges, faults_in_debts}
use Rattle.acta_judge.specs.Order.{fault_cmp, with_fault, merged, in_order}
use Rattle.acta_judge.specs.Verdicts.{all_faults, verdict}

-- a list with one fault more is not empty
with-some : (faults : List Fault) (fault : Fault) → with_fault faults fault ≡ [] → ⊥
with-some [] fault e = cc
with-some (f ∷ faults) fault e = of (fault_cmp fault f) e
  where
    of : (o : Ordering) → match_ordering o (fault ∷ f ∷ faults) (f ∷ faults) (f ∷ with_fault faults fault) ≡ [] → ⊥
    of Less is = cc
    of Equal is = cc
    of Greater is = cc

-- if some faults with others added are none, there were none
merged-none : (faults others : List Fault) → merged faults others ≡ [] → faults ≡ []
merged-none faults [] e = e
merged-none faults (f ∷ others) e = absurd (with-some faults f (merged-none (with_fault faults f) others e))

in_order-none : (faults : List Fault) → in_order faults ≡ [] → faults ≡ []
in_order-none [] e = refl
in_order-none (f ∷ faults) e = absurd (with-some [] f (merged-none (with_fault [] f) faults e))

pub verdict-spotless : {A : Type 0} (m : Parts A) (h : List (Kept A)) → (verdict m h).faults ≡ [] → faults_in_places m h ≡ []
unfolding verdict all_faults
verdict-spotless m h none =
    let edges_too = none-both (faults_in_places m h ++ faults_in_edges m h) (faults_in_debts m h) (in_order-none (all_faults m h) none) in
    (none-both (faults_in_places m h) (faults_in_edges m h) edges_too.0).0
