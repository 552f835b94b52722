use Rattle.std.proofs.Common.{length, arith, ap, sym, subst, ◌∙◌}
use Rattle.acta_machine.specs.Changes.{summary_of}
use Rattle.acta_machine.specs.Places.{FollowsPlaces}
use Rattle.acta_machine.specs.Table.{State}
use Rattle.acta_machine.specs.inside.Abstraction.{summary_in}
use Rattle.acta_machine.specs.Summary.{Summary}
use Rattle.acta_machine.specs.inside.Remembered.{IsRemembered}
use Rattle.acta_sets.specs.Lineages.{Lineage}
use Rattle.acta_values.specs.KeptValues.{kinds_of}
use Rattle.acta_values.specs.Stores.{Stored}
use Rattle.acta_machine.proofs.Refusals.{none_refused}
use Rattle.acta_machine.proofs.machine.Machine.copy.Goals as goal

-- all copied parts are equal
pub invariant_of-result : goal.invariant_of-result
invariant_of-result g c =
    let deps = c.in_ok-copy.ensures.deps in
    let records = c.in_ok-copy.ensures.records in
    let store = c.in_ok-copy.ensures.store in
    let kept = c.in_ok-copy.ensures.kept in
    let permits = c.in_ok-copy.ensures.permits in
    let model = c.in_ok-copy.ensures.model in
    let long = ap length kept in
    record {
      agrees = (λ i. summary_in (deps i) (records i) (store i).items (permits i) (kept i)) ∙ c.self.invariant.agrees ∙ (λ i. summary_of (sym model i) (sym kept i));
      records = let same = ap length records in let few = c.self.invariant.records in omega arith;
      remembered = subst (λ (p : Lineage × Summary). IsRemembered p.0 p.1) (λ i. ((sym store i).lineage, summary_in (sym deps i) (sym records i) (sym store i).items (sym permits i) (sym kept i))) c.self.invariant.remembered;
      kinds = ap (λ (s : Stored). s.kinds) store ∙ c.self.invariant.kinds ∙ (λ i. kinds_of (sym model i).objects);
      within = omega (arith, long, c.self.invariant.within);
      follows = subst (λ (w : State g.row.A.Denot). FollowsPlaces w) (λ i. record { model = sym model i; kept = sym kept i }) c.self.invariant.follows;
      refused = none_refused _ _ _ c.new.ensures.items;
    }
