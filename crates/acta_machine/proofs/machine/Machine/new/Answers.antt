use Rattle.std.proofs.Common.{◌≡◌, ◌∙◌, List, length, arith, ap, sym, subst}
use Rattle.acta_table.specs.declared.event.Kept.{Kept}
use Rattle.acta_values.specs.KeptValues.{kinds_of}
use Rattle.acta_values.specs.Stores.{Stored}
use Rattle.acta_machine.specs.Places.{FollowsPlaces}
use Rattle.acta_machine.proofs.Steps.{follows-fresh}
use Rattle.acta_machine.proofs.Remembering.{none_remembered}
use Rattle.acta_machine.proofs.Refusals.{none_refused}
use Rattle.acta_machine.proofs.Histories.{fresh_summary}
use Rattle.acta_machine.proofs.machine.Machine.new.Goals as goal

pub invariant_of-result : goal.invariant_of-result
invariant_of-result g c =
    let none : length c.new-5.result.items ≡ 0 = ap (length {A = Kept g.row.A.Denot}) c.new-5.ensures.items in
    record {
      agrees = fresh_summary _ _ _ _ _ _ c.new-2.ensures c.new-3.ensures.items (ap (λ (s : Stored). s.items) c.in_ok-store.ensures) c.new-4.ensures c.new-5.ensures.items;
      records = let empty = ap length c.new-3.ensures.items in omega arith;
      remembered = none_remembered _ _ (ap (λ (s : Stored). s.lineage) c.in_ok-store.ensures);
      kinds = ap (λ (s : Stored). s.kinds) c.in_ok-store.ensures ∙ ap kinds_of c.objects.ensures.objects;
      within = omega arith;
      follows = subst (λ (kept : List (Kept g.row.A.Denot)). FollowsPlaces {A = g.row.A.Denot} (record { model = c.args.model; kept = kept })) (sym c.new-5.ensures.items) (follows-fresh c.args.model);
      refused = none_refused _ _ _ c.new-6.ensures.items;
    }

pub returns-clause-follows : goal.returns-clause-follows
returns-clause-follows g c = (invariant_of-result g c).follows
