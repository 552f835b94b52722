use Rattle.std.proofs.Common.{◌≡◌, ◌++◌, ◌∷◌, [], ◌∙◌, All, map, Some, ap, sym, subst}
use Rattle.std.proofs.lemmas.List.Elements.{All-push}
use Rattle.acta_script.specs.Laws.{IsInModel}
use Rattle.acta_script.proofs.Alternatives.{at-event, at-fault}
use Rattle.acta_script.proofs.programs.alternatives_in.Goals as goal
use Rattle.acta_script.proofs.programs.alternatives_in.Goals.{in-Ok+in_ok-push-in-Ok, in-Err-Fault}

pub loop-part-preserved : goal.loop-part-preserved
loop-part-preserved g c =
    let m = c.args.model.now in
    let loop = c.loop-part in
    let events = c.match-event_after.events.items in
    let fault = c.match-event_after.fault in
    elim c.match-event_after.branch [
      | in-Ok+in_ok-push-in-Ok w ↦
          let events_are : events ≡ loop.events.items ++ w.in-Ok.event ∷ [] = ap (λ v. v.items) w.events-is ∙ w.in_ok-push-in-Ok.ensures.items in
          record {
            found =
                at-event m (λ part. map (λ word. word.now) part.now) c.args.parts.now loop.part-index _ c.loop-part-test.true loop.events.items loop.fault _ loop.invariant.found
                w.in-Ok.event events fault w.in-Ok.ensures.ok events_are w.fault-is;
            in_model = subst (All (IsInModel m)) (sym events_are) (All-push (IsInModel m) loop.events.items w.in-Ok.event loop.invariant.in_model w.in-Ok.ensures.in_model);
          }
      | in-Err-Fault w ↦
          let events_are : events ≡ loop.events.items = ap (λ v. v.items) w.events-is in
          record {
            found =
                at-fault m (λ part. map (λ word. word.now) part.now) c.args.parts.now loop.part-index _ c.loop-part-test.true loop.events.items loop.fault _ loop.invariant.found
                w.in-Err-Fault.found _ events fault w.in-Err-Fault.ensures.fault w.in-Err-Fault.field-0-is events_are (w.fault-is ∙ ap Some w.lowest.ensures);
            in_model = subst (All (IsInModel m)) (sym events_are) loop.invariant.in_model;
          }
    ]
