use Rattle.std.proofs.Common.{List, map, ap, ◌∙◌, sym, subst}
use Rattle.acta_table.specs.declared.event.Kept.{Kept}
use Rattle.acta_machine.specs.Table.{State}
use Rattle.acta_explore.specs.declared.point.Step.{Step}
use Rattle.acta_explore.specs.Histories.{history_steps}
use Rattle.acta_explore.specs.inside.Numbered.{HaveOwnLines}
use Rattle.acta_explore.proofs.Remembering.{own-lines, same-returns}
use Rattle.acta_explore.proofs.point.Point.after.Goals as goal

pub invariant_of-result : goal.invariant_of-result
invariant_of-result g c =
    let kept = c.args.machine.now.kept in
    let steps = c.in_ok-steps.ensures ∙ ap (λ (ks : List (Kept _)). history_steps 0 ks) c.history.ensures.history in
    record {
      lines = subst HaveOwnLines (sym steps) (own-lines 0 kept);
      returns = ap (map (λ (s : Step). s.ret)) steps ∙ (same-returns 0 kept ∙ ap (λ (t : State _). map (λ k. k.ret) t.kept) (sym c.in_ok-copy.ensures));
    }
