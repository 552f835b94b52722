use Rattle.std.proofs.Common.{map, ap, ◌∙◌, sym, subst}
use Rattle.acta_machine.specs.Table.{State}
use Rattle.acta_explore.specs.declared.point.Step.{Step}
use Rattle.acta_explore.specs.inside.Numbered.{HaveOwnLines}
use Rattle.acta_explore.proofs.point.Point.copy.Goals as goal

pub invariant_of-result : goal.invariant_of-result
invariant_of-result g c =
    let steps = c.in_ok-steps.ensures.items ∙ c.as_slice.ensures.value in
    record {
      lines = subst HaveOwnLines (sym steps) c.self.invariant.lines;
      returns = ap (map (λ (s : Step). s.ret)) steps ∙ (c.self.invariant.returns ∙ ap (λ (t : State _). map (λ k. k.ret) t.kept) (sym c.in_ok-machine.ensures));
    }
