use Rattle.std.proofs.Common.{Vec, ◌∙◌, List, [], ◌∷◌, ◌++◌, get_or, Option, ap, subst}
use Rattle.std.specs.Prelude.{IfSome}
use Rattle.std.proofs.lemmas.List.Elements.{All-push, All-same}
use Rattle.acta_values.specs.KeptValues.{kinds_of}
use Rattle.acta_order.specs.declared.dead_end.DeadEnd.{DeadEnd}
use Rattle.acta_order.specs.Blocks.{IsStuck}
use Rattle.acta_order.specs.Earlier.{limit}
use Rattle.acta_order.specs.Search.{values_at}
use Rattle.acta_order.proofs.dead_end.dead_ends.Goals.{in-Some+in_ok-push, in_default}
use Rattle.acta_order.proofs.dead_end.dead_ends.Goals as goal

pub loop-positions-preserved : goal.loop-positions-preserved
loop-positions-preserved g c =
    let is_stuck = IsStuck (values_at {A = g.row.A.Denot} (kinds_of c.args.model.now.objects) []) (λ t. get_or c.args.groups.now t []) (limit c.args.earlier.now) c.args.ts.now in
    let ends : Vec (DeadEnd g.row.A.Denot) g.row.A.Denot → List (DeadEnd g.row.A.Denot) = λ v. v.items in
    elim c.match-branch-2.branch [
      | in-Some+in_ok-push w ↦
          All-same is_stuck c.match-branch-2.ends.items (c.loop-positions.ends.items ++ w.in-Some.end ∷ []) (ap ends w.ends-is ∙ w.in_ok-push.ensures.items)
          (All-push is_stuck c.loop-positions.ends.items w.in-Some.end c.loop-positions.invariant (subst (λ (o : Option (DeadEnd g.row.A.Denot)). IfSome o is_stuck) w.in-Some.is c.in_ok-end.ensures))
      | in_default w ↦ All-same is_stuck c.match-branch-2.ends.items c.loop-positions.ends.items (ap ends w.ends-is) c.loop-positions.invariant
    ]

pub returns : goal.returns
returns g c = All-same (IsStuck (values_at {A = g.row.A.Denot} (kinds_of c.args.model.now.objects) []) (λ t. get_or c.args.groups.now t []) (limit c.args.earlier.now) c.args.ts.now) c.of.result c.loop-positions.ends.items c.of.ensures c.loop-positions.invariant
