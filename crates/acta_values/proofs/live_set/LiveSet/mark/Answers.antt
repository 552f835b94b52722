use Rattle.std.proofs.Common.{sym, subst, w32}
use Rattle.std.specs.Prelude.{FitsSigned}
use Rattle.std.proofs.lemmas.Int.{to_z-of_z}
use Rattle.acta_values.specs.LiveSets.{Marks, trail_at}
use Rattle.acta_values.specs.Trails.{AreBelow}
use Rattle.acta_values.proofs.live_set.LiveSet.mark.Goals as goal

pub put_mark-requires : goal.put_mark-requires
put_mark-requires g c =
    let fits : FitsSigned w32 c.args.x = c.ranges.x in
    simp to_z-of_z (subst (λ (marks : Marks). AreBelow c.args.number (trail_at marks c.args.x)) (sym c.self.view_is) c.requires)
