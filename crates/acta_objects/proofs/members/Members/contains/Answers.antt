use Rattle.std.proofs.Common.{w32}
use Rattle.std.specs.Prelude.{FitsSigned}
use Rattle.std.proofs.lemmas.Int.{to_z-of_z}
use Rattle.acta_objects.proofs.members.Members.contains.Goals as goal

pub returns : goal.returns
returns g c = let fits : FitsSigned w32 c.args.x = c.ranges.x in rw (← c.self.view_is) (simp to_z-of_z at c.contains.ensures)
