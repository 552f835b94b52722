use Rattle.std.specs.Prelude.{[], get_or}
use Rattle.std.proofs.Common.{ap, arith}
use Rattle.acta_sets.specs.Permits.{has_grant}
use Rattle.acta_sets.proofs.Permitting.{AreMirrored-same, length-lists}
use Rattle.acta_sets.proofs.permits.Permits.copy.Goals as goal

pub invariant_of-result : goal.invariant_of-result
invariant_of-result g c =
    record {
      mirrored = AreMirrored-same c.self.inside.taken.items c.in_ok-copied.field-0.items c.self.inside.given.items c.in_ok-copied-2.field-0.items
          (λ v object partner. ap (λ lists. has_grant (get_or lists v []) object partner) c.in_ok-copied.ensures)
          (λ v object partner. ap (λ lists. has_grant (get_or lists v []) object partner) c.in_ok-copied-2.ensures)
          c.self.invariant.mirrored;
      few = let same = length-lists c.in_ok-copied.field-0.items c.self.inside.taken.items c.in_ok-copied.ensures in let few = c.self.invariant.few in omega arith;
    }
