use Rattle.std.proofs.Common.{ap, ◌∙◌}
use Rattle.acta_sets.specs.Permits.{permitted, without_permits}
use Rattle.acta_sets.proofs.Permitting.{permitted-ended, AreMirrored-ended}
use Rattle.acta_sets.proofs.permits.Permits.ended.Goals as goal

pub invariant_of-self : goal.invariant_of-self
invariant_of-self g c =
    record {
      mirrored = AreMirrored-ended c.self.inside.taken.items c.self.inside.given.items c.taken_out-taken.new.table.items c.leave_out_each.new.table.items c.taken_out-given.new.table.items c.leave_out_each-2.new.table.items
          c.taken_out-given.result.keys c.taken_out-taken.result.keys c.args.t.0 c.self.invariant.mirrored
          c.taken_out-given.ensures.grants c.taken_out-taken.ensures.others c.leave_out_each.ensures.left c.taken_out-given.ensures.others c.leave_out_each-2.ensures.left;
      few = c.leave_out_each.ensures.few (c.taken_out-taken.ensures.few c.self.invariant.few);
    }

pub returns : goal.returns
returns g c =
    permitted-ended c.self.inside.taken.items c.self.inside.given.items c.taken_out-taken.new.table.items c.leave_out_each.new.table.items c.taken_out-given.result.keys c.args.t.0 c.self.invariant.mirrored
    c.taken_out-given.ensures.grants c.taken_out-taken.ensures.others c.leave_out_each.ensures.left
    ∙ ap (λ p. without_permits (permitted p) c.args.t.0) c.self.view_is
