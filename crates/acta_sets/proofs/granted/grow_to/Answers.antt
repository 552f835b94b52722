use Rattle.std.proofs.Common.{arith, ap, ◌∙◌}
use Rattle.acta_sets.specs.Permits.{has_grant}
use Rattle.acta_sets.specs.inside.Granted.{is_granted}
use Rattle.acta_sets.proofs.Grants.{grants_at-more}
use Rattle.acta_sets.proofs.granted.grow_to.Goals as goal

pub loop-preserved : goal.loop-preserved
loop-preserved g c = record {
  same = λ v object partner.
      ap (λ table. is_granted table v object partner) c.in_ok-push.ensures.items
      ∙ ap (λ gs. has_grant gs object partner) (grants_at-more c.loop.table.items c.new.result v c.new.ensures.empty)
      ∙ c.loop.invariant.same v object partner;
  long = omega (arith, c.in_ok-push.ensures.len, c.loop.invariant.long);
  few = λ few. omega (arith, c.in_ok-push.ensures.len, c.loop.invariant.long);
}
