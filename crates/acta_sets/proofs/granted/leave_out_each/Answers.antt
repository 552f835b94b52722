use Rattle.std.specs.Prelude.{◌&&◌, ◌==◌, not, map, []}
use Rattle.std.proofs.Common.{ap, sym, ◌∙◌, ◌∷◌}
use Rattle.std.proofs.lemmas.List.{map-append}
use Rattle.std.specs.Map.Iter.{deref}
use Rattle.acta_sets.specs.declared.grant.Grant.{Grant}
use Rattle.acta_sets.specs.Permits.{has_grant}
use Rattle.acta_sets.specs.inside.Granted.{is_granted}
use Rattle.acta_sets.proofs.Grants.{has_grant-more}
use Rattle.acta_sets.proofs.granted.leave_out_each.Goals as goal

pub loop-grant-preserved : goal.loop-grant-preserved
loop-grant-preserved g c = record {
  left = λ v object partner.
      let grant = c.in-Some.grant.now in
      let t = c.args.t.0 in
      let before = map (deref {X = Grant}) c.loop-grant.yielded in
      let kept = is_granted c.args.table.now.items v object partner in
      c.leave_out_at.ensures.left v object partner
      ∙ ap (λ b. b && not ((grant.partner.0 == v) && ((grant.object.0 == object) && (t == partner)))) (c.loop-grant.invariant.left v object partner)
      ∙ has_grant-more kept t object partner v before grant
      ∙ ap (λ gs. kept && not ((t == partner) && has_grant gs object v)) (sym (map-append (deref {X = Grant}) c.loop-grant.yielded (c.in-Some.grant ∷ [])));
  few = λ few. c.leave_out_at.ensures.few (c.loop-grant.invariant.few few);
}
