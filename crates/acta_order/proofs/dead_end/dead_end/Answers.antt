use Rattle.std.proofs.Common.{arith, Vec, ◌≡◌, ℕ, ◌∙◌, List, [], get_or, map, Option, sym, ap, subst}
use Rattle.std.specs.Prelude.{IfSome}
use Rattle.acta_table.specs.declared.model.Kind.{Kind}
use Rattle.acta_values.specs.KeptValues.{kinds_of}
use Rattle.acta_axioms.specs.Serial.{Values}
use Rattle.acta_order.specs.declared.dead_end.Block.{Block}
use Rattle.acta_order.specs.declared.item.Item.{Item}
use Rattle.acta_order.specs.Blocks.{AreBlocked, IsReplayed}
use Rattle.acta_order.specs.Earlier.{limit}
use Rattle.acta_order.specs.Orders.{is_in, numbers_of}
use Rattle.acta_order.specs.Search.{Replaying, at, values_of}
use Rattle.acta_order.proofs.Blocking.{replayed-values}
use Rattle.acta_order.proofs.Placed.{is_in-reverse, placed-map}
use Rattle.acta_order.proofs.dead_end.dead_end.Goals as goal

pub listed-requires-clause-within : goal.listed-requires-clause-within
listed-requires-clause-within g c = λ j is.
    let size = (c.in_ok-retrace.ensures c.if-not-branch.false).size in
    let there = c.first_open-known.ensures.within j (sym (ap (λ (xs : List ℕ). is_in xs j) c.taken.ensures ∙ is_in-reverse c.retrace.new.path.stack j) ∙ is) in
    omega (arith, there, size)

pub returns : goal.returns
returns g c =
    let G : ℕ → List Item = λ t. get_or c.args.groups.now t [] in
    let L = limit c.args.earlier.now in
    let ts = c.args.ts.now in
    let path = c.retrace.new.path in
    let replay = c.retrace.new.replay in
    let kinds = kinds_of c.args.model.now.objects in
    let kinds_are : c.in_ok-replay.replay.kinds ≡ kinds = ap (λ (b : Replaying). b.kinds) c.in_ok-replay.ensures ∙ ap kinds_of c.objects.ensures.objects in
    let r : IsReplayed g.row.A.Denot kinds G L ts path replay = subst (λ (ks : List Kind). IsReplayed g.row.A.Denot ks G L ts path replay) kinds_are (c.in_ok-retrace.ensures c.if-not-branch.false) in
    let values = replayed-values g.row.A.Denot kinds G L ts path replay r c.requires.sound in
    let found : AreBlocked (values_of {A = g.row.A.Denot} replay) G L ts path.stack c.in-Some.blocks.items =
    subst (λ (o : Option (Vec Block g.row.A.Denot)). IfSome o (λ blocks. AreBlocked (values_of {A = g.row.A.Denot} replay) G L ts path.stack blocks.items)) c.in-Some.is c.in_ok-blocks.ensures in
    record {
      stack = path.stack;
      reached = r.reached;
      front = ap numbers_of c.of.ensures ∙ c.in_ok-listed.ensures ∙ ap (map (at ts)) c.taken.ensures ∙ sym (placed-map ts path.stack);
      blocked =
          subst (λ (v : Values g.row.A.Denot). AreBlocked v G L ts path.stack c.of-2.result) (sym values)
          (subst (λ (bs : List Block). AreBlocked (values_of {A = g.row.A.Denot} replay) G L ts path.stack bs) (sym c.of-2.ensures) found);
    }
