use Rattle.std.proofs.Common.{◌≡◌, ◌+◌, None, Some, length, ap, sym, arith, ◌∙◌}
use Rattle.std.proofs.Math.ListN.{replicate}
use Rattle.std.proofs.lemmas.List.{length-replicate}
use Rattle.acta_values.specs.KeptValues.{kinds_of}
use Rattle.acta_sets.specs.Lineages.{parent_in}
use Rattle.acta_sets.specs.Permits.{Permitted}
use Rattle.acta_values.specs.Stores.{Stored}
use Rattle.acta_axioms.specs.inside.TxnRecords.{unbegun}
use Rattle.acta_axioms.proofs.TxnRecords.{lines-blank}
use Rattle.acta_axioms.proofs.Named.{named-below}
use Rattle.acta_axioms.proofs.Permitting.{none-left}
use Rattle.acta_axioms.proofs.walk.Walk.of.Goals as goal

pub invariant_of-result : goal.invariant_of-result
invariant_of-result g c =
    let h = c.args.kept.now in
    let lines = c.in_ok-lines.lines.items in
    let blank : lines ≡ replicate (c.largest_named.result + 1) unbegun = c.in_ok-lines.ensures.items_if_clones_equal (λ y same. same) in
    let long = ap length blank ∙ length-replicate (c.largest_named.result + 1) unbegun in
    record {
      within = omega arith;
      few = c.requires;
      wide = named-below h c.largest_named.result (length lines) (omega (arith, long)) c.largest_named.ensures;
      lines_are = λ t. lines-blank h lines (c.largest_named.result + 1) t blank;
      kinds_are = ap (λ (s : Stored). s.kinds) c.in_ok-new.ensures ∙ ap kinds_of c.objects.ensures.objects;
      items_are = ap (λ (s : Stored). s.items) c.in_ok-new.ensures;
      remembered = λ t p e. let no : None ≡ Some p = sym (ap (λ (s : Stored). parent_in s.lineage t) c.in_ok-new.ensures) ∙ e in cc;
      deep = let most = ap (λ (s : Stored). s.lineage.most) c.in_ok-new.ensures in omega (arith, most);
      permits_are = λ s t object. ap (λ (p : Permitted). p s t object) c.new-3.ensures ∙ none-left g.row.A.Denot s t object;
      edges_are = c.new-2.ensures.empty;
    }
