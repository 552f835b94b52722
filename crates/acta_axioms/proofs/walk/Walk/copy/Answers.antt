use Rattle.std.proofs.Common.{◌<◌, length, get_or, sym, ap, arith, subst, ◌∙◌, All, List}
use Rattle.acta_table.specs.Events.{named}
use Rattle.acta_sets.specs.Lineages.{parent_in}
use Rattle.acta_sets.specs.Permits.{permitted}
use Rattle.acta_sets.specs.declared.grant.Grant.{Grant}
use Rattle.acta_values.specs.Stores.{Stored}
use Rattle.acta_axioms.specs.declared.txn_record.TxnRecord.{TxnRecord}
use Rattle.acta_axioms.specs.inside.TxnRecords.{unbegun}
use Rattle.std.proofs.lemmas.List.Elements.{same_from_all_zip}
use Rattle.acta_axioms.proofs.walk.Walk.copy.Goals as goal

pub invariant_of-result : goal.invariant_of-result
invariant_of-result g c =
    let walk = c.self.invariant in
    let h = c.self.inside.kept.now in
    let lines = c.in_ok-from_slice.ensures.items ∙ c.as_slice.ensures.value in
    let store = c.in_ok-copy.ensures in
    record {
      within = walk.within;
      few = walk.few;
      wide = subst (λ (ls : List TxnRecord). All (λ k. All (λ t. t < length ls) (named k.event)) h) (sym lines) walk.wide;
      lines_are = λ t. ap (λ (ls : List TxnRecord). get_or ls t unbegun) lines ∙ walk.lines_are t;
      kinds_are = ap (λ (s : Stored). s.kinds) store ∙ walk.kinds_are;
      items_are = ap (λ (s : Stored). s.items) store ∙ walk.items_are;
      remembered = λ t p e. ap (λ (ls : List TxnRecord). (get_or ls t unbegun).parent) lines ∙ walk.remembered t p (sym (ap (λ (s : Stored). parent_in s.lineage t) store) ∙ e);
      deep = let most = ap (λ (s : Stored). s.lineage.most) store in let deep = walk.deep in omega (arith, most, deep);
      permits_are = λ s t object. ap (λ (ps : List (List Grant)). permitted ps s t object) c.in_ok-copy-2.ensures ∙ walk.permits_are s t object;
      edges_are = same_from_all_zip _ _ _ c.in_ok-clone.ensures.cases (λ x y same. same) ∙ walk.edges_are;
    }
