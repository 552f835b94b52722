use Rattle.std.proofs.Common.{◌∙◌, ◌+◌, ◌++◌, sym, ap, drop, filter, flat_map, arith, List}
use Rattle.std.proofs.lemmas.List.{at_drop_more, append_assoc}
use Rattle.std.proofs.lemmas.List.Elements.{filter-append}
use Rattle.acta_table.specs.declared.dep.Dep.{Dep}
use Rattle.acta_table.specs.declared.start_edges.StartEdge.{StartEdge}
use Rattle.acta_table.specs.Dependencies.{all_kinds}
use Rattle.acta_table.specs.Starts.{both_of, is_listed}
use Rattle.acta_table.proofs.start_edges.in_order.Goals as goal

-- after one more kind is appended, one kind less remains
pub loop-kind-preserved : goal.loop-kind-preserved
loop-kind-preserved g c =
    let p = is_listed c.args.edges.now in
    let i = c.loop-kind.kind-index in
    let before = c.loop-kind.listed.items in
    let rest = flat_map both_of (drop (i + 1) all_kinds) in
    ap (λ (es : List StartEdge). es ++ filter p rest) c.in_ok-push_listed.ensures
    ∙ append_assoc before (filter p (both_of _)) (filter p rest)
    ∙ ap (λ (es : List StartEdge). before ++ es) (sym (filter-append p (both_of _) rest))
    ∙ sym (at_drop_more (λ (kinds : List Dep). before ++ filter p (flat_map both_of kinds)) all_kinds i _ (omega arith))
    ∙ c.loop-kind.invariant
