use Rattle.std.proofs.Common.{◌∙◌, rules}
use Rattle.std.proofs.lemmas.List.Sorted.{answers_always}
use Rattle.acta_table.proofs.OpSearch.{found-named}
use Rattle.acta_table.proofs.op_set.OpSet.has_number.Goals as goal

pub returns : goal.returns
returns g c =
    let found = c.binary_search_by_key.ensures in
    let at = found.position (λ o. o.0) (answers_always _ _ _ (λ f a r g called. search rules)) in
    c.is_ok.ensures.value ∙ rw (← c.as_slice.ensures.items) (found-named _ c.args.number _ (rw c.as_slice.ensures.items c.as_slice.ensures.ascending) found.bound at)
