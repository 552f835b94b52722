use Rattle.std.proofs.Common.{[], ap, ◌∙◌, List, fold}
use Rattle.std.specs.List.{filter_map}
use Rattle.std.specs.BTreeSet.{insert_key}
use Rattle.std.proofs.lemmas.Result.{IfOk-weaker}
use Rattle.acta_machine.specs.Table.{edges_in, status_in}
use Rattle.acta_explore.specs.declared.debt.Debt.{Debt}
use Rattle.acta_explore.specs.Outcomes.{debt_cmp}
use Rattle.acta_explore.specs.inside.Shown.{debt_among}
use Rattle.acta_explore.proofs.Owing.{same-debts}
use Rattle.acta_explore.proofs.outcome.debts.Goals as goal

pub returns : goal.returns
returns g c =
    let owed = c.as_slice.ensures.value ∙ c.in_ok-owed.ensures.debts in
    let by = (λ i. filter_map (debt_among (c.edges.ensures.edges i)) (owed i)) ∙ same-debts (status_in c.args.machine.now) (edges_in c.args.machine.now) in
    IfOk-weaker c.listed.result _ _ (λ debts h. h ∙ (c.in_ok-set.ensures ∙ ap (λ (ds : List Debt). fold (insert_key debt_cmp) [] ds) by)) c.listed.ensures
