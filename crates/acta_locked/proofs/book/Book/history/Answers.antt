use Rattle.std.proofs.Common.{◌≡◌, ap, sym, ◌∙◌}
use Rattle.std.proofs.lemmas.List.{take_all}
use Rattle.acta_judge.specs.Verdicts.{verdict}
use Rattle.acta_locked.proofs.Judging.{judged}
use Rattle.acta_locked.proofs.book.Book.history.Goals as goal

pub returns-clause-faultless : goal.returns-clause-faultless
returns-clause-faultless g c =
    let state = c.machine.result.now in
    let all : c.loop-item.copy.items ≡ c.history-history.result.now = c.loop-item.invariant ∙ take_all _ _ c.loop-item-test.false in
    let clean = ap (λ v. v.faults) (judged state c.machine.ensures.follows) in
    ap (λ m. (verdict m c.loop-item.copy.items).faults) (sym c.machine.ensures.model) ∙ ap (λ h. (verdict state.model h).faults) (all ∙ c.history-history.ensures.history) ∙ clean
