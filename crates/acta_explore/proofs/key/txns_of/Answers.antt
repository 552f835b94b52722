use Rattle.std.proofs.Common.{◌++◌, ℕ, List, [], ◌∷◌, get_or, subst, sym, ap, ◌∙◌, arith}
use Rattle.acta_explore.specs.declared.key.Txn.{Txn}
use Rattle.acta_explore.specs.inside.Keys.{IsTrimmed, txn_in, no_txn}
use Rattle.acta_explore.proofs.Looping.{map-range}
use Rattle.acta_explore.proofs.Keying.{item-of-range, trimmed-range}
use Rattle.acta_explore.proofs.key.txns_of.Goals as goal

pub loop-t-preserved : goal.loop-t-preserved
loop-t-preserved g c =
    c.in_ok-push.ensures.items ∙ ((λ i. c.loop-t.invariant i ++ c.txn_of.ensures i ∷ []) ∙ sym (map-range (txn_in c.args.machine.now) c.loop-t.t))

pub returns-clause-records : goal.returns-clause-records
returns-clause-records g c =
    let f : ℕ → Txn = txn_in c.args.machine.now in
    λ t. ap (λ (txns : List Txn). get_or txns t no_txn) c.loop-t.invariant
    ∙ item-of-range f c.loop-t.t t no_txn (λ above. c.txn_count-count.ensures.beyond t (omega arith))

pub returns-clause-trimmed : goal.returns-clause-trimmed
returns-clause-trimmed g c =
    let f : ℕ → Txn = txn_in c.args.machine.now in
    subst IsTrimmed (sym c.loop-t.invariant)
    (trimmed-range f c.loop-t.t (λ t above. c.txn_count-count.ensures.beyond t (omega arith)) (λ t e. c.txn_count-count.ensures.last t (omega arith)))
