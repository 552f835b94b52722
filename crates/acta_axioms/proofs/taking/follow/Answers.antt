use Rattle.std.proofs.Common.{◌≡◌, List, sym, ap, ◌∙◌}
use Rattle.std.proofs.lemmas.Result.{on_ok_weaker}
use Rattle.acta_sets.specs.declared.held_op.HeldOp.{HeldOp}
use Rattle.acta_values.specs.Stores.{Stored}
use Rattle.acta_axioms.proofs.Following.{split-on, delegate-on, join-on, heir-on, commit-on, abort-on, operate-on, other-on, further_on}
use Rattle.acta_axioms.proofs.taking.follow.Goals as goal

-- stores with equal operations are equal
with_items : (s : Stored) {items others : List HeldOp} → items ≡ others → record s { items = items } ≡ record s { items = others }
with_items s e = λ i. record s { items = e i }

pub returns-in-Split-clause-ok : goal.returns-in-Split-clause-ok
returns-in-Split-clause-ok g c = on_ok_weaker c.transfer.result (λ e. e ∙ with_items c.args.store.now (split-on c.args.heir c.args.event.now c.in-Split.s c.in-Split.u c.in-Split.field-2 c.in-Split.ops c.args.store.now.items c.in-Split.is)) c.transfer.ensures.ok

pub returns-in-Join-clause-ok : goal.returns-in-Join-clause-ok
returns-in-Join-clause-ok g c = on_ok_weaker c.transfer_all.result (λ e. e ∙ with_items c.args.store.now (join-on c.args.heir c.args.event.now c.in-Join.s c.in-Join.u c.args.store.now.items c.in-Join.is)) c.transfer_all.ensures.ok

pub returns-in-Delegate-clause-ok : goal.returns-in-Delegate-clause-ok
returns-in-Delegate-clause-ok g c = on_ok_weaker c.transfer-in-Delegate.result (λ e. e ∙ with_items c.args.store.now (delegate-on c.args.heir c.args.event.now c.in-Delegate.s c.in-Delegate.u c.in-Delegate.ops c.args.store.now.items c.in-Delegate.is)) c.transfer-in-Delegate.ensures.ok

pub returns-in-Some-clause-ok : goal.returns-in-Some-clause-ok
returns-in-Some-clause-ok g c =
    on_ok_weaker c.transfer_all-in-Some.result
    (λ e. e ∙ with_items c.args.store.now (heir-on c.args.event.now c.in-Commit.s c.in-Some.u c.args.store.now.items c.in-Commit.is ∙ ap (λ left. further_on left c.args.event.now c.args.store.now.items) (sym c.in-Some.is)))
    c.transfer_all-in-Some.ensures.ok

pub returns-in-None-clause-ok : goal.returns-in-None-clause-ok
returns-in-None-clause-ok g c =
    c.end_all.ensures ∙ with_items c.args.store.now (commit-on c.args.event.now c.in-Commit.s c.args.store.now.items c.in-Commit.is ∙ ap (λ left. further_on left c.args.event.now c.args.store.now.items) (sym c.in-None.is))

pub returns-in-Abort-clause-ok : goal.returns-in-Abort-clause-ok
returns-in-Abort-clause-ok g c = c.end_all-in-Abort.ensures ∙ with_items c.args.store.now (abort-on c.args.heir c.args.event.now c.in-Abort.s c.args.store.now.items c.in-Abort.is)

pub returns-in-Operate-clause-ok : goal.returns-in-Operate-clause-ok
returns-in-Operate-clause-ok g c = on_ok_weaker c.add.result (λ e. e ∙ with_items c.args.store.now (operate-on c.args.heir c.args.event.now c.in-Operate.t c.in-Operate.object c.in-Operate.op c.args.store.now.items c.in-Operate.is)) c.add.ensures.ok

pub returns-in_default-clause-ok : goal.returns-in_default-clause-ok
returns-in_default-clause-ok g c = with_items c.args.store.now (other-on c.args.heir c.args.event.now c.args.store.now.items c.in_default.not-Split c.in_default.not-Join c.in_default.not-Delegate c.in_default.not-Operate c.in_default.not-Commit c.in_default.not-Abort)
