use Rattle.std.specs.Prelude.{◌≡◌, ◌+◌, ◌-◌, ◌<◌, ◌≤◌, ℕ, List, length, set, get_or}
use Rattle.std.proofs.Common.{arith, rules, ap, sym, subst, ◌∙◌, inl, inr}
use Rattle.acta_sets.specs.declared.held_op.HeldOp.{HeldOp}
use Rattle.acta_sets.specs.Operations.{transferred_op}
use Rattle.acta_sets.specs.inside.Filing.{AreFiledBut}
use Rattle.acta_sets.proofs.Access.{set-changed, changed_none}
use Rattle.acta_sets.proofs.Filed.{AreFiledBut-set, filed_but_small}
use Rattle.acta_sets.proofs.changing.transfer_one.Goals as goal

past : (number place : ℕ) (items : List HeldOp) → (1 ≤ number) × (place ≡ number - 1) → length items ≤ place → 1 + length items ≤ number
past number place items at le = omega (arith, at.0, at.1)

pub returns-in_default-clause-items : goal.returns-in_default-clause-items
returns-in_default-clause-items g c = changed_none _ c.args.number 1 c.args.items.now.items (inl (search rules))

pub returns-then-place-len-clause-items : goal.returns-then-place-len-clause-items
returns-then-place-len-clause-items g c =
    let at : c.args.number ≡ 1 + c.in-Some.place = omega (arith, c.in-Some.ensures) in
    let items = c.args.items.now.items in
    let x = c.index-item.result.now in
    let room : c.in-Some.place < length items = search rules in
    let e : x ≡ get_or items c.in-Some.place x = search rules in
    ap (set items c.in-Some.place) c.transferred.ensures
    ∙ ap (λ (y : HeldOp). set items c.in-Some.place (transferred_op c.args.t.0 c.args.u y)) e ∙ set-changed (transferred_op c.args.t.0 c.args.u) c.args.number 1 c.in-Some.place items x at room

pub returns-clause-items : goal.returns-clause-items
returns-clause-items g c = changed_none _ c.args.number 1 c.args.items.now.items (inr (past c.args.number c.in-Some.place c.args.items.now.items c.in-Some.ensures (search rules)))

pub returns-then-place-len-clause-filed : goal.returns-then-place-len-clause-filed
returns-then-place-len-clause-filed g c =
    let items = c.args.items.now.items in
    let x = c.index-item.result.now in
    let room : c.in-Some.place < length items = search rules in
    let e : x ≡ get_or items c.in-Some.place x = search rules in
    let done = AreFiledBut-set c.args.batch c.transfer.result c.args.t.0 c.args.u.0 items c.args.counts.now c.transfer.new.counts c.in-Some.place x (transferred_op c.args.t.0 c.args.u x) room e c.requires.filed c.transfer.ensures.filed in
    subst (λ (y : HeldOp). AreFiledBut c.transfer.result c.args.t.0 c.args.u.0 (set items c.in-Some.place y) c.transfer.new.counts) (sym c.transferred.ensures) done

pub transfer-requires-clause-small : goal.transfer-requires-clause-small
transfer-requires-clause-small g c = λ q. omega (arith, c.requires.few, c.requires.short, filed_but_small c.args.batch c.args.t.0 c.args.u.0 c.args.items.now.items c.args.counts.now c.requires.filed q)
