use Rattle.std.proofs.Common.{◌≤◌, ◌<◌, ◌-◌, length, arith}
use Rattle.acta_table.specs.declared.answer.Fate.TheVariants.{InProgress}
use Rattle.acta_table.specs.declared.event.Op.TheVariants.{Read}
use Rattle.acta_sets.specs.declared.held_op.HeldOp.{HeldOp}
use Rattle.acta_values.proofs.TakenBack.{next_held, back_start, back_next, back_counts, back_end}
use Rattle.acta_values.proofs.values.take_back.Goals as goal

pub loop-left-init : goal.loop-left-init
loop-left-init g c = record {
  within = omega arith;
  back = λ kinds after. back_start kinds c.args.items.now c.args.held.now c.args.values.now after;
}

pub overflow_sub-item : goal.overflow_sub-item
overflow_sub-item g c =
    let within : c.loop-left.left ≤ length c.args.held.now = c.loop-left.invariant.within in
    let there : c.loop-left.left - 1 < length c.args.held.now = omega (arith, c.loop-left-test.true, within) in
    let none : HeldOp = record { ob = record { 0 = 0 }; op = Read; holder = record { 0 = 0 }; fate = InProgress } in
    let at = next_held c.args.t.0 c.args.items.now c.args.held.now (c.loop-left.left - 1) 0 none c.requires.held there in
    at.low

pub bounds-items-number : goal.bounds-items-number
bounds-items-number g c =
    let within : c.loop-left.left ≤ length c.args.held.now = c.loop-left.invariant.within in
    let there : c.loop-left.left - 1 < length c.args.held.now = omega (arith, c.loop-left-test.true, within) in
    let none : HeldOp = record { ob = record { 0 = 0 }; op = Read; holder = record { 0 = 0 }; fate = InProgress } in
    let at = next_held c.args.t.0 c.args.items.now c.args.held.now (c.loop-left.left - 1) 0 none c.requires.held there in
    omega (arith, at.low, at.high)

pub undo-requires : goal.undo-requires
undo-requires g c = λ inside d.
    let after = c.requires.values.after in
    let within : c.loop-left.left ≤ length c.args.held.now = c.loop-left.invariant.within in
    back_counts c.requires.values.kinds c.args.items.now c.args.t.0 c.args.held.now c.loop-left.left _ _ c.args.values.now c.loop-left.values d after c.requires.held c.loop-left-test.true within (c.loop-left.invariant.back c.requires.values.kinds after) inside

pub loop-left-preserved : goal.loop-left-preserved
loop-left-preserved g c = record {
  within = omega (arith, c.loop-left.invariant.within);
  back = λ kinds after.
      back_next kinds c.args.items.now c.args.t.0 c.args.held.now c.loop-left.left _ _ c.args.values.now c.loop-left.values c.undo.new.values after c.requires.held c.loop-left-test.true c.loop-left.invariant.within (c.loop-left.invariant.back kinds after) c.undo.ensures;
}

pub returns : goal.returns
returns g c = λ kinds after.
    back_end kinds c.args.items.now c.args.t.0 c.args.held.now c.loop-left.left c.args.values.now c.loop-left.values after c.requires.held c.loop-left-test.false (c.loop-left.invariant.back kinds after)
