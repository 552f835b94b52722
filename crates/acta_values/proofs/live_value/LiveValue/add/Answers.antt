use Rattle.std.proofs.Common.{arith}
use Rattle.acta_values.proofs.CounterStates.{near_fits, near_more}
use Rattle.acta_values.proofs.LiveValues.{write_added, amount_added, mark_added, writes_below, marks_below, sum_is_near}
use Rattle.acta_values.proofs.live_value.LiveValue.add.Goals as goal

pub add_write-requires : goal.add_write-requires
add_write-requires g c = writes_below c.requires.kind c.requires.ops c.args.number c.args.self.now _ _ c.in-Register.is c.requires.after c.requires.below

pub add_amount-requires : goal.add_amount-requires
add_amount-requires g c = λ fit.
    near_fits _ _ (omega (arith, c.requires.room)) (near_more _ _ c.args.op.now (sum_is_near c.requires.kind c.requires.ops c.args.self.now _ c.in-Counter.is c.requires.after) fit)

pub add_mark-requires : goal.add_mark-requires
add_mark-requires g c = marks_below c.requires.kind c.requires.ops c.args.number c.args.self.now _ c.in-Elements.is c.requires.after c.requires.below

pub returns-in_ok-add_write-in-Register-clause-ok : goal.returns-in_ok-add_write-in-Register-clause-ok
returns-in_ok-add_write-in-Register-clause-ok g c = λ kind ops after below room.
    write_added kind ops c.args.number c.args.op.now c.args.self.now _ _ _ c.in-Register.is after below room c.read_amount.ensures c.in_ok-add_write-in-Register.ensures.ok

pub returns-in-Counter-clause-ok : goal.returns-in-Counter-clause-ok
returns-in-Counter-clause-ok g c = λ kind ops after below room.
    amount_added kind ops c.args.number c.args.op.now c.args.self.now _ _ c.in-Counter.is after below room c.read_amount.ensures c.add_amount.ensures

pub returns-in_ok-add_mark-in-Elements-clause-ok : goal.returns-in_ok-add_mark-in-Elements-clause-ok
returns-in_ok-add_mark-in-Elements-clause-ok g c = λ kind ops after below room.
    mark_added kind ops c.args.number c.args.op.now c.args.self.now _ _ c.in-Elements.is after below room c.read_amount.ensures c.in_ok-add_mark-in-Elements.ensures.ok
