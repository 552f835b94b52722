use Rattle.acta_values.proofs.LiveValues.{write_undone, amount_undone, mark_undone, amount_off_fits}
use Rattle.acta_values.proofs.live_value.LiveValue.undo.Goals as goal

pub take_amount-requires : goal.take_amount-requires
take_amount-requires g c = λ fit.
    amount_off_fits c.requires.kind c.requires.ops c.args.op.now c.args.self.now _ c.in-Counter.is c.requires.after fit

pub returns-in-Register : goal.returns-in-Register
returns-in-Register g c = λ kind ops after there.
    write_undone kind ops c.args.number c.args.self.now _ _ _ c.in-Register.is after c.remove.ensures

pub returns-in-Counter : goal.returns-in-Counter
returns-in-Counter g c = λ kind ops after there.
    amount_undone kind ops c.args.number c.args.op.now c.args.self.now _ _ c.in-Counter.is after there c.take_amount.ensures

pub returns-in-Elements : goal.returns-in-Elements
returns-in-Elements g c = λ kind ops after there.
    mark_undone kind ops c.args.number c.args.op.now c.args.self.now _ _ c.in-Elements.is after there c.take_mark.ensures
