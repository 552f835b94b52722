use Rattle.std.proofs.Common.{length, refl, sym, ◌∙◌}
use Rattle.std.proofs.lemmas.Option.{slice_get_read}
use Rattle.acta_compare.proofs.Zipping.{among-items, compared-there, past-items, past-numbers, past-one, past-other}
use Rattle.acta_compare.proofs.differences.compared_at.Goals as goal

pub returns-in_err-get : goal.returns-in_err-get
returns-in_err-get c =
    let past = past-items c.args.place (length c.args.numbers.now) c.in_err-get.ensures.lookup.0 in
    c.from_residual.ensures ∙ sym (past-numbers c.args.numbers.now c.args.one.now c.args.other.now c.args.place past)

pub returns-in_err-get-2 : goal.returns-in_err-get-2
returns-in_err-get-2 c =
    let past = past-items c.args.place (length c.args.one.now) c.in_err-get-2.ensures.lookup.0 in
    c.from_residual-in_err-get-2.ensures ∙ sym (past-one c.args.numbers.now c.args.one.now c.args.other.now c.args.place past)

pub returns-in_err-get-3 : goal.returns-in_err-get-3
returns-in_err-get-3 c =
    let past = past-items c.args.place (length c.args.other.now) c.in_err-get-3.ensures.lookup.0 in
    c.from_residual-in_err-get-3.ensures ∙ sym (past-other c.args.numbers.now c.args.one.now c.args.other.now c.args.place past)

pub returns : goal.returns
returns c =
    let numbers = c.args.numbers.now in
    let one = c.args.one.now in
    let other = c.args.other.now in
    let i = c.args.place in
    let number = c.in_ok-get.ensures.lookup in
    let this = c.in_ok-get-2.ensures.lookup in
    let that = c.in_ok-get-3.ensures.lookup in
    sym (
    compared-there numbers one other i c.in_ok-get.field-0.now c.in_ok-get-2.field-0.now c.in_ok-get-3.field-0.now
    (slice_get_read numbers (length numbers) i c.in_ok-get.field-0.now refl (among-items i (length numbers) number.0) number.1)
    (slice_get_read one (length one) i c.in_ok-get-2.field-0.now refl (among-items i (length one) this.0) this.1)
    (slice_get_read other (length other) i c.in_ok-get-3.field-0.now refl (among-items i (length other) that.0) that.1)
    )
