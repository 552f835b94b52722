use Rattle.std.proofs.Common.{List, [], ◌&&◌, if◌then◌else◌, sym, ap, ◌∙◌}
use Rattle.std.specs.List.{list_any}
use Rattle.std.proofs.lemmas.Result.{IfOk-weaker}
use Rattle.acta_sets.specs.declared.held_op.HeldOp.{HeldOp}
use Rattle.acta_sets.specs.Operations.{holders_against, is_against_but}
use Rattle.acta_values.specs.Conflicts.{is_well_formed}
use Rattle.acta_values.proofs.Unconflicted.{holders-unconflicted}
use Rattle.acta_machine.specs.inside.Exempt.{is_exempt}
use Rattle.acta_machine.specs.inside.Abstraction.{abstraction}
use Rattle.acta_machine.proofs.ConflictingHolders.{conflicting_holders-but, conflicting_holders-tell}
use Rattle.acta_machine.proofs.machine_state.MachineState.conflicting_holders.Goals as goal

pub returns-then-not-may_conflict : goal.returns-then-not-may_conflict
returns-then-not-may_conflict g c =
    let m = c.args.self.now.model in
    let s = abstraction c.args.self.now in
    let t = c.args.t.0 in
    let exempt = is_exempt m s t c.args.ob.0 in
    let w = is_well_formed m c.args.ob.0 c.args.op.now in
    let against = is_against_but t exempt c.args.ob.0 c.args.op.now in
    c.new.ensures.empty
    ∙ holders-unconflicted w against s.operations (ap (λ (items : List HeldOp). w && list_any against items) (sym c.operations.ensures) ∙ c.may_conflict.ensures exempt c.if-not-may_conflict.true)
    ∙ conflicting_holders-but m s t c.args.ob c.args.op.now

pub returns : goal.returns
returns g c =
    let m = c.args.self.now.model in
    let keys = c.in_ok-exempts.exempts.keys in
    let object = c.args.ob.0 in
    IfOk-weaker c.holders_against.result _ _
    (λ _ seen.
    seen
    ∙ ap (λ (items : List HeldOp). if is_well_formed m object c.args.op.now then holders_against c.args.t.0 keys object c.args.op.now items else []) c.operations-2.ensures
    ∙ conflicting_holders-tell m (abstraction c.args.self.now) c.args.t.0 c.args.ob c.args.op.now keys c.in_ok-exempts.ensures)
    c.holders_against.ensures
