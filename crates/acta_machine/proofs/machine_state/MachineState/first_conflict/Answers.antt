use Rattle.std.proofs.Common.{List, None, ◌&&◌, if◌then◌else◌, sym, ap, ◌∙◌}
use Rattle.std.specs.List.{list_any}
use Rattle.acta_table.specs.Numbered.{first_number}
use Rattle.acta_sets.specs.declared.held_op.HeldOp.{HeldOp}
use Rattle.acta_sets.specs.Operations.{is_against, is_against_but}
use Rattle.acta_values.specs.Conflicts.{is_well_formed}
use Rattle.acta_values.proofs.Unconflicted.{none_if, first-unconflicted}
use Rattle.acta_machine.specs.inside.Exempt.{is_exempt}
use Rattle.acta_machine.specs.inside.Abstraction.{abstraction}
use Rattle.acta_machine.proofs.Remembering.{exempt-remembered}
use Rattle.acta_machine.proofs.ConflictingHolders.{first-but, first-tells}
use Rattle.acta_machine.proofs.machine_state.MachineState.first_conflict.Goals as goal

pub returns-then-not-may_conflict : goal.returns-then-not-may_conflict
returns-then-not-may_conflict g c =
    let m = c.args.self.now.model in
    let s = abstraction c.args.self.now in
    let t = c.args.t.0 in
    let exempt = is_exempt m s t c.args.ob.0 in
    let w = is_well_formed m c.args.ob.0 c.args.op.now in
    let against = is_against_but t exempt c.args.ob.0 c.args.op.now in
    first-unconflicted w against s.operations (ap (λ (items : List HeldOp). w && list_any against items) (sym c.operations.ensures) ∙ c.may_conflict.ensures exempt c.if-not-may_conflict.true)
    ∙ first-but m s t c.args.ob c.args.op.now

-- all that conflicts is held by ancestors
pub returns-then-is_clear : goal.returns-then-is_clear
returns-then-is_clear g c =
    let m = c.args.self.now.model in
    let s = abstraction c.args.self.now in
    let t = c.args.t.0 in
    let exempt = is_exempt m s t c.args.ob.0 in
    let w = is_well_formed m c.args.ob.0 c.args.op.now in
    let against = is_against_but t exempt c.args.ob.0 c.args.op.now in
    let has = sym c.exempts_ancestors.ensures ∙ c.if-exempts_ancestors.true in
    let exempted = exempt-remembered m s t c.args.ob.0 c.args.self.now.store.lineage has c.requires in
    first-unconflicted w against s.operations (none_if w _ (c.is_clear.ensures exempt exempted c.if-is_clear.true))
    ∙ first-but m s t c.args.ob c.args.op.now

pub returns : goal.returns
returns g c =
    let m = c.args.self.now.model in
    let keys = c.in_ok-exempts.exempts.keys in
    let object = c.args.ob.0 in
    c.first_conflict-number.ensures
    ∙ ap (λ (items : List HeldOp). if is_well_formed m object c.args.op.now then first_number (is_against c.args.t.0 keys object c.args.op.now) items else None) c.operations-2.ensures
    ∙ first-tells m (abstraction c.args.self.now) c.args.t.0 c.args.ob c.args.op.now keys c.in_ok-exempts.ensures
