use Rattle.std.proofs.Common.{true, [], if◌then◌else◌, ap, ◌∙◌}
use Rattle.std.proofs.lemmas.Result.{IfOk-weaker}
use Rattle.acta_sets.specs.Operations.{holders_against}
use Rattle.acta_values.specs.Conflicts.{is_well_formed}
use Rattle.acta_axioms.specs.Walks.{held_ops}
use Rattle.acta_axioms.specs.inside.Walking.{is_against}
use Rattle.acta_axioms.proofs.Searches.{holders-found, holders-tell}
use Rattle.acta_values.proofs.Unconflicted.{holders-unconflicted}
use Rattle.acta_axioms.proofs.walk.Walk.holders_against.Goals as goal

pub returns-then-not-may_conflict : goal.returns-then-not-may_conflict
returns-then-not-may_conflict g c =
    let m = c.args.self.now.model in
    let h = c.args.self.now.front in
    c.new.ensures.empty
    ∙ holders-unconflicted true (is_against m h c.args.t.0 c.args.object.0 c.args.op.now) (held_ops m h) (c.may_conflict.ensures c.if-not-may_conflict.true)
    ∙ holders-found m h c.args.t.0 c.args.object.0 c.args.op.now

pub returns : goal.returns
returns g c =
    let m = c.args.self.now.model in
    let h = c.args.self.now.front in
    let object = c.args.object.0 in
    let keys = c.in_ok-exempt.exempt.keys in
    IfOk-weaker c.holders_against.result _ _
    (λ _ seen.
    seen
    ∙ ap (λ k. if is_well_formed k object c.args.op.now then holders_against c.args.t.0 keys object c.args.op.now c.table.result.now else []) (ap (λ w. w.model) c.self.view_is)
    ∙ ap (λ xs. if is_well_formed m object c.args.op.now then holders_against c.args.t.0 keys object c.args.op.now xs else []) c.table.ensures
    ∙ holders-tell m h c.args.t.0 object c.args.op.now keys c.in_ok-exempt.ensures)
    c.holders_against.ensures
