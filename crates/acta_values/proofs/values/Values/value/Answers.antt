use Rattle.std.proofs.Common.{◌≡◌, ◌≤◌, ◌<◌, ◌∙◌, length, get_or}
use Rattle.acta_objects.specs.declared.state.ObjectState.{ObjectState}
use Rattle.acta_values.proofs.Read.{read_there, read_nothing}
use Rattle.acta_values.proofs.values.Values.value.Goals as goal

pub returns-in_ok-value-in-Some : goal.returns-in_ok-value-in-Some
returns-in_ok-value-in-Some g c = λ kinds items after.
    let same : c.deref.result.now ≡ c.args.self.now = c.deref.ensures.value ∙ c.self.view_is in
    let within : c.args.object < length c.args.self.now = rw (← same) c.in-Some.ensures.lookup.3.0 in
    let is : c.in-Some.value.now ≡ get_or c.args.self.now c.args.object c.in-Some.value.now = rw (← same) c.in-Some.ensures.lookup.1 in
    read_there kinds items c.args.self.now c.args.object c.in-Some.value.now (λ (state : ObjectState g.row.A.Denot). state) c.in_ok-value-in-Some.field-0 after within is c.in_ok-value-in-Some.ensures

pub returns-in-None : goal.returns-in-None
returns-in-None g c = λ kinds items after.
    let same : c.deref.result.now ≡ c.args.self.now = c.deref.ensures.value ∙ c.self.view_is in
    let past : length c.args.self.now ≤ c.args.object = rw (← same) c.in-None.ensures.lookup.3 in
    read_nothing kinds items c.args.self.now c.args.object _ after past
