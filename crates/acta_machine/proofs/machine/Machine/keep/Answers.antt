use Rattle.std.proofs.Common.{◌≡◌, List, sym, ◌∙◌, ap, subst, ◌++◌, ◌∷◌, [], length, length-append, arith, None, true}
use Rattle.std.specs.List.{list_all}
use Rattle.std.specs.Option.{option_map_or}
use Rattle.acta_table.specs.declared.dep.Edge.{Edge}
use Rattle.acta_table.specs.declared.event.Event.{Event}
use Rattle.acta_table.specs.declared.event.Kept.{Kept}
use Rattle.acta_table.specs.declared.model.Parts.{Parts}
use Rattle.acta_table.specs.Faults.{lowest_fault}
use Rattle.acta_machine.specs.Summary.{Summary, linked, counted}
use Rattle.acta_machine.specs.Changes.{edges_due, changed, summary_of}
use Rattle.acta_machine.specs.Values.{return_due}
use Rattle.acta_machine.specs.Rules.{lowest_broken}
use Rattle.acta_machine.specs.inside.Abstraction.{abstraction}
use Rattle.acta_machine.specs.Table.{State, kept_as}
use Rattle.acta_machine.specs.Places.{AreHeldWell, FollowsPlaces}
use Rattle.acta_machine.specs.inside.Remembered.{IsRemembered}
use Rattle.acta_machine.proofs.Remembering.{remembered-after}
use Rattle.acta_sets.specs.Lineages.{Lineage}
use Rattle.acta_machine.specs.inside.FreshEdges.{is_fresh_edge}
use Rattle.acta_table.specs.Edges.{formed}
use Rattle.acta_table.specs.Events.{acting, operations_named}
use Rattle.acta_sets.specs.Operations.{are_held}
use Rattle.acta_values.specs.KeptValues.{kinds_of}
use Rattle.acta_deps.specs.Deps.{status_of}
use Rattle.acta_machine.proofs.FreshEdges.{fresh-due}
use Rattle.acta_machine.proofs.Refusals.{none_refused}
use Rattle.acta_machine.proofs.Transferring.{event-held}
use Rattle.acta_machine.proofs.Histories.{summary_more, operations_few}
use Rattle.acta_machine.proofs.Unbroken.{Admissible, Unbroken, unbroken, none-earlier, still-admissible, linked-room}
use Rattle.acta_machine.proofs.Steps.{follows-push}
use Rattle.acta_machine.proofs.machine.Machine.keep.Goals as goal

-- the conditions on the event, in terms of the machine's lists
module _ {A : Type 0} (model : Parts A) (kept : List (Kept A)) (s : Summary) (event : Event A) (due : List Edge) (now : State A)
    (agrees : s ≡ summary_of model kept) (is : record { model = model; kept = kept } ≡ now)
    (none : lowest_broken now.model (summary_of now.model now.kept) event ≡ None)
    (formed : due ≡ edges_due now.model (summary_of now.model now.kept) event) (faultless : lowest_fault now.model ≡ None) where
  none-kept : lowest_broken model (summary_of model kept) event ≡ None
  none-kept = ap (λ (x : State A). lowest_broken x.model (summary_of x.model x.kept) event) is ∙ none

  none-abstraction : lowest_broken model s event ≡ None
  none-abstraction = ap (λ (x : Summary). lowest_broken model x event) agrees ∙ none-kept

  unbroken-abstraction : Unbroken model s event
  unbroken-abstraction = unbroken model s event (none-earlier model s event none-abstraction)

  due-kept : due ≡ edges_due model (summary_of model kept) event
  due-kept = formed ∙ sym (ap (λ (x : State A). edges_due x.model (summary_of x.model x.kept) event) is)

  due-abstraction : due ≡ edges_due model s event
  due-abstraction = due-kept ∙ sym (ap (λ (x : Summary). edges_due model x event) agrees)

  faultless-kept : lowest_fault model ≡ None
  faultless-kept = ap (λ (x : State A). lowest_fault x.model) is ∙ faultless

  admissible : {later : Summary} → later ≡ linked s due → Admissible later event
  admissible {later} linked = still-admissible model s later event due faultless-kept none-abstraction due-abstraction linked

pub next_place-place-requires : goal.next_place-place-requires
next_place-place-requires g c = none-abstraction _ _ _ _ _ _ c.self.invariant.agrees c.self.view_is c.requires.none c.requires.due c.requires.faultless

pub admit-requires-clause-few : goal.admit-requires-clause-few
admit-requires-clause-few g c =
    let before = c.self.inside.machine_state.kept.items in
    let few = operations_few c.self.inside.machine_state.model before in
    let count = ap (λ (s : Summary). length s.operations) c.self.invariant.agrees in
    let roomy = ap (λ b. length b.store.items) c.make_room.ensures.others in
    let room = c.next_place-place.ensures.room in
    omega (arith, few, count, roomy, room)

pub admit-requires-clause-named : goal.admit-requires-clause-named
admit-requires-clause-named g c =
    let u = unbroken-abstraction _ _ _ _ _ _ c.self.invariant.agrees c.self.view_is c.requires.none c.requires.due c.requires.faultless in
    ap (λ items. option_map_or (λ t. are_held t (operations_named c.args.event.now) items) (acting c.args.event.now) true) (ap (λ b. b.store.items) c.make_room.ensures.others)
    ∙ event-held _ _ _ u

-- there is room for the edges
pub admit-requires-clause-fits : goal.admit-requires-clause-fits
admit-requires-clause-fits g c =
    let event = c.args.event.now in
    let model = c.self.inside.machine_state.model in
    let s = abstraction c.self.inside.machine_state in
    let u = unbroken-abstraction _ _ _ _ _ _ c.self.invariant.agrees c.self.view_is c.requires.none c.requires.due c.requires.faultless in
    let due = due-abstraction _ _ _ _ _ _ c.self.invariant.agrees c.self.view_is c.requires.none c.requires.due c.requires.faultless in
    let room = linked-room model s event u.edges in
    let roomy = ap (λ b. b.deps.edges) c.make_room.ensures.others in
    let same : length (formed c.make_room.new.self.deps.edges c.args.due.now) ≡ length (formed s.edges (edges_due model s event)) = λ i. length (formed (roomy i) (due i)) in
    omega (arith, room, same)

-- they are between valid transaction numbers and have no debt yet
pub admit-requires-clause-fresh : goal.admit-requires-clause-fresh
admit-requires-clause-fresh g c =
    let event = c.args.event.now in
    let model = c.self.inside.machine_state.model in
    let s = abstraction c.self.inside.machine_state in
    let u = unbroken-abstraction _ _ _ _ _ _ c.self.invariant.agrees c.self.view_is c.requires.none c.requires.due c.requires.faultless in
    let due = due-abstraction _ _ _ _ _ _ c.self.invariant.agrees c.self.view_is c.requires.none c.requires.due c.requires.faultless in
    let faultless = faultless-kept _ _ _ _ _ _ c.self.invariant.agrees c.self.view_is c.requires.none c.requires.due c.requires.faultless in
    let well : AreHeldWell s = subst AreHeldWell (sym c.self.invariant.agrees) c.self.invariant.follows.holders in
    ap (λ (es : List Edge). list_all (is_fresh_edge (status_of c.make_room.new.self.deps)) es) due
    ∙ ap (λ b. list_all (is_fresh_edge (status_of b.deps)) (edges_due model s event)) c.make_room.ensures.others
    ∙ fresh-due model s event faultless well c.lemma_invariant.ensures.nobody u

pub admit-requires-clause-progress : goal.admit-requires-clause-progress
admit-requires-clause-progress g c =
    (admissible _ _ _ _ _ _ c.self.invariant.agrees c.self.view_is c.requires.none c.requires.due c.requires.faultless (ap (λ (s : Summary). linked s c.args.due.now) c.make_room.ensures.shows)).progress

pub admit-requires-clause-new : goal.admit-requires-clause-new
admit-requires-clause-new g c =
    (admissible _ _ _ _ _ _ c.self.invariant.agrees c.self.view_is c.requires.none c.requires.due c.requires.faultless (ap (λ (s : Summary). linked s c.args.due.now) c.make_room.ensures.shows)).begun

pub admit-requires-clause-allowed : goal.admit-requires-clause-allowed
admit-requires-clause-allowed g c =
    (admissible _ _ _ _ _ _ c.self.invariant.agrees c.self.view_is c.requires.none c.requires.due c.requires.faultless (ap (λ (s : Summary). linked s c.args.due.now) c.make_room.ensures.shows)).allowed

pub invariant_of-self-2 : goal.invariant_of-self-2
invariant_of-self-2 g c =
    let event = c.args.event.now in
    let model = c.self.inside.machine_state.model in
    let before = c.self.inside.machine_state.kept.items in
    let agrees = c.self.invariant.agrees in
    let state : State g.row.A.Denot = record { model = model; kept = before } in
    let kept : Kept g.row.A.Denot = record { event = event; ret = c.return_of-ret.result } in
    let due : kept ≡ kept_as state event =
    λ i. record { event = event; ret = (c.return_of-ret.ensures ∙ ap (λ (s : Summary). return_due model s event) agrees) i } in
    let copied : record { event = c.in_ok-copy.field-0; ret = c.return_of-ret.result } ≡ kept = λ i. record { event = c.in_ok-copy.ensures i; ret = c.return_of-ret.result } in
    let longer : c.admit.new.self.kept.items ≡ before ++ kept ∷ [] =
    c.in_ok-admit.ensures.kept ∙ (λ i. c.make_room.ensures.kept i ++ copied i ∷ []) in
    let count = ap (length {A = Kept g.row.A.Denot}) longer ∙ length-append before (kept ∷ []) in
    let room = c.next_place-place.ensures.room in
    let none = none-kept _ _ _ _ _ _ agrees c.self.view_is c.requires.none c.requires.due c.requires.faultless in
    let edges = due-kept _ _ _ _ _ _ agrees c.self.view_is c.requires.none c.requires.due c.requires.faultless in
    let faultless = faultless-kept _ _ _ _ _ _ agrees c.self.view_is c.requires.none c.requires.due c.requires.faultless in
    let roomy_model = ap (λ b. b.model) c.make_room.ensures.others in
    let same_model = c.admit.ensures.model ∙ roomy_model in
    let same_kept = longer ∙ ap (λ (k : Kept g.row.A.Denot). before ++ k ∷ []) due in
    record {
      agrees = c.in_ok-admit.ensures.shows
          ∙ (λ i. counted (changed (roomy_model i) (linked ((c.make_room.ensures.shows ∙ agrees) i) (edges i)) event))
          ∙ sym ((λ i. summary_of (same_model i) (longer i)) ∙ summary_more model before kept);
      records = c.admit.ensures.records;
      remembered = subst (λ (x : Summary). IsRemembered c.admit.new.self.store.lineage x) (sym c.in_ok-admit.ensures.shows)
          (remembered-after c.make_room.new.self.model (abstraction c.make_room.new.self) c.args.due.now event c.make_room.new.self.store.lineage c.admit.new.self.store.lineage c.in_ok-admit.ensures.noted
          (subst (λ (p : Lineage × Summary). IsRemembered p.0 p.1) (λ i. ((sym c.make_room.ensures.others i).store.lineage, sym c.make_room.ensures.shows i)) c.self.invariant.remembered));
      kinds = c.admit.ensures.kinds ∙ ap (λ b. b.store.kinds) c.make_room.ensures.others ∙ c.self.invariant.kinds ∙ sym (ap (λ (m : Parts g.row.A.Denot). kinds_of m.objects) same_model);
      within = omega (arith, count, room);
      follows = subst (λ (x : State g.row.A.Denot). FollowsPlaces x) (λ i. record { model = sym same_model i; kept = sym same_kept i }) (follows-push model before event faultless c.self.invariant.follows none);
      refused = none_refused _ _ _ c.clear.ensures.items;
    }

pub returns-clause-follows : goal.returns-clause-follows
returns-clause-follows g c = (invariant_of-self-2 g c).follows
