use Rattle.std.proofs.Common.{None, sym, ap, ◌∙◌}
use Rattle.acta_table.specs.declared.event.Event.{Event}
use Rattle.acta_table.specs.declared.answer.Rule.TheVariants.{NotInProgress, AlreadyBegun}
use Rattle.acta_deps.specs.Deps.{status_of}
use Rattle.acta_deps.specs.Dependencies.{start_refusal}
use Rattle.acta_machine.specs.Summary.{Summary, stood, entered, given}
use Rattle.acta_machine.specs.Changes.{begun, changed}
use Rattle.acta_machine.specs.Rules.{not_in_progress, already_begun, dependency}
use Rattle.acta_machine.specs.inside.Abstraction.{abstraction}
use Rattle.acta_machine.proofs.Broken.{not_begun, in_progress}
use Rattle.acta_machine.proofs.machine_state.MachineState.change.Goals as goal

pub begin-requires-clause-stands : goal.begin-requires-clause-stands
unfolding already_begun
begin-requires-clause-stands g c =
    ap (λ (s : Summary). s.status c.in-Begin.t.0) c.make_entry.ensures.shows
    ∙ not_begun (abstraction c.args.self.now) AlreadyBegun c.in-Begin.t.0
    (ap (λ (e : Event g.row.A.Denot). already_begun (abstraction c.args.self.now) e) (sym c.in-Begin.is) ∙ c.requires.new)

pub begin-requires-in-Spawn-clause-stands : goal.begin-requires-in-Spawn-clause-stands
unfolding already_begun
begin-requires-in-Spawn-clause-stands g c =
    ap (λ (s : Summary). s.status c.in-Spawn.c.0) c.make_entry-in-Spawn.ensures.shows
    ∙ not_begun (abstraction c.args.self.now) AlreadyBegun c.in-Spawn.c.0
    (ap (λ (e : Event g.row.A.Denot). already_begun (abstraction c.args.self.now) e) (sym c.in-Spawn.is) ∙ c.requires.new)

pub begin-requires-in-Split-clause-stands : goal.begin-requires-in-Split-clause-stands
unfolding already_begun
begin-requires-in-Split-clause-stands g c =
    ap (λ b. status_of b.deps c.in-Split.u.0) c.give.ensures.others
    ∙ ap (λ (s : Summary). s.status c.in-Split.u.0) c.make_entry-in-Split.ensures.shows
    ∙ not_begun (abstraction c.args.self.now) AlreadyBegun c.in-Split.u.0
    (ap (λ (e : Event g.row.A.Denot). already_begun (abstraction c.args.self.now) e) (sym c.in-Split.is) ∙ c.requires.new)

pub begin-requires-clause-allowed : goal.begin-requires-clause-allowed
begin-requires-clause-allowed g c =
    ap (λ (s : Summary). start_refusal s.status s.edges c.in-Begin.t.0) c.make_entry.ensures.shows
    ∙ ap (λ (e : Event g.row.A.Denot). dependency (abstraction c.args.self.now) e) (sym c.in-Begin.is)
    ∙ c.requires.allowed

pub begin-requires-in-Spawn-clause-allowed : goal.begin-requires-in-Spawn-clause-allowed
begin-requires-in-Spawn-clause-allowed g c =
    ap (λ (s : Summary). start_refusal s.status s.edges c.in-Spawn.c.0) c.make_entry-in-Spawn.ensures.shows
    ∙ ap (λ (e : Event g.row.A.Denot). dependency (abstraction c.args.self.now) e) (sym c.in-Spawn.is)
    ∙ c.requires.allowed

pub begin-requires-in-Split-clause-allowed : goal.begin-requires-in-Split-clause-allowed
begin-requires-in-Split-clause-allowed g c =
    ap (λ b. start_refusal (status_of b.deps) b.deps.edges c.in-Split.u.0) c.give.ensures.others
    ∙ ap (λ (s : Summary). start_refusal s.status s.edges c.in-Split.u.0) c.make_entry-in-Split.ensures.shows
    ∙ ap (λ (e : Event g.row.A.Denot). dependency (abstraction c.args.self.now) e) (sym c.in-Split.is)
    ∙ c.requires.allowed

pub join-requires-clause-stands : goal.join-requires-clause-stands
unfolding not_in_progress
join-requires-clause-stands g c =
    in_progress (abstraction c.args.self.now) NotInProgress c.in-Join.t.0
    (ap (λ (e : Event g.row.A.Denot). not_in_progress (abstraction c.args.self.now) e) (sym c.in-Join.is) ∙ c.requires.progress)

-- transferring the operations and starting the new holder commute
pub returns-in_ok-give-in-Split-clause-shows : goal.returns-in_ok-give-in-Split-clause-shows
unfolding stood entered given
returns-in_ok-give-in-Split-clause-shows g c =
    c.begin-in-Split.ensures.shows
    ∙ ap (λ (s : Summary). begun s c.in-Split.u c.in-Split.class None) c.in_ok-give-in-Split.ensures.shows
    ∙ ap (λ (s : Summary). begun (given s c.in-Split.ops c.in-Split.u) c.in-Split.u c.in-Split.class None) c.make_entry-in-Split.ensures.shows
    ∙ ap (changed c.args.self.now.model (abstraction c.args.self.now)) (sym c.in-Split.is)
