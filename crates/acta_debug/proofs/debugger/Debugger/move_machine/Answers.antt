use Rattle.std.proofs.Common.{◌≡◌, ◌∙◌, ap, arith, length, subst, sym, take}
use Rattle.acta_machine.specs.Places.{FollowsPlaces}
use Rattle.acta_machine.specs.Table.{State}
use Rattle.acta_debug.specs.Sessions.{Session, moved_to}
use Rattle.acta_debug.specs.inside.Shown.{AreFronts}
use Rattle.acta_debug.proofs.Replaying.{with_kept}
use Rattle.acta_debug.proofs.Standing.{inside-at, moved-at}
use Rattle.acta_debug.proofs.debugger.Debugger.move_machine.Given.{Over}
use Rattle.acta_debug.proofs.debugger.Debugger.move_machine.Goals as goal

-- the new machine has kept the items before the place
stands : (g : Over) (c : goal.After-self-1 g) → c.replace.new.dest ≡ with_kept c.self.inside.machine.model (take c.args.n c.self.inside.history.items)
stands g c =
    c.replace.ensures.after ∙ c.in_ok-machine.ensures.kept
    ∙ ap (λ (q : Session g.row.A.Denot). with_kept q.model (take c.args.n q.history)) (sym c.self.view_is)

pub invariant_of-self : goal.invariant_of-self
invariant_of-self g c =
    let inside = c.self.inside in
    let behind = c.self.invariant.stands in
    let size = ap (λ (q : Session g.row.A.Denot). length q.history) c.self.view_is in
    let model = ap (λ (s : State g.row.A.Denot). s.model) (stands g c) in
    record {
      stands = inside-at inside.machine.model inside.history.items c.args.n c.replace.new.dest behind.whole (omega (arith, size, c.requires)) behind.few (stands g c) (subst FollowsPlaces (sym c.replace.ensures.after) c.in_ok-machine.ensures.follows);
      fronts = subst (λ m. AreFronts m inside.history.items inside.checkpoints.items) (sym model) c.self.invariant.fronts;
    }

pub returns-clause-ok : goal.returns-clause-ok
returns-clause-ok g c =
    let inside = c.self.inside in
    moved-at inside.machine c.replace.new.dest inside.history.items inside.at c.args.n inside.breaks.items (ap (λ (s : State g.row.A.Denot). s.model) (stands g c))
    ∙ ap (λ (q : Session g.row.A.Denot). moved_to q c.args.n) c.self.view_is
