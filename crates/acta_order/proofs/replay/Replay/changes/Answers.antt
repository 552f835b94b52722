use Rattle.std.proofs.Common.{arith, ◌≡◌, ◌∙◌, ◌+◌, ◌<◌, Some, Vec, List, length, get_or, sym, ap, subst}
use Rattle.acta_table.specs.declared.model.Kind.TheVariants.{Elements as elements_kind}
use Rattle.acta_objects.specs.Objects.{first_state}
use Rattle.acta_order.specs.declared.memo.Changed.{Changed}
use Rattle.acta_order.specs.Search.{Replaying}
use Rattle.acta_order.proofs.Changing.{AreChanged, changed-all, changed-more, changed-same, first-of, value-there}
use Rattle.acta_order.proofs.replay.Replay.changes.Goals.{in-Some+then-not-is_first+in_ok-push, in-Some+else-not-is_first+in-Elements-1, in-Some+else-not-is_first+in-Register-1, in_default}
use Rattle.acta_order.proofs.replay.Replay.changes.Goals as goal

pub loop-place-preserved : goal.loop-place-preserved
loop-place-preserved g c =
    let b = c.args.self.now in
    let there : c.loop-place.place < length b.kinds = (let e = ap (λ (x : Replaying). length x.kinds) c.self.view_is in omega (arith, e, c.len-place-end.ensures, c.loop-place-test.true)) in
    let changes : List (Changed g.row.A.Denot) = c.loop-place.changes.items in
    elim c.match-branch-2.branch [
      | in-Some+then-not-is_first+in_ok-push w ↦
          subst (λ (cs : Vec (Changed g.row.A.Denot) g.row.A.Denot). AreChanged g.row.A.Denot b cs.items (c.loop-place.place + 1)) (sym w.changes-is)
          (changed-more g.row.A.Denot b changes w.push.new.self.items c.loop-place.place w.in-Some.state c.loop-place.invariant (sym w.in-Some.is ∙ c.in_ok-state.ensures) w.in_ok-push.ensures.items)
      | in-Some+else-not-is_first+in-Elements-1 w ↦
          let kind : w.index.result.now ≡ get_or c.self.inside.kinds.items c.loop-place.place w.index.result.now = w.index.ensures in
          subst (λ (cs : Vec (Changed g.row.A.Denot) g.row.A.Denot). AreChanged g.row.A.Denot b cs.items (c.loop-place.place + 1)) (sym w.changes-is)
          (changed-same g.row.A.Denot b changes c.loop-place.place c.loop-place.invariant
          (first-of g.row.A.Denot b c.loop-place.place w.index.result.now there ∙ ap Some (ap first_state (ap (λ (x : Replaying). get_or x.kinds c.loop-place.place w.index.result.now) (sym c.self.view_is) ∙ sym kind) ∙ sym (w.is_first.ensures w.if-not-is_first.false)) ∙ sym w.in-Some.is ∙ c.in_ok-state.ensures))
      | in-Some+else-not-is_first+in-Register-1 w ↦
          let kind : w.index.result.now ≡ get_or c.self.inside.kinds.items c.loop-place.place w.index.result.now = w.index.ensures in
          subst (λ (cs : Vec (Changed g.row.A.Denot) g.row.A.Denot). AreChanged g.row.A.Denot b cs.items (c.loop-place.place + 1)) (sym w.changes-is)
          (changed-same g.row.A.Denot b changes c.loop-place.place c.loop-place.invariant
          (first-of g.row.A.Denot b c.loop-place.place w.index.result.now there ∙ ap Some (ap first_state (ap (λ (x : Replaying). get_or x.kinds c.loop-place.place w.index.result.now) (sym c.self.view_is) ∙ sym kind) ∙ sym (w.is_first.ensures w.if-not-is_first.false)) ∙ sym w.in-Some.is ∙ c.in_ok-state.ensures))
      | in_default w ↦ absurd (value-there g.row.A.Denot b c.loop-place.place elements_kind there (sym w.in_default.is ∙ c.in_ok-state.ensures))
    ]

pub returns : goal.returns
returns g c = changed-all g.row.A.Denot c.args.self.now c.loop-place.changes.items c.loop-place.place c.loop-place.invariant (let e = ap (λ (b : Replaying). length b.kinds) c.self.view_is in omega (arith, e, c.len-place-end.ensures, c.loop-place-test.false))
