use Rattle.std.proofs.Common.{◌≡◌, ◌++◌, length, drop, sym, ap, subst, ◌∙◌}
use Rattle.acta_locked.specs.Books.{state_of}
use Rattle.acta_locked.specs.Drives.{EachLetOn, IsDriven}
use Rattle.acta_locked.specs.Fronts.{AreFronts}
use Rattle.acta_locked.proofs.Watching.{fronts-later}
use Rattle.acta_locked.proofs.watch.watch_run.Goals as goal

pub returns : goal.returns
returns g c =
    let m = g.J.Job.model in
    let d = c.in_ok-driven.driven in
    let watch = c.in_ok-gathered.watch in
    let seen = watch.history.items in
    let history = c.history.result.now in
    let goes_on : history ≡ seen ++ drop (length seen) history = rw c.as_slice.ensures.value at (c.begins.ensures c.if-not-begins.false) in
    let kept = c.history.ensures.history ∙ ap (λ s. s.kept) c.machine.ensures.machine in
    let later = fronts-later m seen _ (drop (length seen) history) _ c.in_ok-gathered.ensures.2.1 (sym kept ∙ goes_on) in
    record {
      driven = subst (λ m. IsDriven m c.args.scripts.now d) (sym c.requires.of_model) c.in_ok-driven.ensures.driven;
      let_on = subst (EachLetOn g.J.Job.may_pass g.J.Job.may_go_on) (sym c.in_ok-driven.ensures.same) c.in_ok-gathered.ensures.1;
      many = ap length c.of-fronts.ensures ∙ c.in_ok-gathered.ensures.2.0;
      fronts = subst (λ m. AreFronts m (state_of d.book).kept c.of-fronts.result) (sym c.requires.of_model) (subst (AreFronts m (state_of d.book).kept) (sym c.of-fronts.ensures) later);
    }
