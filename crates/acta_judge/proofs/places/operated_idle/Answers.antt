use Rattle.std.proofs.Common.{ap, sym, ◌∙◌, ◌&&◌, not}
use Rattle.std.specs.Prelude.{is_some}
use Rattle.acta_axioms.specs.History.{end}
use Rattle.acta_axioms.specs.Faults.{when, operated_idle}
use Rattle.acta_judge.proofs.places.operated_idle.Goals as goal

pub returns-in-Operate : goal.returns-in-Operate
returns-in-Operate g c =
    c.when.ensures
    ∙ ap (λ b. when (not b) c.in-Operate.t.0) (c.is_in_progress.ensures ∙ ap (λ k. is_some k.start && not (is_some (end k))) c.course.ensures)
    ∙ ap (operated_idle c.args.walk.now.front) (sym c.in-Operate.is)
