use Rattle.std.proofs.Common.{◌∙◌, ap, List}
use Rattle.acta_values.specs.declared.trail.Numbered.{Numbered}
use Rattle.acta_values.specs.Trails.{last_or}
use Rattle.acta_values.proofs.Trails.{last_at}
use Rattle.acta_values.proofs.trail.Trail.last_or.Goals as goal

pub returns-in-Some : goal.returns-in-Some
returns-in-Some g c =
    let item = c.in-Some.ensures.item in
    last_at _ c.args.default c.in-Some.last.now item.3.0 item.1
    ∙ ap (λ (xs : List (Numbered _)). last_or c.args.default xs) (c.deref.ensures.value ∙ c.self.view_is)
