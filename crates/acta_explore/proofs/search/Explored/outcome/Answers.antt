use Rattle.std.proofs.Common.{ap, ◌∙◌, sym}
use Rattle.std.specs.Prelude.{slice_get}
use Rattle.acta_explore.specs.Ends.{Found}
use Rattle.acta_explore.specs.inside.Shown.{shown}
use Rattle.acta_explore.proofs.Expanding.{mapped-at}
use Rattle.acta_explore.proofs.search.Explored.outcome.Goals as goal

pub returns : goal.returns
returns g c = sym (mapped-at (λ e. shown e.0) c.self.inside.ends.entries c.args.place (c.in_ok-found.found.now, c.in_ok-found.field-0-1.now) (sym c.in_ok-found.ensures.entry)) ∙ ap (λ (f : Found _). slice_get f.outcomes c.args.place) c.self.view_is
