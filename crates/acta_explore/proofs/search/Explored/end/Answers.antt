use Rattle.std.proofs.Common.{ap, ◌∙◌, sym}
use Rattle.std.specs.Prelude.{slice_get}
use Rattle.acta_explore.specs.Ends.{Found}
use Rattle.acta_explore.proofs.Expanding.{mapped-at}
use Rattle.acta_explore.proofs.search.Explored.end.Goals as goal

pub returns : goal.returns
returns g c = sym (mapped-at (λ e. e.1) c.self.inside.ends.entries c.args.place (c.in_ok-point.field-0-0.now, c.in_ok-point.point.now) (sym c.in_ok-point.ensures.entry)) ∙ ap (λ (f : Found _). slice_get f.ends c.args.place) c.self.view_is
