use Rattle.std.proofs.Common.{◌≡◌, ◌++◌, drop}
use Rattle.acta_draw.specs.Rows.{places_from}
use Rattle.acta_draw.proofs.lanes.places_of.Given as goal

-- the places so far, followed by those of the rest of the steps, are all
abbrev pub invariant-loop-step : goal.invariant-loop-step
invariant-loop-step g l = l.places.items ++ places_from l.last (drop l.step-index l.steps) ≡ places_from 0 l.steps
