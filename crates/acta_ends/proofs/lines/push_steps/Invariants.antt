use Rattle.std.proofs.Common.{◌≡◌, ◌++◌, ◌∷◌, map, drop, flat_map}
use Rattle.acta_ends.specs.EndLines.{step_word}
use Rattle.acta_ends.proofs.lines.push_steps.Given as goal

-- what is written, with what is left, is what is wanted
abbrev pub invariant-loop-step : goal.invariant-loop-step
invariant-loop-step g l =
    l.text.items ++ flat_map (λ word. 32 ∷ word) (map (step_word l.lines l.numbers) (drop l.step-index l.steps)) ≡ l.initial.text.items ++ flat_map (λ word. 32 ∷ word) (map (step_word l.lines l.numbers) l.steps)
