use Rattle.std.proofs.Common.{◌≡◌, ◌∷◌, [], length, take, ap, ◌∙◌, arith}
use Rattle.std.specs.Option.{option_map_or}
use Rattle.acta_words.specs.Text.{lines_of}
use Rattle.acta_words.specs.inside.LinesToCome.{lines_to_come}
use Rattle.acta_words.proofs.FirstLines.{goes_on}
use Rattle.acta_words.proofs.lines.LinesIterator.next.Goals as goal

-- the first line is removed, and the others are left
pub returns-clause-steps : goal.returns-clause-steps
returns-clause-steps c =
    ap (λ rest. option_map_or (λ text. lines_of text.now) rest []) c.in_ok-text.was
    ∙ goes_on c.in_ok-text.text.now c.behind.result.now c.line_end-end.result _ c.line_end-end.ensures.at c.behind.ensures c.if_left-self.ensures

pub returns-clause-goes : goal.returns-clause-goes
returns-clause-goes c =
    let step : lines_to_come c.args.self.now ≡ take c.line_end-end.result c.in_ok-text.text.now ∷ option_map_or (λ left. lines_of left.now) c.if_left-self.result [] = returns-clause-steps c in
    record { on = λ _. (tt, tt, omega (arith, ap length step)); keeps = tt; rests = λ _. tt }
