use Rattle.std.proofs.Common.{◌≡◌, Some, IfOk, rules}
use Rattle.std.specs.Prelude.{slice_get}
use Rattle.std.proofs.lemmas.Result.{IfOk-weaker}
use Rattle.acta_compare.proofs.Differing.{IsAtLine, differ-first}
use Rattle.acta_compare.proofs.answers.comparison_text.Goals as goal

pub returns : goal.returns
returns g c =
    let of = c.args.comparison.now in
    let first = c.in-Some.first.now in
    let starts : IfOk c.begun.result (λ text. IsAtLine text.items first) = search rules in
    let is : slice_get of.differences.items 0 ≡ Some first = search rules in
    IfOk-weaker c.begun.result _ _ (λ text. differ-first of.lines of.differences.items first text.items is) starts
