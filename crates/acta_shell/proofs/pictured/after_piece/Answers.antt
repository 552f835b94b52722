use Rattle.std.proofs.Common.{◌≡◌, ◌++◌, ◌-◌, List, ℕ, Some, take, drop, length, sym, ap, ◌∙◌, arith}
use Rattle.std.proofs.lemmas.Bool.Decides.{Decides-eqb}
use Rattle.std.proofs.lemmas.List.{take-append-drop, take_all, length-drop}
use Rattle.std.proofs.lemmas.Slice.Eq.{strip_prefix_is}
use Rattle.acta_shell.proofs.pictured.after_piece.Goals as goal

pub returns-in-Some : goal.returns-in-Some
returns-in-Some c =
    let text = c.args.text.now in
    let at = c.loop-at.at in
    let left = drop at text in
    let part = take (length text - at) left in
    let all : part ≡ left = take_all (length text - at) left (omega (arith, length-drop at text)) in
    let is = strip_prefix_is Decides-eqb part c.args.piece.now (Some c.in-Some.rest) c.in-Some.ensures.cases in
    (take at text, sym (take-append-drop at text) ∙ ap (λ (xs : List ℕ). take at text ++ xs) (sym all ∙ is))
