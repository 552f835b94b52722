use Rattle.std.proofs.Common.{Vec, List, ℕ, map, ap, ◌∙◌, subst}
use Rattle.std.specs.Prelude.{IfOk}
use Rattle.acta_shell.specs.Pictures.{HasInOrder, pieces_from}
use Rattle.acta_shell.proofs.pictured.with_history.Goals as goal

pub returns : goal.returns
returns g c =
    let bytes = λ (one : Vec ℕ g.row.A.Denot). one.items in
    subst (λ (ls : List (List ℕ)). IfOk c.with_lines.result (λ text. HasInOrder (pieces_from 1 ls) text.items))
    (ap (map bytes) c.as_slice.ensures.value ∙ c.in_ok-lines.ensures)
    c.with_lines.ensures
