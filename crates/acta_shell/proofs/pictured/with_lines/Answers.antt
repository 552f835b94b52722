use Rattle.std.proofs.Common.{Vec, List, ℕ, map, sym, subst}
use Rattle.acta_shell.specs.Pictures.{HasInOrder, pieces_from}
use Rattle.acta_shell.proofs.Pieces.{listed-has}
use Rattle.acta_shell.proofs.pictured.with_lines.Goals as goal

pub returns : goal.returns
returns g c =
    let lines = map (λ (line : Vec ℕ g.row.A.Denot). line.items) c.args.lines.now in
    subst (λ (t : List ℕ). HasInOrder (pieces_from 1 lines) t) (sym c.in_ok-push_all.ensures) (listed-has c.extend_from_slice.new.self.items lines)
