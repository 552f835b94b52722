use Rattle.std.proofs.Common.{map, take}
use Rattle.acta_shell.specs.Pictures.{Leads}
use Rattle.acta_shell.proofs.pictured.after_pieces.Given as goal

-- the pieces so far
abbrev pub invariant-loop-piece : goal.invariant-loop-piece
invariant-loop-piece l =
    Leads (map (λ piece. piece.now) (take l.piece-index l.pieces)) l.text l.rest
