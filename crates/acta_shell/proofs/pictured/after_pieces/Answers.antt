use Rattle.std.proofs.Common.{ℕ, ◌∷◌, [], List, Bor, map, take, get_or, sym, subst, ap, ◌∙◌, refl, arith}
use Rattle.std.proofs.lemmas.List.{take_more, map-append}
use Rattle.acta_shell.specs.Pictures.{Leads}
use Rattle.acta_shell.proofs.Pieces.{leads-append}
use Rattle.acta_shell.proofs.pictured.after_pieces.Goals as goal

pub loop-piece-preserved : goal.loop-piece-preserved
loop-piece-preserved c =
    let none : Bor (List ℕ) = record { ref_ptr = (0, 0); now = [] } in
    let i = c.loop-piece.piece-index in
    let pieces = c.args.pieces.now in
    let bytes = λ (piece : Bor (List ℕ)). piece.now in
    let found = c.in_ok-rest.ensures in
    subst (λ (ps : List (List ℕ)). Leads ps c.args.text.now c.in_ok-rest.rest.now)
    (sym (ap (map bytes) (take_more pieces i none (omega (arith, c.loop-piece-test.true))) ∙ map-append bytes (take i pieces) (get_or pieces i none ∷ [])))
    (leads-append (map bytes (take i pieces)) ((get_or pieces i none).now ∷ []) c.args.text.now c.loop-piece.rest.now c.in_ok-rest.rest.now c.loop-piece.invariant
    (found.0, c.in_ok-rest.rest.now, found.1, refl))
