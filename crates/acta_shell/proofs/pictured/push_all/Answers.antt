use Rattle.std.proofs.Common.{◌≡◌, ◌++◌, ◌∷◌, ◌+◌, [], ◌∙◌, Vec, ap, sym, ℕ, List, map, take, length, get_or, arith}
use Rattle.std.proofs.lemmas.List.{append_assoc, map-append, take_more, length-map, length-take-le}
use Rattle.acta_shell.specs.Pictures.{numbered_from, numbered_line}
use Rattle.acta_shell.proofs.Pieces.{numbered-more}
use Rattle.acta_shell.proofs.pictured.push_all.Goals as goal

pub loop-i-preserved : goal.loop-i-preserved
loop-i-preserved g c =
    let i = c.loop-i.i in
    let lines = c.args.lines.now in
    let line : Vec ℕ g.row.A.Denot = c.index-lines-i.result in
    let bytes = λ (one : Vec ℕ g.row.A.Denot). one.items in
    let front = map bytes (take i lines) in
    let count : 1 + length front ≡ i + 1 = ap (λ n. 1 + n) (length-map (take i lines) bytes ∙ length-take-le i lines (omega (arith, c.loop-i-test.true))) ∙ omega arith in
    let more : map bytes (take (i + 1) lines) ≡ front ++ line.items ∷ [] =
    ap (map bytes) (take_more lines i line (omega (arith, c.loop-i-test.true))) ∙ map-append bytes (take i lines) (get_or lines i line ∷ [])
    ∙ ap (λ (one : Vec ℕ g.row.A.Denot). front ++ one.items ∷ []) (sym c.index-lines-i.is) in
    c.in_ok-push_numbered.ensures
    ∙ ap (λ (t : List ℕ). t ++ numbered_line (i + 1) c.as_slice.result.now) c.loop-i.invariant
    ∙ append_assoc c.args.text.now.items (numbered_from 1 front) (numbered_line (i + 1) c.as_slice.result.now)
    ∙ ap (λ (t : List ℕ). c.args.text.now.items ++ (numbered_from 1 front ++ numbered_line (i + 1) t)) c.as_slice.ensures.value
    ∙ ap (λ (t : List ℕ). c.args.text.now.items ++ t) (ap (λ n. numbered_from 1 front ++ numbered_line n line.items) (sym count) ∙ sym (numbered-more 1 front line.items) ∙ ap (numbered_from 1) (sym more))
