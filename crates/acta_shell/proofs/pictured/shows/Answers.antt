use Rattle.std.proofs.Common.{Bor, Option, IfSome, ◌≡◌, ◌++◌, ◌∷◌, ◌+◌, [], ◌∙◌, Vec, ap, sym, subst, ℕ, List, map, take, length, get_or, arith}
use Rattle.std.proofs.lemmas.List.{map-append, take_more, take_all, length-map, length-take-le}
use Rattle.acta_shell.specs.Pictures.{Leads, pieces_from, pieces_of}
use Rattle.acta_shell.proofs.Pieces.{leads-append, leads-has, pieces-more}
use Rattle.acta_shell.proofs.pictured.shows.Goals as goal

pub loop-i-preserved : goal.loop-i-preserved
loop-i-preserved g c =
    let i = c.loop-i.i in
    let lines = c.args.lines.now in
    let line : Vec ℕ g.row.A.Denot = c.index-lines-i.result in
    let bytes = λ (one : Vec ℕ g.row.A.Denot). one.items in
    let front = map bytes (take i lines) in
    let count : 1 + length front ≡ i + 1 = ap (λ n. 1 + n) (length-map (take i lines) bytes ∙ length-take-le i lines (omega (arith, c.loop-i-test.true))) ∙ omega arith in
    let more : map bytes (take (i + 1) lines) ≡ front ++ line.items ∷ [] =
    ap (map bytes) (take_more lines i line (omega (arith, c.loop-i-test.true))) ∙ map-append bytes (take i lines) (get_or lines i line ∷ [])
    ∙ ap (λ (one : Vec ℕ g.row.A.Denot). front ++ one.items ∷ []) (sym c.index-lines-i.is) in
    let found = subst (λ (t : List ℕ). Leads (pieces_of (i + 1) t) c.loop-i.rest.now c.in-Some.left.now) c.as_slice.ensures.value (subst (λ (o : Option (Bor (List ℕ))). IfSome o (λ rest. Leads (pieces_of (i + 1) c.as_slice.result.now) c.loop-i.rest.now rest.now)) c.in-Some.is c.in_ok-found.ensures) in
    subst (λ (ps : List (List ℕ)). Leads ps c.args.text.now c.in-Some.left.now)
    (ap (λ n. pieces_from 1 front ++ pieces_of n line.items) (sym count) ∙ sym (pieces-more 1 front line.items) ∙ ap (pieces_from 1) (sym more))
    (leads-append (pieces_from 1 front) (pieces_of (i + 1) line.items) c.args.text.now c.loop-i.rest.now c.in-Some.left.now c.loop-i.invariant found)

pub returns : goal.returns
returns g c =
    λ is.
    let lines = c.args.lines.now in
    let bytes = λ (one : Vec ℕ g.row.A.Denot). one.items in
    leads-has (pieces_from 1 (map bytes lines)) c.args.text.now c.loop-i.rest.now
    (subst (λ (xs : List (Vec ℕ g.row.A.Denot)). Leads (pieces_from 1 (map bytes xs)) c.args.text.now c.loop-i.rest.now) (take_all c.loop-i.i lines (omega (arith, c.loop-i-test.false))) c.loop-i.invariant)
