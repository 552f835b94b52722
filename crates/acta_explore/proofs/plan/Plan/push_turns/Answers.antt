use Rattle.std.proofs.Common.{◌++◌, ap, ◌∙◌, sym, List, [], ◌∷◌, map, ℕ}
use Rattle.std.specs.List.{range_with_len}
use Rattle.std.proofs.lemmas.List.{append_assoc}
use Rattle.acta_explore.specs.declared.point.Turn.{Turn}
use Rattle.acta_explore.proofs.Looping.{map-range}
use Rattle.acta_explore.proofs.plan.Plan.push_turns.Goals as goal

pub loop-alternative-preserved : goal.loop-alternative-preserved
loop-alternative-preserved g c =
    let mk : ℕ → Turn = λ a. record { seat = c.args.seat; alternative = a } in
    let n = c.loop-alternative.alternative in
    c.in_ok-push.ensures.items
    ∙ (ap (λ (ts : List Turn). ts ++ mk n ∷ []) c.loop-alternative.invariant
    ∙ (append_assoc c.args.turns.now.items (map mk (range_with_len 0 n)) (mk n ∷ [])
    ∙ ap (λ (ts : List Turn). c.args.turns.now.items ++ ts) (sym (map-range mk n))))
