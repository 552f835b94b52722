use Rattle.std.proofs.Common.{◌≡◌, ◌+◌, ◌++◌, [], ◌∷◌, length, flat_map, append-nil, append_assoc, ap, arith, ◌∙◌}
use Rattle.std.specs.List.{enumerate_from}
use Rattle.std.proofs.lemmas.Grind.{flat_map-append}
use Rattle.std.proofs.lemmas.List.{take-append-drop}
use Rattle.acta_judge.proofs.Stretches.{numbered-on}
use Rattle.acta_judge.proofs.edges.stretches.Goals as goal

pub loop-preserved : goal.loop-preserved
loop-preserved g c =
    let before = c.loop.all.items in
    let rest = c.loop.rest.now in
    let some = c.split_at.result.0.now in
    let others = c.split_at.result.1.now in
    let these = enumerate_from c.loop.first some in
    let behind = enumerate_from (c.loop.first + length some) others in
    let cut : some ++ others ≡ rest = (λ i. c.split_at.ensures.front i ++ c.split_at.ensures.back i) ∙ take-append-drop c.min.result rest in
    let long : length some + length others ≡ length rest = omega (arith, c.split_at.ensures.front_len, c.split_at.ensures.back_len) in
    record {
      counted = omega (arith, long, c.loop.invariant.counted);
      whole =
          ap (λ ss. flat_map (λ s. s) ss ++ behind) c.in_ok-push.ensures.items
          ∙ ap (λ es. es ++ behind) (flat_map-append (λ s. s) before (these ∷ []))
          ∙ append_assoc (flat_map (λ s. s) before) (these ++ []) behind
          ∙ ap (λ es. flat_map (λ s. s) before ++ es) (ap (λ es. es ++ behind) (append-nil these) ∙ numbered-on c.loop.first some others ∙ ap (enumerate_from c.loop.first) cut)
          ∙ c.loop.invariant.whole;
    }
