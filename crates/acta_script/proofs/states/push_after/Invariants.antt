use Rattle.std.proofs.Common.{◌≡◌, ◌∷◌, ◌++◌, flat_map, drop}
use Rattle.std.specs.Fmt.{signed_decimal}
use Rattle.acta_script.proofs.states.push_after.Given as goal

-- the bytes so far, followed by the remaining numbers, are the final bytes
abbrev pub invariant-loop-number : goal.invariant-loop-number
invariant-loop-number g l =
    l.line.items ++ flat_map (λ n. 44 ∷ signed_decimal n) (drop l.number-index l.numbers) ≡ l.initial.line.items ++ flat_map (λ n. 44 ∷ signed_decimal n) l.numbers
