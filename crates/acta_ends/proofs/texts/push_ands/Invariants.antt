use Rattle.std.proofs.Common.{◌≡◌, ◌++◌, ◌∷◌, drop, flat_map}
use Rattle.acta_ends.specs.ConditionWords.{and_words}
use Rattle.acta_ends.proofs.texts.push_ands.Given as goal

-- what is written, with what is left, is what is wanted
abbrev pub invariant-loop-term : goal.invariant-loop-term
invariant-loop-term g l =
    l.text.items ++ flat_map (λ word. 32 ∷ word) (flat_map (and_words l.model l.numbers) (drop l.term-index l.terms)) ≡ l.initial.text.items ++ flat_map (λ word. 32 ∷ word) (flat_map (and_words l.model l.numbers) l.terms)
