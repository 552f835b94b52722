use Rattle.std.proofs.Common.{◌≡◌, ◌++◌, ◌∷◌, map, drop, flat_map}
use Rattle.acta_ends.specs.EndLines.{rule_word}
use Rattle.acta_ends.proofs.waits.push_rules.Given as goal

-- what is written, with what is left, is what is wanted
abbrev pub invariant-loop-rule : goal.invariant-loop-rule
invariant-loop-rule g l =
    l.text.items ++ flat_map (λ word. 32 ∷ word) (map rule_word (drop l.rule-index l.rules)) ≡ l.initial.text.items ++ flat_map (λ word. 32 ∷ word) (map rule_word l.rules)
