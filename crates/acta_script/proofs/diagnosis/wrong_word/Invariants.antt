use Rattle.std.proofs.Common.{◌≡◌, ◌+◌, map, drop}
use Rattle.acta_script.specs.Diagnosis.{wrong_word}
use Rattle.acta_script.proofs.diagnosis.wrong_word.Given as goal

-- no word so far has the fault
abbrev pub invariant-loop-i : goal.invariant-loop-i
invariant-loop-i g l =
    wrong_word l.model l.fault (l.n + l.i) (drop l.i l.parts) (map (λ word. word.now) (drop l.i l.words))
    ≡ wrong_word l.model l.fault l.n l.parts (map (λ word. word.now) l.words)
