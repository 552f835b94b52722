use Rattle.std.proofs.Common.{◌≡◌, ◌++◌, ℕ, List, map, take}
use Rattle.acta_session.specs.declared.help.Listed.{Listed}
use Rattle.acta_session.specs.Help.{IsListOf}
use Rattle.acta_session.proofs.help.push_all.Given as goal

-- the lines so far
abbrev pub invariant-loop-listed : goal.invariant-loop-listed
invariant-loop-listed g l =
    (lines : List ℕ)
    × (l.text.items ≡ l.initial.text.items ++ lines)
    × IsListOf (map (λ (listed : Listed). listed.form.now) (take l.listed-index l.all)) lines
