use Rattle.std.proofs.Common.{◌≡◌, ◌++◌, map, drop}
use Rattle.acta_words.specs.Text.{text_of}
use Rattle.acta_ends.specs.EndLines.{owed_line}
use Rattle.acta_ends.proofs.states.push_debts.Given as goal

-- what is written, with what is left, is what is wanted
abbrev pub invariant-loop-debt : goal.invariant-loop-debt
invariant-loop-debt g l =
    l.text.items ++ text_of (map owed_line (drop l.debt-index l.debts)) ≡ l.initial.text.items ++ text_of (map owed_line l.debts)
