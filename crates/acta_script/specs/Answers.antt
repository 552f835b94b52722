-- The lines of answers, debts and faults.
use Rattle.std.specs.Prelude.{ℕ, List, [], ◌∷◌, codes, decimal}
use Rattle.std.specs.Option.{option_map_or}
use Rattle.acta_table.specs.declared.answer.Answer.{Answer}
use Rattle.acta_table.specs.declared.answer.Answer.TheVariants.{Admitted, Refused}
use Rattle.acta_table.specs.declared.dep.Missing.{Missing}
use Rattle.acta_table.specs.declared.dep.Missing.TheVariants.{Commit, Abort}
use Rattle.acta_table.specs.declared.dep.Owed.{Owed}
use Rattle.acta_table.specs.Numbers.{rule_number}
use Rattle.acta_words.specs.Text.{line_of}
use Rattle.acta_script.specs.Writing.{return_word}

-- ok PLACE [RETURN], no RULE [by N]
abbrev pub answer_words : Answer → List (List ℕ)
answer_words (Admitted place ret) = codes "ok" ∷ decimal place ∷ option_map_or (λ r. return_word r ∷ []) ret []
answer_words (Refused rule by) =
    codes "no" ∷ decimal (rule_number rule) ∷ option_map_or (λ n. codes "by" ∷ decimal n ∷ []) by []

unfoldable pub answer_line : Answer → List ℕ
answer_line answer = line_of (answer_words answer)

-- the word of a missing event
abbrev pub missing_word : Missing → List ℕ
missing_word Commit = codes "commit"
missing_word Abort = codes "abort"

-- owed EDGE TXN commit, owed EDGE TXN abort
unfoldable pub owed_line : Owed → List ℕ
owed_line o = line_of (codes "owed" ∷ decimal o.edge.0 ∷ decimal o.txn.0 ∷ missing_word o.missing ∷ [])

-- fault AXIOM PLACE BY, with the number of the axiom
unfoldable pub fault_line : ℕ → ℕ → ℕ → List ℕ
fault_line number place by = line_of (codes "fault" ∷ decimal number ∷ decimal place ∷ decimal by ∷ [])
