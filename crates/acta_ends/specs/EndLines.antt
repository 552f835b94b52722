-- The lines of ends, for other programs to read.
use Rattle.std.specs.Prelude.{ℕ, ◌+◌, Bool, List, [], ◌∷◌, ◌++◌, map, filter, length, get_or, codes, decimal, nat_lt, if◌then◌else◌, Option, Some, None}
use Rattle.std.specs.Fmt.{signed_decimal}
use Rattle.std.specs.Option.{option_map_or}
use Rattle.acta_table.specs.declared.answer.Rule.{Rule}
use Rattle.acta_table.specs.declared.event.Ret.{Ret}
use Rattle.acta_table.specs.declared.model.Parts.{Parts}
use Rattle.acta_table.specs.Dependencies.{word_of}
use Rattle.acta_table.specs.Numbers.{rule_number}
use Rattle.acta_words.specs.Text.{line_of}
use Rattle.acta_objects.specs.declared.state.ObjectState.{ObjectState}
use Rattle.acta_objects.specs.declared.state.ObjectState.TheVariants.{Register, Counter, Elements}
use Rattle.acta_script.specs.Answers.{missing_word}
use Rattle.acta_script.specs.Writing.{elements_word, object_word, return_word, status_word, txn_word}
use Rattle.acta_explore.specs.declared.debt.Debt.{Debt}
use Rattle.acta_explore.specs.declared.outcome.TxnStatus.{TxnStatus}
use Rattle.acta_explore.specs.declared.point.Done.{Done}
use Rattle.acta_explore.specs.declared.point.Step.{Step}
use Rattle.acta_explore.specs.Outcomes.{Outcome, Waiting, alternatives_at, missing_by, outcome}
use Rattle.acta_explore.specs.Points.{Point}
use Rattle.acta_explore.specs.Programs.{Programs}
use Rattle.acta_ends.specs.declared.condition.Condition.{Condition}
use Rattle.acta_ends.specs.Conditions.{holds}

-- how programs ended, by whether seats wait and whether there are debts
abbrev pub kind_words : {X Y : Type 0} → List X → List Y → List (List ℕ)
kind_words [] [] = codes "complete" ∷ []
kind_words (wait ∷ waits) [] = codes "stuck" ∷ []
kind_words [] (debt ∷ debts) = codes "owing" ∷ []
kind_words (wait ∷ waits) (debt ∷ debts) = codes "stuck" ∷ codes "owing" ∷ []

-- end K KIND
abbrev pub head_line : {A : Type 0} → ℕ → Outcome A → List ℕ
head_line k o = line_of (codes "end" ∷ decimal k ∷ kind_words o.waiting o.debts)

-- the line at position l of the programs, by its number in the input
abbrev pub number_word : List ℕ → ℕ → List ℕ
number_word numbers l = decimal (get_or numbers l 0)

-- the number of an alternative, counted from 1
abbrev pub alternative_word : ℕ → List ℕ
alternative_word alternative = decimal (alternative + 1)

abbrev pub rule_word : Rule → List ℕ
rule_word rule = decimal (rule_number rule)

-- wait SEAT LINE RULE...
abbrev pub wait_line : List ℕ → Waiting → List ℕ
wait_line numbers w =
    line_of (codes "wait" ∷ decimal w.seat ∷ number_word numbers w.line ∷ map rule_word w.rules)

-- status T STATUS
abbrev pub status_line : TxnStatus → List ℕ
status_line s = line_of (codes "status" ∷ txn_word s.txn ∷ status_word s.status ∷ [])

-- a value: a number, or the elements of a set between braces
abbrev pub state_word : {A : Type 0} → ObjectState A → List ℕ
state_word (Register v) = signed_decimal v
state_word (Counter v) = signed_decimal v
state_word (Elements es) = elements_word es

-- value NAME VALUE, for the object at this position in the model, if it has a value
abbrev pub value_lines : {A : Type 0} → Parts A → ℕ → Option (ObjectState A) → List (List ℕ)
value_lines m ob None = []
value_lines m ob (Some v) =
    line_of (codes "value" ∷ object_word m (record { 0 = ob }) ∷ state_word v ∷ []) ∷ []

-- owed KIND J I commit, or abort
abbrev pub owed_line : Debt → List ℕ
owed_line d =
    line_of (codes "owed" ∷ word_of d.kind ∷ txn_word d.txn ∷ txn_word d.on ∷ missing_word (missing_by d.kind) ∷ [])

-- whether the line at position l has more than one alternative
abbrev pub has_choice : {A : Type 0} → Programs A → ℕ → Bool
has_choice programs l = nat_lt 1 (alternatives_at programs l)

-- chose LINE A, for the line at position l, if it was done and has more than one alternative
abbrev pub chose_lines : {A : Type 0} → Programs A → List ℕ → ℕ → Option Done → List (List ℕ)
chose_lines programs numbers l None = []
chose_lines programs numbers l (Some done) =
    if has_choice programs l
    then line_of (codes "chose" ∷ number_word numbers l ∷ alternative_word done.alternative ∷ []) ∷ []
    else []

-- return LINE RETURN
abbrev pub return_line : List ℕ → ℕ → Ret → List ℕ
return_line numbers l ret = line_of (codes "return" ∷ number_word numbers l ∷ return_word ret ∷ [])

-- the same for the line at position l, if it did an operation
abbrev pub return_lines : List ℕ → ℕ → Option Done → List (List ℕ)
return_lines numbers l None = []
return_lines numbers l (Some done) = option_map_or (λ ret. return_line numbers l ret ∷ []) done.ret []

-- a step: the line that it did, with the alternative if the line has more than one
abbrev pub step_word : {A : Type 0} → Programs A → List ℕ → Step → List ℕ
step_word programs numbers s =
    if has_choice programs s.line
    then number_word numbers s.line ++ 46 ∷ alternative_word s.alternative
    else number_word numbers s.line

-- order LINE...
abbrev pub order_line : {A : Type 0} → Programs A → List ℕ → List Step → List ℕ
order_line programs numbers steps = line_of (codes "order" ∷ map (step_word programs numbers) steps)

-- the lines for each item by its position; the first has the position n
abbrev pub lines_from : {X : Type 0} → (ℕ → X → List (List ℕ)) → ℕ → List X → List (List ℕ)
lines_from lines n [] = []
lines_from lines n (x ∷ xs) = lines n x ++ lines_from lines (n + 1) xs

-- the lines of the end with the number k
abbrev pub end_lines : {A : Type 0} → Parts A → Programs A → List ℕ → ℕ → Outcome A → List Step → List (List ℕ)
end_lines m programs numbers k o steps =
    head_line k o
    ∷ (map (wait_line numbers) o.waiting
    ++ (map status_line o.statuses
    ++ (lines_from (value_lines m) 0 o.values
    ++ (map owed_line o.debts
    ++ (lines_from (chose_lines programs numbers) 0 o.lines
    ++ (lines_from (return_lines numbers) 0 o.lines
    ++ order_line programs numbers steps ∷ []))))))

-- the lines of the end at a point
abbrev pub point_lines : {A : Type 0} → Parts A → Programs A → List ℕ → ℕ → Point A → List (List ℕ)
point_lines m programs numbers k p = end_lines m programs numbers k (outcome programs p) p.steps

-- whether the condition holds for the end at a point
abbrev pub is_kept : {A : Type 0} → Programs A → Condition A → Point A → Bool
is_kept programs c p = holds c (outcome programs p)

-- the lines of the end at a point, if the condition holds for it
abbrev pub kept_lines : {A : Type 0} → Parts A → Programs A → List ℕ → Condition A → ℕ → Point A → List (List ℕ)
kept_lines m programs numbers c k p = if is_kept programs c p then point_lines m programs numbers k p else []

-- ends N
abbrev pub count_line : ℕ → List ℕ
count_line n = line_of (codes "ends" ∷ decimal n ∷ [])

-- the lines of the ends for which the condition holds, with their numbers among all ends, from 1, then how many there are
unfoldable pub explored_lines : {A : Type 0} → Parts A → Programs A → List ℕ → Condition A → List (Point A) → List (List ℕ)
explored_lines m programs numbers c points =
    lines_from (kept_lines m programs numbers c) 1 points ++ count_line (length (filter (is_kept programs c) points)) ∷ []
