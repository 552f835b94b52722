-- The words of conditions, as they are written.
use Rattle.std.specs.Prelude.{ℕ, List, [], ◌∷◌, ◌++◌, codes, flat_map, if◌then◌else◌}
use Rattle.std.specs.Fmt.{signed_decimal}
use Rattle.acta_table.specs.declared.model.Parts.{Parts}
use Rattle.acta_script.specs.Writing.{elements_word, object_word, return_word, status_word, txn_word}
use Rattle.acta_ends.specs.declared.condition.Term.{Term}
use Rattle.acta_ends.specs.declared.condition.Test.{Test}
use Rattle.acta_ends.specs.declared.condition.Test.TheVariants as test
use Rattle.acta_ends.specs.EndLines.{number_word}

-- complete, stuck, owing, T STATUS, OBJECT = VALUE, LINE = RETURN
abbrev pub test_words : {A : Type 0} → Parts A → List ℕ → Test A → List (List ℕ)
test_words m numbers test.Complete = codes "complete" ∷ []
test_words m numbers test.Stuck = codes "stuck" ∷ []
test_words m numbers test.Owing = codes "owing" ∷ []
test_words m numbers (test.Status t status) = txn_word t ∷ status_word status ∷ []
test_words m numbers (test.Number ob n) = object_word m ob ∷ codes "=" ∷ signed_decimal n ∷ []
test_words m numbers (test.Elements ob xs) = object_word m ob ∷ codes "=" ∷ elements_word xs.items ∷ []
test_words m numbers (test.Returned l ret) = number_word numbers l ∷ codes "=" ∷ return_word ret ∷ []

-- a test, or `not` and a test
abbrev pub term_words : {A : Type 0} → Parts A → List ℕ → Term A → List (List ℕ)
term_words m numbers t =
    if t.is_negated then codes "not" ∷ test_words m numbers t.test else test_words m numbers t.test

-- the same, after `and`
abbrev pub and_words : {A : Type 0} → Parts A → List ℕ → Term A → List (List ℕ)
and_words m numbers t = codes "and" ∷ term_words m numbers t

-- terms separated by `and`
abbrev pub condition_words : {A : Type 0} → Parts A → List ℕ → List (Term A) → List (List ℕ)
condition_words m numbers [] = []
condition_words m numbers (t ∷ ts) = term_words m numbers t ++ flat_map (and_words m numbers) ts
