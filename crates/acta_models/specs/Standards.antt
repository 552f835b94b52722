-- The standard models, by name.
use Rattle.std.specs.Prelude.{ℕ, List, [], ◌∷◌, codes}
use Rattle.acta_models.specs.declared.texts.Standard.{Standard}
use Rattle.acta_models.specs.declared.texts.Standard.TheVariants.{Atomic, Nested, SplitJoin, Recoverable, Contingent}
use Rattle.acta_models.specs.declared.texts.TheConstants.{ATOMIC, NESTED, SPLIT_JOIN, RECOVERABLE, CONTINGENT}

-- all of them, in order
abbrev pub all_standards : List Standard
all_standards = Atomic ∷ Nested ∷ SplitJoin ∷ Recoverable ∷ Contingent ∷ []

-- the name of a standard model
abbrev pub name_of_standard : Standard → List ℕ
name_of_standard Atomic = codes "atomic"
name_of_standard Nested = codes "nested"
name_of_standard SplitJoin = codes "split_join"
name_of_standard Recoverable = codes "recoverable"
name_of_standard Contingent = codes "contingent"

-- the text of a standard model
abbrev pub text_of_standard : Standard → List ℕ
text_of_standard Atomic = ATOMIC.now
text_of_standard Nested = NESTED.now
text_of_standard SplitJoin = SPLIT_JOIN.now
text_of_standard Recoverable = RECOVERABLE.now
text_of_standard Contingent = CONTINGENT.now
