-- A transaction's class and ancestors in a summary, and what follows from them.
use Rattle.std.specs.Prelude.{ℕ, Bool, false, List, [], if◌then◌else◌, Option, None, option_and_then}
use Rattle.std.specs.Option.{option_map_or}
use Rattle.acta_table.specs.declared.event.TxnId.{TxnId}
use Rattle.acta_table.specs.declared.event.OpNo.{OpNo}
use Rattle.acta_table.specs.declared.model.Class.{Class}
use Rattle.acta_table.specs.declared.model.Parts.{Parts}
use Rattle.acta_table.specs.Ancestors.{ancestors_from}
use Rattle.acta_table.specs.Classes.{class_at, exempts, has_heir}
use Rattle.acta_sets.specs.Operations.{conflict_set}
use Rattle.acta_machine.specs.Summary.{Summary}

-- the class that t began with
abbrev pub class_of : {A : Type 0} → Parts A → Summary → ℕ → Option (Class A)
class_of m s t = option_and_then (λ c. class_at m c.0) (s.class t)

-- whether t has a class that passes the test
abbrev pub has_class : {A : Type 0} → (Class A → Bool) → Parts A → Summary → ℕ → Bool
has_class test m s t = option_map_or test (class_of m s t) false

-- the ancestors of t: its parent, the parent's parent, and so on; there are fewer generations than events
abbrev pub ancestors_of : Summary → ℕ → List TxnId
ancestors_of s t = ancestors_from s.kept s.parent (s.parent t)

-- the ancestors of t that its class exempts
abbrev pub exempt : {A : Type 0} → Parts A → Summary → ℕ → List TxnId
exempt m s t = if has_class (λ k. exempts k.scope) m s t then ancestors_of s t else []

-- the operations in progress that others hold, except exempt ancestors and those that permit t to work on the object
abbrev pub conflict_set_of : {A : Type 0} → Parts A → Summary → ℕ → List OpNo
conflict_set_of m s t = conflict_set t (exempt m s t) s.permits s.operations

-- the heir of t, which inherits its operations at its commit: its parent, if its class commits to parents
abbrev pub heir_of : {A : Type 0} → Parts A → Summary → ℕ → Option TxnId
heir_of m s t = if has_class (λ k. has_heir k.at_commit) m s t then s.parent t else None
