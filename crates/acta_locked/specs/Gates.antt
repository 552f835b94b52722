-- A gate that allowed calls.
use Rattle.std.specs.Prelude.{ℕ, suc, List, [], ◌∷◌, ⊤}

-- the gate may have returned true around each of these calls, the first of which is the kth: before it, and after it with
-- its entry
abbrev pub LetOn : {X : Type 0} → (ℕ → Type 0) → (ℕ → X → Type 0) → ℕ → List X → Type 0
LetOn may_pass may_go_on k [] = ⊤
LetOn may_pass may_go_on k (e ∷ es) = may_pass k × may_go_on k e × LetOn may_pass may_go_on (suc k) es
