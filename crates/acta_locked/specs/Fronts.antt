-- The fronts that a judging thread sees of a growing history.
use Rattle.std.specs.Prelude.{◌≡◌, ◌≤◌, ℕ, List, [], ◌∷◌, length, take, ⊤}
use Rattle.acta_table.specs.declared.event.Kept.{Kept}
use Rattle.acta_table.specs.declared.model.Parts.{Parts}
use Rattle.acta_judge.specs.Verdicts.{verdict}
use Rattle.acta_locked.specs.declared.watch.Front.{Front}

-- a front is the verdict on the first items of the history, without a fault
pub record IsFront {A : Type 0} (m : Parts A) (h : List (Kept A)) (f : Front A) : Type 0 where
  pub within : f.length ≤ length h
  pub judged : f.verdict ≡ verdict m (take f.length h)
  pub faultless : f.verdict.faults ≡ []

-- each is a front of the history
abbrev pub EachIsFront : {A : Type 0} → Parts A → List (Kept A) → List (Front A) → Type 0
EachIsFront m h [] = ⊤
EachIsFront m h (f ∷ fs) = IsFront m h f × EachIsFront m h fs

-- no front is shorter than this
abbrev pub NoneShorter : {A : Type 0} → ℕ → List (Front A) → Type 0
NoneShorter n [] = ⊤
NoneShorter n (f ∷ fs) = (n ≤ f.length) × NoneShorter n fs

-- the lengths never fall
abbrev pub NeverFall : {A : Type 0} → List (Front A) → Type 0
NeverFall [] = ⊤
NeverFall (f ∷ fs) = NoneShorter f.length fs × NeverFall fs

-- the fronts of a history
pub record AreFronts {A : Type 0} (m : Parts A) (h : List (Kept A)) (fs : List (Front A)) : Type 0 where
  pub each : EachIsFront m h fs
  pub rising : NeverFall fs
