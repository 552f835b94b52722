-- Remembered states, from which the search found no order: definitions for internal contracts.
use Rattle.std.specs.Prelude.{◌≡◌, ℕ, ◌+◌, ◌/◌, ◌==◌, ◌<◌, ◌≤◌, Bool, true, false, if◌then◌else◌, ◌⊎◌, ⊤, List, [], ◌∷◌, ◌++◌, length, fold, flat_map, get_or, Option, Some, None}
use Rattle.std.specs.List.{Contains}
use Rattle.acta_axioms.specs.Serial.{Values}
use Rattle.acta_order.specs.declared.item.Item.{Item}
use Rattle.acta_order.specs.declared.memo.Changed.{Changed}
use Rattle.acta_order.specs.Earlier.{waits}
use Rattle.acta_order.specs.Orders.{is_in, AreDistinct, IsTimely}
use Rattle.acta_order.specs.Packed.{packed}
use Rattle.acta_order.specs.Remembered.{Remembered, Common, common_at}
use Rattle.acta_order.specs.Search.{Replaying, at, placed, after, values_at, values_of, Plays, IsRefuted, IsNext, IsNone}

-- the first values, changed at these objects
abbrev pub values_in : {A : Type 0} → Values A → List (Changed A) → Values A
values_in {A} first changes = fold (λ (v : Values A) (c : Changed A) object. if c.place == object then Some c.state else v object) first changes

-- the remembered form of this stack, of so many positions, and of these values
pub record IsOf {A : Type 0} (first : Values A) (size : ℕ) (stack : List ℕ) (values : Values A) (e : Remembered A) : Type 0 where
  pub marks : List Bool
  pub long : length marks ≡ size
  pub are : (j : ℕ) → get_or marks j false ≡ is_in stack j
  pub words : e.words ≡ packed (size / 64 + 1) marks
  pub states : (k : ℕ) → values_in first e.changes k ≡ values k

-- more parts are shared, and the old ones keep their places
pub record Grows {A : Type 0} (old new : List (Common A)) : Type 0 where
  pub longer : length old ≤ length new
  pub same : (i : ℕ) → i < length old → common_at new i ≡ common_at old i

-- the shared part at this place
pub record IsShared {A : Type 0} (shared : List (Common A)) (rest : List ℕ) (changes : List (Changed A)) (place : ℕ) : Type 0 where
  pub within : place < length shared
  pub is : common_at shared place ≡ record { rest = rest; changes = changes }

-- the memory is unchanged, or has this state added
abbrev pub IsPut : {A : Type 0} → List (Remembered A) → List (Remembered A) → Remembered A → Type 0
IsPut old new e = (new ≡ old) ⊎ (new ≡ old ++ e ∷ [])

-- the state is remembered
pub record IsKnown {A : Type 0} (first : Values A) (size : ℕ) (memo : List (Remembered A)) (stack : List ℕ) (values : Values A) : Type 0 where
  pub entry : Remembered A
  pub there : Contains memo entry
  pub is_of : IsOf first size stack values entry

-- the memory has this state added
pub record IsGrown {A : Type 0} (first : Values A) (size : ℕ) (old new : List (Remembered A)) (stack : List ℕ) (values : Values A) : Type 0 where
  pub entry : Remembered A
  pub grown : new ≡ old ++ entry ∷ []
  pub is_of : IsOf first size stack values entry

-- the memory is unchanged, or has this state added
abbrev pub IsKept : {A : Type 0} → Values A → ℕ → List (Remembered A) → List (Remembered A) → List ℕ → Values A → Type 0
IsKept first size old new stack values = (new ≡ old) ⊎ IsGrown first size old new stack values

-- no group fits, or the state is a remembered one
pub record IsOver (A : Type 0) (memo : List (Remembered A)) (old new : Replaying) (group : ℕ → List Item) (lim : ℕ → ℕ) (ts stack : List ℕ) (low from : ℕ) : Type 0 where
  pub replay : new ≡ old
  pub why : IsNone A old new group lim ts stack low from ⊎ IsKnown (values_at {A = A} old.kinds []) (length ts) memo stack (values_of {A = A} old)

abbrev pub IsFoundOrOver : (A : Type 0) → List (Remembered A) → Replaying → Replaying → (ℕ → List Item) → (ℕ → ℕ) → List ℕ → List ℕ → ℕ → ℕ → Option ℕ → Type 0
IsFoundOrOver A memo old new group lim ts stack low from (Some c) = IsNext A old new group lim ts stack low from c
IsFoundOrOver A memo old new group lim ts stack low from None = IsOver A memo old new group lim ts stack low from

-- each position on the stack was placed after those that have to be before it
abbrev pub AreFree : (ℕ → ℕ) → List ℕ → List ℕ → Type 0
AreFree lim ts [] = ⊤
AreFree lim ts (c ∷ below) = ((j : ℕ) → j < lim (at ts c) → is_in below j ≡ true) × AreFree lim ts below

-- a state that no serial order continues
pub record IsDead {A : Type 0} (values : Values A) (group : ℕ → List Item) (lim : ℕ → ℕ) (ts : List ℕ) (e : Remembered A) : Type 0 where
  pub stack : List ℕ
  pub distinct : AreDistinct (placed ts stack)
  pub within : (j : ℕ) → is_in stack j ≡ true → j < length ts
  pub is_of : IsOf values (length ts) stack (fold after values (flat_map group (placed ts stack))) e
  pub plays : Plays values (flat_map group (placed ts stack))
  pub timely : IsTimely (waits lim ts) (placed ts stack)
  pub refuted : IsRefuted values group lim ts (placed ts stack)

-- no serial order continues a remembered state
abbrev pub AreDead : {A : Type 0} → Values A → (ℕ → List Item) → (ℕ → ℕ) → List ℕ → List (Remembered A) → Type 0
AreDead {A} values group lim ts memo = (e : Remembered A) → Contains memo e → IsDead values group lim ts e
