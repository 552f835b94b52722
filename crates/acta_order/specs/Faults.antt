-- Which states a search reaches, and when it gives up: definitions for internal contracts.
use Rattle.std.specs.Prelude.{◌≡◌, ℕ, ◌+◌, ◌<◌, ◌≤◌, false, true, ⊤, List, [], ◌∷◌, length, flat_map}
use Rattle.acta_table.specs.declared.limits.TheConstants.{MOST_EVENTS}
use Rattle.acta_axioms.specs.Serial.{Values}
use Rattle.acta_order.specs.declared.fault.OrderFault.{OrderFault}
use Rattle.acta_order.specs.declared.fault.OrderFault.TheVariants.{TooMany, TooLong, Memory}
use Rattle.acta_order.specs.declared.item.Item.{Item}
use Rattle.acta_order.specs.Memos.{AreFree}
use Rattle.acta_order.specs.Orders.{is_in, AreDistinct, AreDifferent}
use Rattle.acta_order.specs.Search.{Replaying, at, placed, Plays}

-- the replay has room for every group that is not done
abbrev pub HasRoom : Replaying → (ℕ → List Item) → List ℕ → List ℕ → Type 0
HasRoom replay group ts stack = (j : ℕ) → j < length ts → is_in stack j ≡ false → length replay.done + length (group (at ts j)) ≤ MOST_EVENTS

-- the groups of different transactions have no more items than a history may have
abbrev pub AreFew : (ℕ → List Item) → Type 0
AreFew group = (order : List ℕ) → AreDistinct order → length (flat_map group order) ≤ MOST_EVENTS

-- a stack of positions that the search can reach
pub record IsReached {A : Type 0} (values : Values A) (group : ℕ → List Item) (lim : ℕ → ℕ) (ts stack : List ℕ) : Type 0 where
  pub distinct : AreDistinct stack
  pub within : (j : ℕ) → is_in stack j ≡ true → j < length ts
  pub free : AreFree lim ts stack
  pub plays : Plays values (flat_map group (placed ts stack))

abbrev pub AreReached : {A : Type 0} → Values A → (ℕ → List Item) → (ℕ → ℕ) → List ℕ → List (List ℕ) → Type 0
AreReached values group lim ts [] = ⊤
AreReached values group lim ts (stack ∷ stacks) = IsReached values group lim ts stack × AreReached values group lim ts stacks

-- more than this many stacks can be reached
pub record HasReached {A : Type 0} (values : Values A) (group : ℕ → List Item) (lim : ℕ → ℕ) (ts : List ℕ) (most : ℕ) : Type 0 where
  pub stacks : List (List ℕ)
  pub more : most < length stacks
  pub different : AreDifferent stacks
  pub reached : AreReached values group lim ts stacks

abbrev pub IsSearchFault : {A : Type 0} → Values A → (ℕ → List Item) → (ℕ → ℕ) → List ℕ → ℕ → OrderFault → Type 0
IsSearchFault values group lim ts most TooMany = HasReached values group lim ts most
IsSearchFault values group lim ts most TooLong = ⊥
IsSearchFault values group lim ts most Memory = ⊤
