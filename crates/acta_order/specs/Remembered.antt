-- The stored form of remembered states.
use Rattle.std.specs.Prelude.{ℕ, ◌<◌, ⊤, List, [], ◌∷◌, map, length, get_or}
use Rattle.acta_order.specs.declared.memo.Changed.{Changed}
use Rattle.acta_order.specs.declared.memo.Entry.{Entry}

-- the placed positions, packed to words, and the objects' values that differ from the first
pub record Remembered (A : Type 0) : Type 0 where
  pub words : List ℕ
  pub changes : List (Changed A)

-- the part that states share: the words after the first, and the values
pub record Common (A : Type 0) : Type 0 where
  pub rest : List ℕ
  pub changes : List (Changed A)

-- the shared part at this place
abbrev pub common_at : {A : Type 0} → List (Common A) → ℕ → Common A
common_at shared place = get_or shared place (record { rest = []; changes = [] })

-- the states of entries
abbrev pub state_of : {A : Type 0} → List (Common A) → Entry → Remembered A
state_of shared e = record { words = e.word ∷ (common_at shared e.shared).rest; changes = (common_at shared e.shared).changes }

abbrev pub remembered : {A : Type 0} → List (Common A) → List Entry → List (Remembered A)
remembered shared entries = map (state_of shared) entries

-- each entry's shared part exists
abbrev pub AreShared : {A : Type 0} → List (Common A) → List Entry → Type 0
AreShared shared [] = ⊤
AreShared shared (e ∷ es) = (e.shared < length shared) × AreShared shared es
