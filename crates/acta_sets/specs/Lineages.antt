-- Who is whose parent, as far as it is remembered.
use Rattle.std.specs.Prelude.{◌≡◌, ◌≢◌, ◌≤◌, ◌⊎◌, ℕ, suc, ◌==◌, ◌||◌, Bool, true, false, List, get_or, Option, Some, None}
use Rattle.std.specs.List.{list_any}
use Rattle.acta_table.specs.declared.event.TxnId.{TxnId}
use Rattle.acta_table.specs.Ancestors.{ancestors_from}
use Rattle.acta_sets.specs.declared.lineage.Entry.{Entry}

-- what is remembered of each transaction, by number, and a bound on the depth
pub record Lineage : Type 0 where
  pub entries : List Entry
  pub most : ℕ

-- what is remembered of a transaction past the end
abbrev pub unknown : Entry
unknown = record { parent = None; depth = 0; jump = 0; is_known = false }

-- the parent of t that is remembered
abbrev pub parent_in : Lineage → ℕ → Option TxnId
parent_in l t = (get_or l.entries t unknown).parent

-- how many ancestors of t are remembered
abbrev pub depth_in : Lineage → ℕ → ℕ
depth_in l t = (get_or l.entries t unknown).depth

-- whether u is a remembered ancestor of t
abbrev pub is_above : Lineage → ℕ → ℕ → Bool
is_above l u t = list_any (λ a. a.0 == u) (ancestors_from (depth_in l t) (parent_in l) (parent_in l t))

-- whether u is t or a remembered ancestor of t
abbrev pub is_in_line : Lineage → ℕ → ℕ → Bool
is_in_line l u t = (t == u) || is_above l u t

-- the ancestor of t to which one step leads, if t has ancestors
abbrev pub jump_in : Lineage → ℕ → ℕ
jump_in l t = (get_or l.entries t unknown).jump

-- each transaction is one deeper than its parent, none is deeper than `most`, jumps lead to ancestors, and parents and
-- their children are known
pub record IsWellFounded (l : Lineage) : Type 0 where
  pub deeper : (t : ℕ) (p : TxnId) → parent_in l t ≡ Some p → depth_in l t ≡ suc (depth_in l p.0)
  pub shallow : (t : ℕ) → depth_in l t ≤ l.most
  pub jumps : (t : ℕ) (p : TxnId) → parent_in l t ≡ Some p → is_above l (jump_in l t) t ≡ true
  pub is_parent : (t : ℕ) (p : TxnId) → parent_in l t ≡ Some p → (get_or l.entries p.0 unknown).is_known ≡ true
  pub has_parent : (t : ℕ) (p : TxnId) → parent_in l t ≡ Some p → (get_or l.entries t unknown).is_known ≡ true

-- each parent that is remembered now was remembered before, or is t's
abbrev pub IsEntered : Lineage → Lineage → ℕ → Option TxnId → Type 0
IsEntered old new t parent =
    (u : ℕ) (p : TxnId) → parent_in new u ≡ Some p → ((u ≢ t) × (parent_in old u ≡ Some p)) ⊎ ((u ≡ t) × (parent ≡ Some p))

-- the ancestors that were remembered still are
abbrev pub IsStill : Lineage → Lineage → Type 0
IsStill old new = (u t : ℕ) → is_in_line old u t ≡ true → is_in_line new u t ≡ true

-- all remembered ancestors of t are exempt
abbrev pub AreExempt : Lineage → ℕ → (ℕ → Bool) → Type 0
AreExempt l t exempt =
    (u : ℕ) → list_any (λ a. a.0 == u) (ancestors_from l.most (parent_in l) (parent_in l t)) ≡ true → exempt u ≡ true
