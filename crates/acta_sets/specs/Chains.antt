-- Marks: how many operations of a mode are known to be held by one transaction and its ancestors.
use Rattle.std.specs.Prelude.{◌≡◌, ◌≤◌, ℕ, Bool, true, ◌||◌, not, List, take, length, get_or, Option, Some, None}
use Rattle.std.specs.List.{list_all}
use Rattle.acta_table.specs.declared.event.Op.{Op}
use Rattle.acta_table.specs.Fates.{is_open}
use Rattle.acta_table.specs.Numbered.{numbers_where}
use Rattle.acta_sets.specs.declared.chains.Mark.{Mark}
use Rattle.acta_sets.specs.declared.held_op.HeldOp.{HeldOp}
use Rattle.acta_sets.specs.declared.mode.LockMode.{LockMode}
use Rattle.acta_sets.specs.declared.mode.ModeKey.{ModeKey}
use Rattle.acta_sets.specs.Lineages.{Lineage, is_in_line}
use Rattle.acta_sets.specs.Operations.{ops_conflict}
use Rattle.acta_sets.specs.inside.Listing.{belongs, passes_at}
use Rattle.acta_sets.specs.inside.Modes.{coarse, of_mode, total_place}

-- the parents that are remembered, and the mark of each coarse mode on each object, by its place
pub record Chained : Type 0 where
  pub lineage : Lineage
  pub marks : List Mark

-- whether the operation has ended, or is held by h or by a remembered ancestor of h
abbrev pub is_passed : Lineage → ℕ → HeldOp → Bool
is_passed l h i = not (is_open i.fate) || is_in_line l i.holder.0 h

-- all operations with these numbers are so
abbrev pub ArePassed : Lineage → ℕ → List HeldOp → List ℕ → Type 0
ArePassed l h items numbers = list_all (passes_at (is_passed l h) items) numbers ≡ true

abbrev pub no_mark : Mark
no_mark = record { upto = 0; lowest = 0 }

-- the mark at a place, if there is such a place
abbrev pub mark_at : List Mark → Option ℕ → Mark
mark_at marks None = no_mark
mark_at marks (Some place) = get_or marks place no_mark

-- the first of these operations have ended, or are held by the marked transaction or its ancestors
abbrev pub IsMarked : Lineage → List HeldOp → List ℕ → Mark → Type 0
IsMarked l items numbers mark = (mark.upto ≤ length numbers) × ArePassed l mark.lowest items (take mark.upto numbers)

-- each mark is right
abbrev pub AreChained : List HeldOp → Chained → Type 0
AreChained items c = (q : ModeKey) → IsMarked c.lineage items (numbers_where (belongs coarse q) items) (mark_at c.marks (total_place q))

-- each operation that conflicts with p is in one of these modes
abbrev pub AreRivals : LockMode → LockMode → Op → Type 0
AreRivals c d p = (q : Op) → ops_conflict q p ≡ true → (of_mode c (coarse q) || of_mode d (coarse q)) ≡ true
