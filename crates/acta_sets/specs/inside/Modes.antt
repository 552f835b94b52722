-- The lock modes of operations, and mode keys.
use Rattle.std.specs.Prelude.{⊤, IsSome, ℕ, ◌+◌, ◌*◌, Bool, true, false, ◌&&◌, ◌==◌, pos, Option, Some, None, if◌then◌else◌}
use Rattle.std.specs.Ordering.{int_eq}
use Rattle.acta_table.specs.declared.event.Op.{Op}
use Rattle.acta_table.specs.declared.event.Op.TheVariants.{Read, Write, Get, Add, Insert, Remove, Has, Size}
use Rattle.acta_sets.specs.declared.mode.LockMode.{LockMode}
use Rattle.acta_sets.specs.declared.mode.LockMode.TheVariants.{Reads, Writes, WritesOf, Gets, Adds, Sizes, Changes, ChangesOf, Tests}
use Rattle.acta_sets.specs.declared.mode.Holder.{Holder}
use Rattle.acta_sets.specs.declared.mode.Holder.TheVariants.{Anyone, Txn}
use Rattle.acta_sets.specs.declared.mode.ModeKey.{ModeKey}

-- whether two modes are the same
abbrev pub same_mode : LockMode → LockMode → Bool
same_mode Reads Reads = true
same_mode Writes Writes = true
same_mode (WritesOf v) (WritesOf w) = int_eq v w
same_mode Gets Gets = true
same_mode Adds Adds = true
same_mode Sizes Sizes = true
same_mode Changes Changes = true
same_mode (ChangesOf x) (ChangesOf y) = int_eq x y
same_mode (Tests x) (Tests y) = int_eq x y
same_mode _ _ = false

-- whether the mode, if any, is this one
abbrev pub of_mode : LockMode → Option LockMode → Bool
of_mode c None = false
of_mode c (Some d) = same_mode d c

-- whether both are anyone, or the same transaction
abbrev pub same_holder : Holder → Holder → Bool
same_holder Anyone Anyone = true
same_holder (Txn t) (Txn u) = t == u
same_holder _ _ = false

-- whether two mode keys are the same
abbrev pub same_key : ModeKey → ModeKey → Bool
same_key k l = same_holder k.holder l.holder && (k.ob == l.ob) && same_mode k.mode l.mode

-- the rank of a coarse mode among them; a fine one has none
abbrev pub rank : LockMode → Option ℕ
rank Reads = Some 0
rank Writes = Some 1
rank Gets = Some 2
rank Adds = Some 3
rank Sizes = Some 4
rank Changes = Some 5
rank _ = None

-- the mode, if any, is coarse
abbrev pub IsCoarse : Option LockMode → Type 0
IsCoarse None = ⊤
IsCoarse (Some c) = IsSome (rank c)

-- the place of the mode on the object among the coarse modes of all objects; a fine one has none
abbrev pub place_by : ℕ → Option ℕ → Option ℕ
place_by ob (Some n) = Some (6 * ob + n)
place_by ob None = None

abbrev pub coarse_place : ℕ → LockMode → Option ℕ
coarse_place ob mode = place_by ob (rank mode)

-- the place of the total of a mode key: only keys of coarse modes and of anyone have one
abbrev pub total_by : Holder → ℕ → LockMode → Option ℕ
total_by Anyone ob mode = coarse_place ob mode
total_by (Txn t) ob mode = None

abbrev pub total_place : ModeKey → Option ℕ
total_place q = total_by q.holder q.ob q.mode

-- the coarse mode of an operation, if any, which it shares with all of its sort
abbrev pub coarse : Op → Option LockMode
coarse Read = Some Reads
coarse (Write v) = Some Writes
coarse Get = Some Gets
coarse (Add n) = if int_eq n (pos 0) then None else Some Adds
coarse (Insert x) = Some Changes
coarse (Remove x) = Some Changes
coarse (Has x) = None
coarse Size = Some Sizes

-- its fine mode, if any, which depends on its value
abbrev pub fine : Op → Option LockMode
fine Read = None
fine (Write v) = Some (WritesOf v)
fine Get = None
fine (Add n) = None
fine (Insert x) = Some (ChangesOf x)
fine (Remove x) = Some (ChangesOf x)
fine (Has x) = Some (Tests x)
fine Size = None

-- the fine mode under which it is listed, if any
abbrev pub listed_fine : Op → Option LockMode
listed_fine Read = None
listed_fine (Write v) = None
listed_fine Get = None
listed_fine (Add n) = None
listed_fine (Insert x) = Some (ChangesOf x)
listed_fine (Remove x) = Some (ChangesOf x)
listed_fine (Has x) = Some (Tests x)
listed_fine Size = None
