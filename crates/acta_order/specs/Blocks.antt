-- Groups that can't be done next, and items that can't be replayed: definitions for internal contracts.
use Rattle.std.specs.Prelude.{◌≡◌, ℕ, ◌<◌, ◌≤◌, true, false, List, [], ◌∷◌, ◌++◌, flat_map, fold, take, length, slice_get, Option, Some, None, All}
use Rattle.acta_table.specs.declared.event.OpNo.{OpNo}
use Rattle.acta_table.specs.declared.event.Ret.{Ret}
use Rattle.acta_table.specs.declared.model.Kind.{Kind}
use Rattle.acta_axioms.specs.Serial.{Values}
use Rattle.acta_order.specs.declared.dead_end.Block.{Block}
use Rattle.acta_order.specs.declared.dead_end.DeadEnd.{DeadEnd}
use Rattle.acta_order.specs.declared.item.Item.{Item}
use Rattle.acta_order.specs.declared.replay.Difference.{Difference}
use Rattle.acta_order.specs.Faults.{IsReached}
use Rattle.acta_order.specs.Orders.{is_in, numbers_of, txns_of}
use Rattle.acta_order.specs.Paths.{Steps}
use Rattle.acta_order.specs.Search.{Replaying, after, at, due, is_sound, placed, Plays, values_at, values_of}

-- the item at this place of a group is the first that would return something else than recorded
pub record IsFirstDifference {A : Type 0} (values : Values A) (group : List Item) (place : ℕ) (item : Item) (would : Option Ret) : Type 0 where
  pub there : slice_get group place ≡ Some item
  pub front : Plays values (take place group)
  pub returns : would ≡ due (fold after values (take place group)) item
  pub differs : would ≡ item.ret → ⊥

pub record HasDifference {A : Type 0} (values : Values A) (group : List Item) (d : Difference) : Type 0 where
  pub item : Item
  pub first : IsFirstDifference values group d.place item d.would

-- the whole group is done; or nothing is, because of this difference
abbrev pub IsPlayed : (A : Type 0) → Replaying → Replaying → List Item → Option Difference → Type 0
IsPlayed A old new group None = (new ≡ record old { done = old.done ++ group }) × Plays (values_of {A = A} old) group
IsPlayed A old new group (Some d) = (new ≡ old) × HasDifference (values_of {A = A} old) group d

-- the block says why the group of t can't be done
pub record IsBlocked {A : Type 0} (values : Values A) (group : List Item) (t : ℕ) (b : Block) : Type 0 where
  pub txn : b.txn.0 ≡ t
  pub place : ℕ
  pub item : Item
  pub first : IsFirstDifference values group place item b.would
  pub op : b.op ≡ item.number
  pub returned : b.returned ≡ item.ret

-- a position that could be placed next; all positions below `low` are placed
pub record IsFree (lim : ℕ → ℕ) (ts stack : List ℕ) (low c : ℕ) : Type 0 where
  pub within : c < length ts
  pub open_there : is_in stack c ≡ false
  pub free : lim (at ts c) ≤ low

-- a block of a position that could be placed next
pub record IsBlockedAt {A : Type 0} (values : Values A) (group : ℕ → List Item) (lim : ℕ → ℕ) (ts stack : List ℕ) (low : ℕ) (b : Block) : Type 0 where
  pub pos : ℕ
  pub free : IsFree lim ts stack low pos
  pub blocked : IsBlocked values (group (at ts pos)) (at ts pos) b

-- a block for each position that could be placed next
pub record AreBlocked {A : Type 0} (values : Values A) (group : ℕ → List Item) (lim : ℕ → ℕ) (ts stack : List ℕ) (blocks : List Block) : Type 0 where
  pub low : ℕ
  pub passed : (j : ℕ) → j < low → is_in stack j ≡ true
  pub open_at : low < length ts → is_in stack low ≡ false
  pub blocks_are : All (IsBlockedAt values group lim ts stack low) blocks
  pub each : (j : ℕ) → IsFree lim ts stack low j → is_in (txns_of blocks) (at ts j) ≡ true

-- one more position is placed, and its group is done
pub record IsPlaced (A : Type 0) (path more : Steps) (old new : Replaying) (group : ℕ → List Item) (lim : ℕ → ℕ) (ts : List ℕ) (c : ℕ) : Type 0 where
  pub within : c < length ts
  pub open_there : is_in path.stack c ≡ false
  pub free : (j : ℕ) → j < lim (at ts c) → is_in path.stack j ≡ true
  pub plays : Plays (values_of {A = A} old) (group (at ts c))
  pub path_is : more ≡ record path { stack = c ∷ path.stack }
  pub replay_is : new ≡ record old { done = old.done ++ group (at ts c) }

-- the groups of the placed positions are done, and the search could place them in this order
pub record IsReplayed (A : Type 0) (kinds : List Kind) (group : ℕ → List Item) (lim : ℕ → ℕ) (ts : List ℕ) (path : Steps) (replay : Replaying) : Type 0 where
  pub size : path.size ≡ length ts
  pub kinds_are : replay.kinds ≡ kinds
  pub done : replay.done ≡ flat_map group (placed ts path.stack)
  pub reached : IsReached (values_at {A = A} kinds []) group lim ts path.stack

-- the search can reach this front, and can't place any position after it
pub record IsStuck {A : Type 0} (values : Values A) (group : ℕ → List Item) (lim : ℕ → ℕ) (ts : List ℕ) (d : DeadEnd A) : Type 0 where
  pub stack : List ℕ
  pub reached : IsReached values group lim ts stack
  pub front : numbers_of d.front ≡ placed ts stack
  pub blocked : AreBlocked (fold after values (flat_map group (placed ts stack))) group lim ts stack d.blocks

-- the item of this number is among these, and can't be replayed
pub record HasUnsound (kinds : List Kind) (items : List Item) (number : OpNo) : Type 0 where
  pub place : ℕ
  pub item : Item
  pub there : slice_get items place ≡ Some item
  pub is : number ≡ item.number
  pub fails : is_sound kinds item ≡ false

-- an item of one of these groups can't be replayed
pub record HasUnsoundGroup (kinds : List Kind) (group : ℕ → List Item) (ts : List ℕ) (number : OpNo) : Type 0 where
  pub pos : ℕ
  pub within : pos < length ts
  pub there : HasUnsound kinds (group (at ts pos)) number
