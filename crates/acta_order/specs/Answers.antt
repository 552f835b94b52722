-- The answers of a search: a serial order, or why there is none.
use Rattle.std.specs.Prelude.{◌≡◌, ℕ, true, false, List, [], ◌∷◌, ◌++◌, map, take, slice_get, Some, All}
use Rattle.acta_table.specs.declared.event.Kept.{Kept}
use Rattle.acta_table.specs.declared.event.OpNo.{OpNo}
use Rattle.acta_table.specs.declared.model.Parts.{Parts}
use Rattle.acta_axioms.specs.Operations.{Operation}
use Rattle.acta_axioms.specs.Serial.{commit_order, group_of, replayed}
use Rattle.acta_order.specs.declared.dead_end.Block.{Block}
use Rattle.acta_order.specs.declared.dead_end.DeadEnd.{DeadEnd}
use Rattle.acta_order.specs.declared.order.Cause.{Cause}
use Rattle.acta_order.specs.declared.order.Cause.TheVariants.{Unsound, DeadEnds}
use Rattle.acta_order.specs.declared.order.Order.{Order}
use Rattle.acta_order.specs.declared.order.Order.TheVariants.{Found, NoOrder}
use Rattle.acta_order.specs.declared.orders.Orders.{Orders}
use Rattle.acta_order.specs.Orders.{is_in, is_before, can_replay, groups_in, numbers_of, txns_of, IsOrder, IsSerial, IsState, Replays}

-- this operation of a committed transaction can't be replayed
pub record IsUnsound {A : Type 0} (m : Parts A) (h : List (Kept A)) (op : OpNo) : Type 0 where
  pub txn : ℕ
  pub committed : is_in (commit_order h) txn ≡ true
  pub place : ℕ
  pub o : Operation
  pub there : slice_get (group_of m h txn) place ≡ Some o
  pub number : op.0 ≡ o.number
  pub fails : can_replay m o ≡ false

-- a committed transaction that is not in the front, while all that have to be placed before it are
pub record CanBeNext {A : Type 0} (orders : Orders) (h : List (Kept A)) (front : List ℕ) (t : ℕ) : Type 0 where
  pub committed : is_in (commit_order h) t ≡ true
  pub open_there : is_in front t ≡ false
  pub free : (u : ℕ) → is_before orders h u t ≡ true → is_in front u ≡ true

-- the operations replayed before the one at this place of t's group, if t is placed next after the front
abbrev pub done_before : {A : Type 0} → Parts A → List (Kept A) → List ℕ → ℕ → ℕ → List Operation
done_before m h front t place = groups_in m h front ++ take place (group_of m h t)

-- why a transaction can't be placed next after the front: replayed, each operation up to this one returns what the history
-- records, and this one would return something else
pub record IsBlock {A : Type 0} (m : Parts A) (h : List (Kept A)) (front : List ℕ) (b : Block) : Type 0 where
  pub place : ℕ
  pub o : Operation
  pub there : slice_get (group_of m h b.txn.0) place ≡ Some o
  pub number : b.op.0 ≡ o.number
  pub returned : b.returned ≡ o.ret
  pub returns : replayed m (done_before m h front b.txn.0 place ++ o ∷ []) ≡ map (λ q. q.ret) (done_before m h front b.txn.0 place) ++ b.would ∷ []
  pub differs : b.would ≡ o.ret → ⊥

-- a front of an order, with a block for exactly the transactions that could be placed next
pub record IsDeadEnd {A : Type 0} (orders : Orders) (m : Parts A) (h : List (Kept A)) (d : DeadEnd A) : Type 0 where
  pub front : IsState orders m h (numbers_of d.front)
  pub next : All (λ b. CanBeNext orders h (numbers_of d.front) b.txn.0) d.blocks
  pub blocks : All (IsBlock m h (numbers_of d.front)) d.blocks
  pub each : (t : ℕ) → CanBeNext orders h (numbers_of d.front) t → is_in (txns_of d.blocks) t ≡ true

-- the cause is true
abbrev pub IsCause : {A : Type 0} → Orders → Parts A → List (Kept A) → Cause A → Type 0
IsCause orders m h (Unsound op) = IsUnsound m h op
IsCause orders m h (DeadEnds ends) = All (IsDeadEnd orders m h) ends

-- no order is serial
abbrev pub IsImpossible : {A : Type 0} → Orders → Parts A → List (Kept A) → Type 0
IsImpossible orders m h = (order : List ℕ) → IsOrder orders h order → Replays m h order → ⊥

-- the answer is right: the order is serial, or no order is, and the cause is true
abbrev pub IsAnswer : {A : Type 0} → Orders → Parts A → List (Kept A) → Order A → Type 0
IsAnswer orders m h (Found order) = IsSerial orders m h (numbers_of order)
IsAnswer orders m h (NoOrder cause) = IsImpossible orders m h × IsCause orders m h cause
