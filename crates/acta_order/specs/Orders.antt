-- Serial orders of a list of kept events: orders of its committed transactions in which a replay gives each recorded return.
use Rattle.std.specs.Prelude.{◌≡◌, ℕ, ◌<◌, length, Bool, true, false, not, ◌&&◌, ◌||◌, ◌==◌, ⊤, List, [], ◌∷◌, map, flat_map, take_while, is_some}
use Rattle.std.specs.List.{list_any, list_all}
use Rattle.std.specs.Option.{option_map_or}
use Rattle.acta_table.specs.declared.event.Event.{Event}
use Rattle.acta_table.specs.Events.{started, acting}
use Rattle.acta_table.specs.declared.event.Kept.{Kept}
use Rattle.acta_table.specs.declared.event.TxnId.{TxnId}
use Rattle.acta_table.specs.declared.model.Parts.{Parts}
use Rattle.acta_axioms.specs.Operations.{Operation}
use Rattle.acta_values.specs.Conflicts.{is_well_formed}
use Rattle.acta_axioms.specs.Serial.{commit_order, group_of, replayed}
use Rattle.acta_table.specs.declared.limits.TheConstants.{MOST_EVENTS}
use Rattle.acta_order.specs.declared.dead_end.Block.{Block}
use Rattle.acta_order.specs.declared.fault.OrderFault.{OrderFault}
use Rattle.acta_order.specs.declared.fault.OrderFault.TheVariants.{TooMany, TooLong, Memory}
use Rattle.acta_order.specs.declared.orders.Orders.{Orders}
use Rattle.acta_order.specs.declared.orders.Orders.TheVariants.{All, RealTime}

-- whether t is in the list
abbrev pub is_in : List ℕ → ℕ → Bool
is_in ts t = list_any (λ u. u == t) ts

-- no number occurs twice
abbrev pub AreDistinct : List ℕ → Type 0
AreDistinct [] = ⊤
AreDistinct (t ∷ ts) = (is_in ts t ≡ false) × AreDistinct ts

-- whether the event starts t, or t does it
abbrev pub is_event_of : {A : Type 0} → ℕ → Event A → Bool
is_event_of t event = option_map_or (λ u. u == t) (started event) false || option_map_or (λ u. u == t) (acting event) false

-- the items before the first event of t, or all items if t has no event
abbrev pub before_first : {A : Type 0} → ℕ → List (Kept A) → List (Kept A)
before_first t h = take_while (λ k. not (is_event_of t k.event)) h

-- whether t has to be placed before u: in real-time orders, if t commits before the first event of u
abbrev pub is_before : {A : Type 0} → Orders → List (Kept A) → ℕ → ℕ → Bool
is_before All h t u = false
is_before RealTime h t u = is_in (commit_order (before_first u h)) t

-- no transaction is placed after one that it has to be placed before
abbrev pub IsTimely : (ℕ → ℕ → Bool) → List ℕ → Type 0
IsTimely before [] = ⊤
IsTimely before (u ∷ us) = (list_any (λ t. before t u) us ≡ false) × IsTimely before us

-- an order of these transactions: each exactly once, and no transaction before one that has to precede it
pub record IsOrderOf (before : ℕ → ℕ → Bool) (ts order : List ℕ) : Type 0 where
  pub each : (t : ℕ) → is_in order t ≡ is_in ts t
  pub once : AreDistinct order
  pub timely : IsTimely before order

-- an order of the committed transactions of a history, among the orders allowed
abbrev pub IsOrder : {A : Type 0} → Orders → List (Kept A) → List ℕ → Type 0
IsOrder orders h order = IsOrderOf (is_before orders h) (commit_order h) order

-- the committed operations of these transactions, one group after another
abbrev pub groups_in : {A : Type 0} → Parts A → List (Kept A) → List ℕ → List Operation
groups_in m h order = flat_map (group_of m h) order

-- whether an operation can be replayed: its object is in the model and has its kind, and its return is recorded
abbrev pub can_replay : {A : Type 0} → Parts A → Operation → Bool
can_replay m o = is_well_formed m o.object o.op && is_some o.ret

-- replayed in this order from the first values, each committed operation returns what the history records
pub record Replays {A : Type 0} (m : Parts A) (h : List (Kept A)) (order : List ℕ) : Type 0 where
  pub sound : list_all (can_replay m) (groups_in m h order) ≡ true
  pub returns : replayed m (groups_in m h order) ≡ map (λ o. o.ret) (groups_in m h order)

-- the numbers of transactions
abbrev pub numbers_of : List TxnId → List ℕ
numbers_of ts = map (λ t. t.0) ts

-- the numbers of the transactions that are blocked
abbrev pub txns_of : List Block → List ℕ
txns_of blocks = map (λ b. b.txn.0) blocks

-- the order is serial; it is the order of the commits if that is serial
pub record IsSerial {A : Type 0} (orders : Orders) (m : Parts A) (h : List (Kept A)) (order : List ℕ) : Type 0 where
  pub order_is : IsOrder orders h order
  pub replays : Replays m h order
  pub commits_first : IsOrder orders h (commit_order h) → Replays m h (commit_order h) → order ≡ commit_order h

-- the list differs from all of these
abbrev pub AreOthers : List ℕ → List (List ℕ) → Type 0
AreOthers front [] = ⊤
AreOthers front (other ∷ others) = (front ≡ other → ⊥) × AreOthers front others

-- no list occurs twice
abbrev pub AreDifferent : List (List ℕ) → Type 0
AreDifferent [] = ⊤
AreDifferent (front ∷ fronts) = AreOthers front fronts × AreDifferent fronts

-- a front of an order, of committed transactions: each once, none before one that has to precede it, and replayed each
-- operation returns what the history records
pub record IsState {A : Type 0} (orders : Orders) (m : Parts A) (h : List (Kept A)) (front : List ℕ) : Type 0 where
  pub committed : (t : ℕ) → is_in front t ≡ true → is_in (commit_order h) t ≡ true
  pub once : AreDistinct front
  pub timely : IsTimely (is_before orders h) front
  pub replays : Replays m h front

abbrev pub AreStates : {A : Type 0} → Orders → Parts A → List (Kept A) → List (List ℕ) → Type 0
AreStates orders m h [] = ⊤
AreStates orders m h (front ∷ fronts) = IsState orders m h front × AreStates orders m h fronts

-- there are more than this many states
pub record HasMoreStates {A : Type 0} (orders : Orders) (m : Parts A) (h : List (Kept A)) (most : ℕ) : Type 0 where
  pub fronts : List (List ℕ)
  pub more : most < length fronts
  pub different : AreDifferent fronts
  pub states : AreStates orders m h fronts

-- the fault is justified; memory may run out at any time
abbrev pub IsFault : {A : Type 0} → Orders → Parts A → List (Kept A) → ℕ → OrderFault → Type 0
IsFault orders m h most TooMany = HasMoreStates orders m h most
IsFault orders m h most TooLong = MOST_EVENTS < length h
IsFault orders m h most Memory = ⊤
