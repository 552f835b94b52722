-- The events that are tried for a transaction.
use Rattle.std.specs.Prelude.{◌≡◌, ℕ, ◌+◌, ◌<◌, ◌≤◌, ◌==◌, Bool, true, false, not, List, [], ◌∷◌, ◌++◌, codes, length, nat_lt, pos, take, if◌then◌else◌, Option, Some, None}
use Rattle.std.specs.Option.{option_map_or}
use Rattle.acta_table.specs.declared.answer.Status.{Status}
use Rattle.acta_table.specs.declared.answer.Status.TheVariants.{NotBegun, InProgress}
use Rattle.acta_table.specs.declared.event.ClassId.{ClassId}
use Rattle.acta_table.specs.declared.event.Event.{Event}
use Rattle.acta_table.specs.declared.event.Event.TheVariants as event
use Rattle.acta_table.specs.declared.event.EventKind.{EventKind}
use Rattle.acta_table.specs.declared.event.EventKind.TheVariants.{Begin, Spawn, Split, Join, Delegate, Form, Operate, Commit, Abort, Permit}
use Rattle.acta_table.specs.declared.event.Kept.{Kept}
use Rattle.acta_table.specs.declared.event.Op.{Op}
use Rattle.acta_table.specs.declared.event.Op.TheVariants.{Read, Write, Get, Add, Insert, Size}
use Rattle.acta_table.specs.declared.event.TxnId.{TxnId}
use Rattle.acta_table.specs.declared.limits.TheConstants.{LAST_TXN}
use Rattle.acta_table.specs.declared.model.Class.{Class}
use Rattle.acta_table.specs.declared.model.Kind.{Kind}
use Rattle.acta_table.specs.declared.model.Kind.TheVariants as kind
use Rattle.acta_table.specs.declared.model.Object.{Object}
use Rattle.acta_table.specs.declared.model.Parts.{Parts}
use Rattle.acta_table.specs.Classes.{can_do, class_at}
use Rattle.acta_table.specs.Events.{started}
use Rattle.acta_machine.specs.Table.{State, class_in, status_in}
use Rattle.acta_script.specs.Words.{event_word}

abbrev pub is_in_progress : Status → Bool
is_in_progress InProgress = true
is_in_progress _ = false

abbrev pub has_begun : Status → Bool
has_begun NotBegun = false
has_begun _ = true

-- the transaction, if there is one and it is in progress
abbrev pub if_in_progress : {A : Type 0} → State A → Option ℕ → List TxnId
if_in_progress state None = []
if_in_progress state (Some t) = if is_in_progress (status_in state t) then record { 0 = t } ∷ [] else []

abbrev pub in_progress_among : {A : Type 0} → State A → List (Kept A) → List TxnId
in_progress_among state [] = []
in_progress_among state (k ∷ ks) = if_in_progress state (started k.event) ++ in_progress_among state ks

-- the transactions in progress, in the order in which they began
abbrev pub in_progress : {A : Type 0} → State A → List TxnId
in_progress state = in_progress_among state state.kept

-- the first number with which no transaction has begun, or the last number
pub record IsFirstUnused {A : Type 0} (state : State A) (u : TxnId) : Type 0 where
  pub from : 1 ≤ u.0
  pub to : u.0 ≤ LAST_TXN
  pub used : (t : ℕ) → 1 ≤ t → t < u.0 → has_begun (status_in state t) ≡ true
  pub unused : u.0 < LAST_TXN → status_in state u.0 ≡ NotBegun

-- the numbers of the classes
abbrev pub class_ids_from : {A : Type 0} → ℕ → List (Class A) → List ClassId
class_ids_from n [] = []
class_ids_from n (c ∷ cs) = record { 0 = n } ∷ class_ids_from (n + 1) cs

abbrev pub class_ids : {A : Type 0} → Parts A → List ClassId
class_ids m = class_ids_from 0 m.classes

-- a begin, a spawn and a split with each of these classes; the split transfers no operation
abbrev pub begins : {A : Type 0} → TxnId → List ClassId → List (Event A)
begins t [] = []
begins t (c ∷ cs) = event.Begin t c ∷ begins t cs

abbrev pub spawns : {A : Type 0} → TxnId → TxnId → List ClassId → List (Event A)
spawns t u [] = []
spawns t u (c ∷ cs) = event.Spawn t u c ∷ spawns t u cs

abbrev pub splits : {A : Type 0} → TxnId → TxnId → List ClassId → List (Event A)
splits t u [] = []
splits t u (c ∷ cs) = event.Split t u c [] ∷ splits t u cs

-- an operation that reads an object of the kind, and one that changes it
abbrev pub reading : Kind → Op
reading (kind.Register v) = Read
reading (kind.Counter n) = Get
reading kind.Elements = Size

abbrev pub changing : Kind → Op
changing (kind.Register v) = Write (pos 0)
changing (kind.Counter n) = Add (pos 1)
changing kind.Elements = Insert (pos 0)

-- both operations on each object
abbrev pub operations_from : {A : Type 0} → TxnId → ℕ → List (Object A) → List (Event A)
operations_from t n [] = []
operations_from t n (ob ∷ obs) =
    event.Operate t (record { 0 = n }) (reading ob.kind) ∷ event.Operate t (record { 0 = n }) (changing ob.kind) ∷ operations_from t (n + 1) obs

-- how many objects, and how many other transactions, are tried
abbrev pub MOST_TRIED : ℕ
MOST_TRIED = 12

abbrev pub operations : {A : Type 0} → Parts A → TxnId → List (Event A)
operations m t = operations_from t 0 (take MOST_TRIED m.objects)

-- these transactions without this one
abbrev pub is_other : TxnId → TxnId → Bool
is_other t u = not (u.0 == t.0)

abbrev pub others : TxnId → List TxnId → List TxnId
others t [] = []
others t (u ∷ us) = if is_other t u then u ∷ others t us else others t us

-- a join with each
abbrev pub joins : {A : Type 0} → TxnId → List TxnId → List (Event A)
joins t [] = []
joins t (u ∷ us) = event.Join t u ∷ joins t us

-- the events of a kind that are tried for t; the list has the transactions in progress, and u is the number for a new one
unfoldable pub events_of_kind : {A : Type 0} → Parts A → List TxnId → TxnId → TxnId → EventKind → List (Event A)
events_of_kind m active u t Begin = []
events_of_kind m active u t Spawn = spawns t u (class_ids m)
events_of_kind m active u t Split = splits t u (class_ids m)
events_of_kind m active u t Join = joins t (take MOST_TRIED (others t active))
events_of_kind m active u t Delegate = []
events_of_kind m active u t Form = []
events_of_kind m active u t Operate = operations m t
events_of_kind m active u t Commit = event.Commit t ∷ []
events_of_kind m active u t Abort = event.Abort t ∷ []
events_of_kind m active u t Permit = []

-- what is not tried of a kind of event
abbrev pub if_more : Bool → List ℕ → List (List ℕ)
if_more true words = words ∷ []
if_more false words = []

unfoldable pub untried_of_kind : {A : Type 0} → Parts A → List TxnId → TxnId → EventKind → List (List ℕ)
untried_of_kind m active t Join = if_more (nat_lt MOST_TRIED (length (others t active))) (codes "join with others")
untried_of_kind m active t Operate = if_more (nat_lt MOST_TRIED (length m.objects)) (codes "do on other objects")
untried_of_kind m active t Delegate = event_word Delegate ∷ []
untried_of_kind m active t Form = event_word Form ∷ []
untried_of_kind m active t Permit = event_word Permit ∷ []
untried_of_kind m active t kind = []

-- whether the class of a transaction allows events of the kind
abbrev pub class_allows : {A : Type 0} → Parts A → EventKind → Option ClassId → Bool
class_allows m kind None = false
class_allows m kind (Some class) = option_map_or (can_do kind) (class_at m class.0) false

unfoldable pub may : {A : Type 0} → State A → TxnId → EventKind → Bool
may state t kind = class_allows state.model kind (class_in state t.0)

-- the kinds of event of a transaction in progress, in the order in which they are listed
abbrev pub kinds : List EventKind
kinds = Commit ∷ Abort ∷ Operate ∷ Spawn ∷ Split ∷ Join ∷ Delegate ∷ Form ∷ Permit ∷ []

-- these events, followed by the events of these kinds that are tried
abbrev pub tried_onto : {A : Type 0} → State A → List TxnId → TxnId → TxnId → List (Event A) → List EventKind → List (Event A)
tried_onto state active u t events [] = events
tried_onto state active u t events (k ∷ ks) =
    tried_onto state active u t (if may state t k then events ++ events_of_kind state.model active u t k else events) ks

-- the events that are tried for a transaction that has not ended
abbrev pub tried_for : {A : Type 0} → Status → State A → List TxnId → TxnId → TxnId → List (Event A)
tried_for NotBegun state active u t = begins t (class_ids state.model)
tried_for _ state active u t = tried_onto state active u t [] kinds

-- the words of the kinds that the class doesn't allow
abbrev pub lacking_of : {A : Type 0} → State A → TxnId → List EventKind → List (List ℕ)
lacking_of state t [] = []
lacking_of state t (k ∷ ks) = (if may state t k then [] else event_word k ∷ []) ++ lacking_of state t ks

abbrev pub lacking_for : {A : Type 0} → Status → State A → TxnId → List (List ℕ)
lacking_for NotBegun state t = []
lacking_for _ state t = lacking_of state t kinds
