-- The lines of which events a machine would admit next, and which it would refuse.
use Rattle.std.specs.Prelude.{◌≡◌, ℕ, ◌-◌, ◌==◌, ◌&&◌, Bool, true, false, nat_le, List, [], ◌∷◌, ◌++◌, codes, decimal, length, take, if◌then◌else◌, Option, Some, None}
use Rattle.std.specs.Option.{option_map_or}
use Rattle.acta_table.specs.declared.answer.Refusal.{Refusal}
use Rattle.acta_table.specs.declared.answer.Rule.{Rule}
use Rattle.acta_table.specs.declared.answer.Status.{Status}
use Rattle.acta_table.specs.declared.answer.Status.TheVariants.{NotBegun, InProgress}
use Rattle.acta_table.specs.declared.dep.Owed.{Owed}
use Rattle.acta_table.specs.declared.event.Event.{Event}
use Rattle.acta_table.specs.declared.event.EventKind.{EventKind}
use Rattle.acta_table.specs.declared.event.Event.TheVariants.{Commit, Abort}
use Rattle.acta_table.specs.declared.event.TxnId.{TxnId}
use Rattle.acta_table.specs.Dependencies.{is_abort, is_commit}
use Rattle.acta_table.specs.Numbers.{rule_name, rule_number}
use Rattle.acta_words.specs.Text.{text_of}
use Rattle.acta_machine.specs.Table.{State, debts_in, refusal_in, status_in}
use Rattle.acta_script.specs.Writing.{event_line, status_word}
use Rattle.acta_next.specs.Candidates.{IsFirstUnused, in_progress, kinds, lacking_for, may, tried_for, untried_of_kind}

-- a list with one more item, after a comma
abbrev pub with_item : List ℕ → List ℕ → List ℕ
with_item [] item = item
with_item (b ∷ bs) item = ((b ∷ bs) ++ codes ", ") ++ item

-- a list with the items of these things, for those that have one
abbrev pub onto_list : {X : Type 0} → (X → Option (List ℕ)) → List ℕ → List X → List ℕ
onto_list item list [] = list
onto_list item list (x ∷ xs) = onto_list item (option_map_or (λ words. with_item list words) (item x) list) xs

-- the words separated by commas
abbrev pub listed : List (List ℕ) → List ℕ
listed words = onto_list (λ word. Some word) [] words

-- a list with what is not tried of these kinds
abbrev pub untried_onto : {A : Type 0} → State A → List TxnId → TxnId → List ℕ → List EventKind → List ℕ
untried_onto state active t list [] = list
untried_onto state active t list (k ∷ ks) =
    untried_onto state active t
    (if may state t k then onto_list (λ word. Some word) list (untried_of_kind state.model active t k) else list)
    ks

abbrev pub untried_for : {A : Type 0} → Status → State A → List TxnId → TxnId → List ℕ
untried_for NotBegun state active t = []
untried_for _ state active t = untried_onto state active t [] kinds

-- whether the event pays this debt
abbrev pub pays : {A : Type 0} → Event A → Owed → Bool
pays (Commit t) owed = (owed.txn.0 == t.0) && is_commit (Some owed.missing)
pays (Abort t) owed = (owed.txn.0 == t.0) && is_abort (Some owed.missing)
pays event owed = false

-- the edge of a debt that the event pays
abbrev pub paid_item : {A : Type 0} → Event A → Owed → Option (List ℕ)
paid_item event owed = if pays event owed then Some (codes "edge " ++ decimal owed.edge.0) else None

abbrev pub paid_note : List ℕ → List ℕ
paid_note [] = []
paid_note (b ∷ bs) = codes " (pays " ++ ((b ∷ bs) ++ codes ")")

-- an event that is admitted: its line, and the edges of the debts that it pays
abbrev pub admitted_words : {A : Type 0} → State A → Event A → List ℕ
admitted_words state event =
    event_line state.model event ++ paid_note (onto_list (paid_item event) [] (debts_in state))

abbrev pub unless_refused : {A : Type 0} → State A → Event A → Option Refusal → Option (List ℕ)
unless_refused state event None = Some (admitted_words state event)
unless_refused state event (Some refusal) = None

abbrev pub admitted_item : {A : Type 0} → State A → Event A → Option (List ℕ)
admitted_item state event = unless_refused state event (refusal_in state event)

-- an event that is refused: its line, and the lowest rule that it breaks
abbrev pub refused_words : {A : Type 0} → State A → Event A → Rule → List ℕ
refused_words state event rule =
    event_line state.model event ++ (codes " (" ++ (decimal (rule_number rule) ++ (32 ∷ (rule_name rule ++ codes ")"))))

abbrev pub if_refused : {A : Type 0} → State A → Event A → Option Refusal → Option (List ℕ)
if_refused state event None = None
if_refused state event (Some refusal) = Some (refused_words state event refusal.rule)

abbrev pub refused_item : {A : Type 0} → State A → Event A → Option (List ℕ)
refused_item state event = if_refused state event (refusal_in state event)

-- T may: the events that would be admitted
abbrev pub or_nothing : List ℕ → List ℕ
or_nothing [] = codes "nothing that was tried"
or_nothing (b ∷ bs) = b ∷ bs

abbrev pub may_line : TxnId → List ℕ → List ℕ
may_line t list = decimal t.0 ++ (codes " may: " ++ text_of (or_nothing list ∷ []))

-- a list after its heading, if it has an item
abbrev pub list_line : List ℕ → List ℕ → List ℕ
list_line front [] = []
list_line front (b ∷ bs) = front ++ text_of ((b ∷ bs) ∷ [])

-- the events tried, sorted into the two lists; then what is not tried
abbrev pub sorted : {A : Type 0} → State A → TxnId → List (Event A) → List ℕ
sorted state t tried =
    may_line t (onto_list (admitted_item state) [] tried)
    ++ list_line (codes "  refused: ") (onto_list (refused_item state) [] tried)

abbrev pub next_lines : {A : Type 0} → State A → List TxnId → TxnId → TxnId → List ℕ
next_lines state active u t =
    sorted state t (tried_for (status_in state t.0) state active u t)
    ++ (list_line (codes "  not tried: ") (untried_for (status_in state t.0) state active t)
    ++ list_line (codes "  its class has no: ") (listed (lacking_for (status_in state t.0) state t)))

-- a transaction that has ended
unfoldable pub nothing_more : List ℕ
nothing_more = codes " may: nothing, it is "

abbrev pub ended_line : TxnId → List ℕ → List ℕ
ended_line t word = decimal t.0 ++ (nothing_more ++ text_of (word ∷ []))

abbrev pub has_ended : Status → Bool
has_ended NotBegun = false
has_ended InProgress = false
has_ended _ = true

-- what a transaction can do next; the list has the transactions in progress, and u is the number for a new one
abbrev pub next_of : {A : Type 0} → State A → List TxnId → TxnId → TxnId → List ℕ
next_of state active u t =
    if has_ended (status_in state t.0) then ended_line t (status_word (status_in state t.0)) else next_lines state active u t

abbrev pub next_of_each : {A : Type 0} → State A → List TxnId → TxnId → List TxnId → List ℕ
next_of_each state active u [] = []
next_of_each state active u (t ∷ ts) = next_of state active u t ++ next_of_each state active u ts

-- how many transactions in progress are listed, and the line that there are more
abbrev pub MOST_TXNS : ℕ
MOST_TXNS = 20

abbrev pub more_line : ℕ → List ℕ
more_line count =
    if nat_le count MOST_TXNS then []
    else codes "and " ++ (decimal (count - MOST_TXNS) ++ text_of (codes " more in progress (`next T` asks about one)" ∷ []))

-- what the transactions in progress and a new one can do next
abbrev pub next_of_all : {A : Type 0} → State A → List TxnId → TxnId → List ℕ
next_of_all state active u =
    next_of_each state active u (take MOST_TXNS active) ++ (more_line (length active) ++ next_of state active u u)

abbrev pub next_for : {A : Type 0} → State A → List TxnId → TxnId → Option TxnId → List ℕ
next_for state active u (Some t) = next_of state active u t
next_for state active u None = next_of_all state active u

-- what can happen next, for one transaction or for those in progress and a new one
pub record IsNext {A : Type 0} (state : State A) (t : Option TxnId) (text : List ℕ) : Type 0 where
  pub unused : TxnId
  pub first : IsFirstUnused state unused
  pub says : text ≡ next_for state (in_progress state) unused t
