-- A book: entries that are a run of their events.
use Rattle.std.specs.Prelude.{◌≡◌, ◌+◌, ◌≤◌, ◌==◌, ℕ, List, [], ◌∷◌, ◌++◌, length, map, filter}
use Rattle.std.specs.List.{range_with_len}
use Rattle.acta_table.specs.declared.answer.Answer.{Answer}
use Rattle.acta_table.specs.declared.event.Event.{Event}
use Rattle.acta_table.specs.declared.limits.TheConstants.{MOST_EVENTS}
use Rattle.acta_table.specs.declared.model.Parts.{Parts}
use Rattle.acta_machine.specs.Table.{State, answer_to, run_answers, run_state}
use Rattle.acta_locked.specs.declared.book.Entry.{Entry}

-- the abstract value of a book: a model, and the entries in order
pub record Entries (A : Type 0) : Type 0 where
  pub model : Parts A
  pub entries : List (Entry A)

-- a book without entries
abbrev pub no_entries : {A : Type 0} → Parts A → Entries A
no_entries m = record { model = m; entries = [] }

-- the events of entries, their answers and their numbers
abbrev pub events_of : {A : Type 0} → List (Entry A) → List (Event A)
events_of es = map (λ e. e.event) es

abbrev pub answers_of : {A : Type 0} → List (Entry A) → List Answer
answers_of es = map (λ e. e.answer) es

abbrev pub numbers_of : {A : Type 0} → List (Entry A) → List ℕ
numbers_of es = map (λ e. e.number) es

-- the machine after a run of the entries' events
abbrev pub state_of : {A : Type 0} → Entries A → State A
state_of b = run_state b.model (events_of b.entries)

-- the kth entry has the number k, the answers are those of a run of the events, and there are at most 65,536 entries
pub record IsRun {A : Type 0} (b : Entries A) : Type 0 where
  pub numbered : numbers_of b.entries ≡ range_with_len 1 (length b.entries)
  pub answered : answers_of b.entries ≡ run_answers b.model (events_of b.entries)
  pub within : length b.entries ≤ MOST_EVENTS

-- the entry that a call makes: the next number, the seat, the event, and the machine's answer
abbrev pub entry_of : {A : Type 0} → Entries A → ℕ → Event A → Entry A
entry_of b seat event = record {
  number = length b.entries + 1;
  seat = seat;
  event = event;
  answer = answer_to (state_of b) event;
}

-- the book with one more entry
abbrev pub entered : {A : Type 0} → Entries A → Entry A → Entries A
entered b e = record b { entries = b.entries ++ e ∷ [] }

-- the book with these entries added
abbrev pub with_entries : {A : Type 0} → Entries A → List (Entry A) → Entries A
with_entries b es = record b { entries = b.entries ++ es }

-- the part of a seat: its entries, in order
abbrev pub seat_part : {A : Type 0} → ℕ → List (Entry A) → List (Entry A)
seat_part seat es = filter (λ e. e.seat == seat) es
