-- A worker's entries at a desk, and what the ledger counts of them.
use Rattle.std.specs.Prelude.{◌≡◌, ℕ, ◌+◌, ◌⊎◌, List, [], ◌∷◌, ◌++◌, length, map, take, Result, Ok, Err}
use Rattle.std.specs.List.{AllByRecursion}
use Rattle.acta_table.specs.declared.event.Event.{Event}
use Rattle.acta_table.specs.declared.model.Parts.{Parts}
use Rattle.acta_table.specs.declared.limits.TheConstants.{MOST_EVENTS}
use Rattle.acta_locked.specs.declared.book.Entry.{Entry}
use Rattle.acta_locked.specs.declared.book.TakeError.{TakeError}
use Rattle.acta_locked.specs.declared.book.TakeError.TheVariants as refusal
use Rattle.acta_locked.specs.declared.worker.Report.{Report}
use Rattle.acta_locked.specs.declared.worker.WorkError.{WorkError}
use Rattle.acta_locked.specs.declared.worker.WorkError.TheVariants.{BookFull, GaveUp, Memory}
use Rattle.acta_locked.specs.Books.{Entries, IsRun, entered, entry_of}
use Rattle.acta_locked.specs.Gates.{LetOn}

-- entries of one seat whose events are the script, in order; the two functions give an entry's seat and event
pub record IsHandedIn {A : Type 0} (seat_in : Entry A → ℕ) (event_in : Entry A → Event A) (seat : ℕ)
    (script : List (Event A)) (es : List (Entry A)) : Type 0 where
  pub seats : AllByRecursion (λ e. seat_in e ≡ seat) es
  pub events : map event_in es ≡ script

-- the report of a seat with this script
pub record IsReport {A : Type 0} (seat_in : Entry A → ℕ) (event_in : Entry A → Event A) (seat : ℕ)
    (script : List (Event A)) (r : Report A) : Type 0 where
  pub seat_is : r.seat ≡ seat
  pub entries : IsHandedIn seat_in event_in seat script r.entries

-- entries of the first events of a script, whose calls the gate allowed
pub record AreLetOn {A : Type 0} (seat_in : Entry A → ℕ) (event_in : Entry A → Event A) (may_pass : ℕ → Type 0)
    (may_go_on : ℕ → Entry A → Type 0) (seat : ℕ) (script : List (Event A)) (es : List (Entry A)) : Type 0 where
  pub handed : IsHandedIn seat_in event_in seat (take (length es) script) es
  pub let_on : LetOn may_pass may_go_on 1 es

-- why the worker of this seat and script has no report, by its desk's answers and its gate. The gate allowed all calls up to
-- one, and the desk answered them. At that one the gate may stop, before the call or after it; or the desk answered that it
-- is full; or memory ran out, at the desk or in the worker between two calls
abbrev pub IsWhy : {A : Type 0} → (Entry A → ℕ) → (Entry A → Event A) → (List (Result (Entry A) TakeError) → Type 0)
    → (ℕ → Type 0) → (ℕ → Type 0) → (ℕ → Entry A → Type 0) → ℕ → List (Event A) → WorkError → Type 0
IsWhy {A} seat_in event_in gave may_stop may_pass may_go_on seat script (GaveUp _) =
    (es : List (Entry A)) × AreLetOn seat_in event_in may_pass may_go_on seat script es
    × (gave (map Ok es) ⊎ ((e : Entry A) × gave (map Ok (es ++ e ∷ [])))) × may_stop (length es + 1)
IsWhy {A} seat_in event_in gave may_stop may_pass may_go_on seat script BookFull =
    (es : List (Entry A)) × AreLetOn seat_in event_in may_pass may_go_on seat script es
    × gave (map Ok es ++ Err refusal.BookFull ∷ [])
IsWhy {A} seat_in event_in gave may_stop may_pass may_go_on seat script Memory =
    (es : List (Entry A)) × AreLetOn seat_in event_in may_pass may_go_on seat script es
    × (gave (map Ok es) ⊎ gave (map Ok es ++ Err refusal.Memory ∷ []))

-- the desk got the first events of a script, in order, and no others
abbrev pub IsStopped : {A D : Type 0} → (Entry A → ℕ) → (Entry A → Event A) → (List (Entry A) → D → Type 0) → ℕ
    → List (Event A) → D → Type 0
IsStopped {A} seat_in event_in answered seat script desk =
    (k : ℕ) × (es : List (Entry A)) × IsHandedIn seat_in event_in seat (take k script) es × answered es desk

-- the entry that some book of the model adds for the event; the book with the entry is a run
abbrev pub IsOfSomeRun : {A : Type 0} → Parts A → ℕ → Event A → Entry A → Type 0
IsOfSomeRun {A} m seat event e = (b : Entries A) × (b.model ≡ m) × (e ≡ entry_of b seat event) × IsRun (entered b e)

-- a share of the ledger after these entries: it has as many parts as before, and has counted the entries
pub record Counts {A : Type 0} (parts amount : ℕ) (es : List (Entry A)) (parts_then amount_then : ℕ) : Type 0 where
  pub cut : parts_then ≡ parts
  pub counted : amount_then ≡ amount + length es

-- the entries among a desk's answers
abbrev pub entries_in : {A : Type 0} → List (Result (Entry A) TakeError) → List (Entry A)
entries_in [] = []
entries_in (Ok e ∷ answers) = e ∷ entries_in answers
entries_in (Err _ ∷ answers) = entries_in answers

-- a desk with this book gives these answers, which lead to that book: each entry is added, an error changes nothing, and the
-- book is full where the answer is `BookFull`
abbrev pub Gives : {A : Type 0} → Entries A → List (Result (Entry A) TakeError) → Entries A → Type 0
Gives b [] c = c ≡ b
Gives b (Ok e ∷ answers) c = Gives (entered b e) answers c
Gives b (Err refusal.BookFull ∷ answers) c = (length b.entries ≡ MOST_EVENTS) × Gives b answers c
Gives b (Err refusal.Memory ∷ answers) c = Gives b answers c
