-- The lists that a search for a deadlock keeps.
use Rattle.std.specs.Prelude.{◌≡◌, ℕ, ◌+◌, ◌<◌, Bool, true, ◌&&◌, ◌==◌, List, length, get_or}
use Rattle.std.specs.List.{All, list_any}
use Rattle.acta_explore.specs.declared.circle.Link.{Link}
use Rattle.acta_explore.specs.declared.circle.SeatWait.{SeatWait}
use Rattle.acta_explore.specs.Deadlocks.{SeatWaits, WaitsForSeat}
use Rattle.acta_explore.specs.Points.{Point}
use Rattle.acta_explore.specs.Programs.{Programs}

-- each wait in the list exists at the point
abbrev pub AreWaits : {A : Type 0} → Programs A → Point A → List SeatWait → Type 0
AreWaits programs p waits = All (λ w. SeatWaits programs p w.seat w.line w.txn) waits

abbrev pub AreLinks : {A : Type 0} → Programs A → Point A → List Link → Type 0
AreLinks programs p links = All (λ link. WaitsForSeat programs p link.seat link.next) links

-- whether there is a link from the first seat to the second
abbrev pub is_linked : List Link → ℕ → ℕ → Bool
is_linked links seat next = list_any (λ link. (link.seat == seat) && (link.next == next)) links

-- there is a link from each seat to the next
abbrev pub IsChain : List Link → List ℕ → Type 0
IsChain links chain = (k : ℕ) → k + 1 < length chain → is_linked links (get_or chain k 0) (get_or chain (k + 1) 0) ≡ true
