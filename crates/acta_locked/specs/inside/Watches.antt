-- The result of a watched run.
use Rattle.std.specs.Prelude.{◌≡◌, ℕ, List, length}
use Rattle.acta_table.specs.declared.event.Event.{Event}
use Rattle.acta_table.specs.declared.model.Parts.{Parts}
use Rattle.acta_locked.specs.declared.book.Entry.{Entry}
use Rattle.acta_locked.specs.declared.watch.Watched.{Watched}
use Rattle.acta_locked.specs.Books.{state_of}
use Rattle.acta_locked.specs.Drives.{EachLetOn, IsDriven}
use Rattle.acta_locked.specs.Fronts.{AreFronts}

-- a driven run whose calls the gate allowed, with this many fronts, of the history of its book
pub record IsWatched {A : Type 0} (may_pass : ℕ → ℕ → Type 0) (may_go_on : ℕ → ℕ → Entry A → Type 0) (m : Parts A)
    (scripts : List (List (Event A))) (turns : ℕ) (w : Watched A) : Type 0 where
  pub driven : IsDriven m scripts w.driven
  pub let_on : EachLetOn may_pass may_go_on w.driven.reports
  pub many : length w.fronts ≡ turns
  pub fronts : AreFronts m (state_of w.driven.book).kept w.fronts
