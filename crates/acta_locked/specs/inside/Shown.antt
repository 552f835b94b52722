-- The machine that a book determines.
use Rattle.std.specs.Prelude.{◌≡◌}
use Rattle.acta_machine.specs.Places.{FollowsPlaces}
use Rattle.acta_machine.specs.Table.{State}
use Rattle.acta_locked.specs.Books.{Entries, IsRun, state_of}

-- the entries are a run, and this is the machine after them
pub record IsMachineOf {A : Type 0} (state : State A) (b : Entries A) : Type 0 where
  pub run : IsRun b
  pub shows : state ≡ state_of b
  pub follows : FollowsPlaces state
