-- A stretch of a session.
use Rattle.std.specs.Prelude.{◌≡◌, ℕ, Bool, false, List}
use Rattle.acta_session.specs.Dialogues.{Act, Cut, Moment, Shows, AreInTurn, after_acts}
use Rattle.acta_session.specs.Shells.{ShellState}

-- the moment at which the lines of a cut are due
abbrev pub at_front : {A : Type 0} → ShellState A → Cut → Moment A
at_front s c = record { session = s; due = c.lines; front = c.front; is_over = false }

-- acts since this moment, each in turn, after which the state is given
pub record HasTalked {A C : Type 0} (shows : Shows A) (since : List Act → C → Type 0) (console : C) (old : Moment A)
    (session : ShellState A) (due : List (List ℕ)) (front : List ℕ) (is_over : Bool) : Type 0 where
  pub acts : List Act
  pub happened : since acts console
  pub in_turn : AreInTurn shows old acts
  pub last : after_acts old acts ≡ record { session = session; due = due; front = front; is_over = is_over }
