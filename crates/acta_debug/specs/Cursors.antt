-- What a cursor is seen as.
use Rattle.std.specs.Prelude.{ℕ}
use Rattle.acta_debug.specs.Sessions.{Session}

-- a debugger that has moved, and the place of its machine, which may not have followed yet
pub record CursorState (A : Type 0) : Type 0 where
  pub session : Session A
  pub reached : ℕ

-- the machine is where the debugger is
abbrev pub arrived : {A : Type 0} → Session A → CursorState A
arrived s = record { session = s; reached = s.at }

-- the debugger has changed, and its machine has not followed
abbrev pub moving : {A : Type 0} → CursorState A → Session A → CursorState A
moving c s = record c { session = s }
