-- The moves of a debugger with their errors, and changes of its breaks.
use Rattle.std.specs.Prelude.{ℕ, ◌+◌, ◌-◌, ◌==◌, nat_lt, nat_le, [], ◌∷◌, ◌++◌, length, if◌then◌else◌}
use Rattle.std.specs.Prelude.{Result, Ok, Err}
use Rattle.acta_table.specs.declared.event.Event.{Event}
use Rattle.acta_machine.specs.Table.{State, after}
use Rattle.acta_debug.specs.declared.breaks.Break.{Break}
use Rattle.acta_debug.specs.declared.errors.MoveError.{MoveError}
use Rattle.acta_debug.specs.declared.errors.MoveError.TheVariants.{AtEnd, AtStart, OutOfRange}
use Rattle.acta_debug.specs.Histories.{state_at}
use Rattle.acta_debug.specs.Sessions.{Session, moved_to}

-- one event forward
abbrev pub stepped : {A : Type 0} → Session A → Result (Session A) MoveError
stepped s = if nat_lt s.at (length s.history) then Ok (moved_to s (s.at + 1)) else Err AtEnd

-- one event back
abbrev pub stepped_back : {A : Type 0} → Session A → Result (Session A) MoveError
stepped_back s = if s.at == 0 then Err AtStart else Ok (moved_to s (s.at - 1))

-- to the place after n events
abbrev pub gone_to : {A : Type 0} → Session A → ℕ → Result (Session A) MoveError
gone_to s n = if nat_le n (length s.history) then Ok (moved_to s n) else Err OutOfRange

-- the debugger after the last event of the machine, which has taken an event; unchanged if the machine refused the
-- event
abbrev pub behind : {A : Type 0} → Session A → State A → Session A
behind s state =
    if length state.kept == s.at then s
    else record s { history = state.kept; at = length state.kept }

-- the debugger after the machine at its place has taken an event
abbrev pub taken : {A : Type 0} → Session A → Event A → Session A
taken s event = behind s (after (state_at s.model s.history s.at) event)

-- one more break, numbered by how many there are then
abbrev pub with_break : {A : Type 0} → Session A → Break → Session A
with_break s b = record s { breaks = s.breaks ++ b ∷ [] }

-- no breaks
abbrev pub without_breaks : {A : Type 0} → Session A → Session A
without_breaks s = record s { breaks = [] }
