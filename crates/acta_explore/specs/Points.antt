-- The points that programs can reach, and the steps between them.
use Rattle.std.specs.Prelude.{◌≡◌, ℕ, List, [], ◌∷◌, ◌++◌, map, if◌then◌else◌, Option, Some, None, is_none, option_and_then}
use Rattle.acta_table.specs.declared.event.Event.{Event}
use Rattle.acta_table.specs.declared.model.Parts.{Parts}
use Rattle.acta_machine.specs.Table.{State, fresh, kept_as, refusal_in, after}
use Rattle.acta_explore.specs.declared.point.Step.{Step}
use Rattle.acta_explore.specs.declared.point.Turn.{Turn}
use Rattle.acta_explore.specs.Programs.{Programs, next_line, event_at}

-- the steps taken, in order, and the machine after them
pub record Point (A : Type 0) : Type 0 where
  pub steps : List Step
  pub state : State A

-- the point before any step
abbrev pub start : {A : Type 0} → Parts A → Point A
start m = record { steps = []; state = fresh m }

-- the point after an event of the line at position l that is admitted
abbrev pub gone_on : {A : Type 0} → Point A → Turn → ℕ → Event A → Point A
gone_on p turn l e = record {
  steps = p.steps ++ (record { seat = turn.seat; line = l; alternative = turn.alternative; ret = (kept_as p.state e).ret }) ∷ [];
  state = after p.state e;
}

-- the same, if the event is admitted; otherwise the seat waits
abbrev pub tried : {A : Type 0} → Point A → Turn → ℕ → Event A → Option (Point A)
tried p turn l e = if is_none (refusal_in p.state e) then Some (gone_on p turn l e) else None

-- a step: the alternative of the seat's next line, if there is one and it is admitted
unfoldable pub stepped : {A : Type 0} → Programs A → Point A → Turn → Option (Point A)
stepped programs p turn =
    option_and_then (λ l. option_and_then (tried p turn l) (event_at programs p.steps l turn.alternative)) (next_line programs p.steps turn.seat)

-- the steps of an order, one turn after another
abbrev pub played : {A : Type 0} → Programs A → Point A → List Turn → Option (Point A)
played programs p [] = Some p
played programs p (turn ∷ turns) = option_and_then (λ q. played programs q turns) (stepped programs p turn)

-- the turn of a step
abbrev pub turn_of : Step → Turn
turn_of s = record { seat = s.seat; alternative = s.alternative }

-- the order in which the point was reached
abbrev pub order_of : {A : Type 0} → Point A → List Turn
order_of p = map turn_of p.steps

-- no seat has a step: each program is done, or waits for ever
abbrev pub IsEnd : {A : Type 0} → Programs A → Point A → Type 0
IsEnd programs p = (turn : Turn) → stepped programs p turn ≡ None

-- the turns of the point's order after those of the root lead from the root to it
pub record IsReached {A : Type 0} (programs : Programs A) (root p : Point A) : Type 0 where
  pub turns : List Turn
  pub own : order_of p ≡ order_of root ++ turns
  pub leads : played programs root turns ≡ Some p

-- the same, and it is an end
pub record IsEndReached {A : Type 0} (programs : Programs A) (root p : Point A) : Type 0 where
  pub reached : IsReached programs root p
  pub ended : IsEnd programs p
