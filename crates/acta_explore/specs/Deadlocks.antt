-- Seats that wait for each other.
use Rattle.std.specs.Prelude.{◌≡◌, ℕ, ◌+◌, ◌-◌, ◌<◌, ◌≤◌, Bool, true, false, ◌&&◌, ◌==◌, List, drop, length, get_or, if◌then◌else◌, Option, Some, None, is_none}
use Rattle.std.specs.List.{list_any, zip}
use Rattle.std.specs.Option.{option_map_or}
use Rattle.acta_table.specs.declared.answer.Rule.{Rule}
use Rattle.acta_table.specs.declared.answer.Rule.TheVariants.{BeginDep, SerialDep, BeginOnCommit, BeginOnAbort, TerminationDep}
use Rattle.acta_table.specs.declared.event.Event.{Event}
use Rattle.acta_table.specs.declared.event.TxnId.{TxnId}
use Rattle.acta_table.specs.Events.{acting, started}
use Rattle.acta_deps.specs.Statuses.{is_new, may_end}
use Rattle.acta_script.specs.declared.programs.ProgramLine.{ProgramLine}
use Rattle.acta_machine.specs.Changes.{summary_of}
use Rattle.acta_machine.specs.Reasons.{refusal_of, IsSo}
use Rattle.acta_machine.specs.Table.{refusal_in, status_in}
use Rattle.acta_machine.specs.declared.reason.Reason.{Reason}
use Rattle.acta_machine.specs.declared.reason.Reason.TheVariants.{NotInProgress, PartnerNotInProgress, Conflict, Blocked}
use Rattle.acta_explore.specs.declared.point.Done.{Done}
use Rattle.acta_explore.specs.Points.{Point}
use Rattle.acta_explore.specs.Programs.{Programs, lines_done, next_line, event_at}

-- whether the rule blocks the j of an edge only until the i begins, commits or aborts; the other rules on dependencies block
-- for good
abbrev pub bars_until : Rule → Bool
bars_until BeginDep = true
bars_until SerialDep = true
bars_until BeginOnCommit = true
bars_until BeginOnAbort = true
bars_until TerminationDep = true
bars_until _ = false

-- the transaction for which an event waits that is refused for this reason: one that has not begun, the holder of the
-- conflicting operation, or the i of an edge that blocks the j until i begins or ends, while i may still commit or abort
abbrev pub waited_for : Reason → Option TxnId
waited_for (NotInProgress t status) = if is_new status then Some t else None
waited_for (PartnerNotInProgress t status) = if is_new status then Some t else None
waited_for (Conflict op) = Some op.held.holder
waited_for (Blocked b) = if bars_until b.rule && may_end b.i then Some b.by.edge.i else None
waited_for _ = None

-- the event is refused, and waits for t
pub record EventWaits {A : Type 0} (p : Point A) (e : Event A) (t : TxnId) : Type 0 where
  pub reason : Reason
  pub refused : refusal_in p.state e ≡ Some (refusal_of reason)
  pub so : IsSo p.state.model (summary_of p.state.model p.state.kept) e reason
  pub waits : waited_for reason ≡ Some t

-- an alternative, from 0, of the line at position l waits for t
pub record AlternativeWaits {A : Type 0} (programs : Programs A) (p : Point A) (l alternative : ℕ) (t : TxnId) : Type 0 where
  pub event : Event A
  pub is_event : event_at programs p.steps l alternative ≡ Some event
  pub waits : EventWaits p event t

-- the seat's next line is at this position, and one of its alternatives waits for t
pub record SeatWaits {A : Type 0} (programs : Programs A) (p : Point A) (seat line : ℕ) (t : TxnId) : Type 0 where
  pub is_next : next_line programs p.steps seat ≡ Some line
  pub alternative : ℕ
  pub waits : AlternativeWaits programs p line alternative t

-- whether the transaction found is this one
abbrev pub is_txn : Option ℕ → ℕ → Bool
is_txn found t = option_map_or (λ u. u == t) found false

-- whether the event advances t: starts it if it is new, otherwise is done by it
abbrev pub moves : Bool → ℕ → {A : Type 0} → Event A → Bool
moves true t e = is_txn (started e) t
moves false t e = is_txn (acting e) t

-- whether the line is one of the seat, not yet done, with an alternative that advances t
abbrev pub is_left : {A : Type 0} → Bool → ℕ → ℕ → ProgramLine A × Option Done → Bool
is_left new seat t (line, done) = (line.seat == seat) && (is_none done && list_any (moves new t) line.alternatives)

-- whether the seat has a line, from this position on and not yet done, with an alternative that advances t
abbrev pub has_left : {A : Type 0} → Programs A → Point A → ℕ → ℕ → ℕ → Bool
has_left programs p first seat t =
    list_any (is_left (is_new (status_in p.state t)) seat t) (zip (drop first programs) (drop first (lines_done programs p.steps)))

-- the first position of the lines of seat u for which seat s, at the line at position l, can wait: of its own, the later
-- ones
abbrev pub first_for : ℕ → ℕ → ℕ → ℕ
first_for s l u = if s == u then l + 1 else 0

-- seat s waits for seat u: for a transaction that a line which u has not done advances
pub record WaitsForSeat {A : Type 0} (programs : Programs A) (p : Point A) (s u : ℕ) : Type 0 where
  pub line : ℕ
  pub txn : TxnId
  pub waits : SeatWaits programs p s line txn
  pub left : has_left programs p (first_for s line u) u txn.0 ≡ true

-- a chain of seats, each of which waits for the next; the last is the first again
pub record IsCycle {A : Type 0} (programs : Programs A) (p : Point A) (chain : List ℕ) : Type 0 where
  pub long : 2 ≤ length chain
  pub waits : (k : ℕ) → k + 1 < length chain → WaitsForSeat programs p (get_or chain k 0) (get_or chain (k + 1) 0)
  pub closed : get_or chain (length chain - 1) 0 ≡ get_or chain 0 0

-- the chain begins with the seat
abbrev pub BeginsWith : ℕ → List ℕ → Type 0
BeginsWith seat chain = get_or chain 0 0 ≡ seat
