-- The rules on dependencies refuse exactly the events that would make the history illegal: as a whole, edge by edge,
-- and for clashing debts.
use Rattle.std.specs.Prelude.{◌≡◌, ℕ, Bool, false, ◌&&◌, ◌||◌, not, nat_le, List, [], ◌∷◌, ◌++◌, None, map}
use Rattle.std.specs.List.{list_any}
use Rattle.acta_table.specs.declared.answer.Answer.{Answer}
use Rattle.acta_table.specs.declared.answer.Answer.TheVariants.{Refused}
use Rattle.acta_table.specs.declared.answer.Rule.{Rule}
use Rattle.acta_table.specs.declared.answer.Status.{Status}
use Rattle.acta_table.specs.declared.answer.Status.TheVariants.{InProgress, Committed, Aborted}
use Rattle.acta_table.specs.declared.dep.Edge.{Edge}
use Rattle.acta_table.specs.declared.event.Event.{Event}
use Rattle.acta_table.specs.declared.event.Event.TheVariants.{Begin, Spawn, Split, Join, Commit, Abort}
use Rattle.acta_table.specs.declared.event.Kept.{Kept}
use Rattle.acta_table.specs.Numbers.{rule_number}
use Rattle.acta_axioms.specs.Edges.{edges}
use Rattle.acta_axioms.specs.Legal.{is_broken_in, has_clash, is_legal}
use Rattle.acta_deps.specs.Statuses.{with_status}
use Rattle.acta_deps.specs.Debts.{owes_commit, owes_abort, clashes_by}
use Rattle.acta_deps.specs.Dependencies.{awaits_begin, awaits_end, awaits_commit, awaits_abort, ends_after, committed_first, began_first, cannot_pay_commit, cannot_pay_abort, depends, is_awaited}
use Rattle.acta_machine.specs.Summary.{Summary}
use Rattle.acta_machine.specs.Changes.{summary_of}
use Rattle.acta_machine.specs.Rules.{earlier_broken}
use Rattle.acta_machine.specs.Table.{State, kept_as, answer_to}

-- the history with the event
abbrev pub kept_with : {A : Type 0} → State A → Event A → List (Kept A)
kept_with state event = state.kept ++ kept_as state event ∷ []

-- whether the rule is on dependencies, from `BeginDep` to `Clash`
abbrev pub is_dependency_rule : Rule → Bool
is_dependency_rule rule = nat_le 17 (rule_number rule) && nat_le (rule_number rule) 27

-- whether the answer is a refusal by a rule on dependencies
abbrev pub is_refused_by_dependency : Answer → Bool
is_refused_by_dependency (Refused rule by) = is_dependency_rule rule
is_refused_by_dependency _ = false

-- an event that breaks none of the earlier rules is refused by a rule on dependencies exactly if the history with it
-- would not be legal
abbrev pub RefusesIllegal : {A : Type 0} → State A → Event A → Type 0
RefusesIllegal state event =
    earlier_broken state.model (summary_of state.model state.kept) event ≡ None
    → is_refused_by_dependency (answer_to state event)
    ≡ not (is_legal state.model (kept_with state event))

-- whether this edge breaks a rule on dependencies if t starts
abbrev pub refuses_start : (ℕ → Status) → ℕ → Edge → Bool
refuses_start status t e =
    depends awaits_begin status t e
    || depends awaits_end status t e
    || depends awaits_commit status t e
    || depends awaits_abort status t e

-- the same if t commits
abbrev pub refuses_commit : (ℕ → Status) → ℕ → Edge → Bool
refuses_commit status t e =
    depends ends_after status t e
    || owes_abort status t e
    || is_awaited committed_first status t e
    || is_awaited began_first status t e
    || is_awaited cannot_pay_commit status t e

-- the same if t aborts
abbrev pub refuses_abort : (ℕ → Status) → ℕ → Edge → Bool
refuses_abort status t e =
    depends ends_after status t e || owes_commit status t e || is_awaited cannot_pay_abort status t e

-- the same if t joins another
abbrev pub refuses_join : (ℕ → Status) → ℕ → Edge → Bool
refuses_join status t e = owes_abort status t e || owes_commit status t e

-- whether this edge breaks a rule on dependencies if the event comes next
abbrev pub edge_refuses : {A : Type 0} → Summary → Event A → Edge → Bool
edge_refuses s (Begin t class) e = refuses_start s.status t.0 e
edge_refuses s (Spawn t c class) e = refuses_start s.status c.0 e
edge_refuses s (Split t u class ops) e = refuses_start s.status u.0 e
edge_refuses s (Join t u) e = refuses_join s.status t.0 e
edge_refuses s (Commit t) e = refuses_commit s.status t.0 e
edge_refuses s (Abort t) e = refuses_abort s.status t.0 e
edge_refuses s _ e = false

-- whether some transaction would owe both a commit and an abort once t has this status
abbrev pub meet_then : (ℕ → Status) → List Edge → ℕ → Status → Bool
meet_then status es t stands = list_any (clashes_by (with_status status t stands) es) es

-- whether the rule Clash is broken if the event comes next
abbrev pub debts_meet : {A : Type 0} → Summary → Event A → Bool
debts_meet s (Begin t class) = meet_then s.status s.edges t.0 InProgress
debts_meet s (Spawn t c class) = meet_then s.status s.edges c.0 InProgress
debts_meet s (Split t u class ops) = meet_then s.status s.edges u.0 InProgress
debts_meet s (Commit t) = meet_then s.status s.edges t.0 Committed
debts_meet s (Abort t) = meet_then s.status s.edges t.0 Aborted
debts_meet s _ = false

-- for an event that breaks none of the earlier rules, each edge in force with it breaks a rule on dependencies exactly
-- if with it the edge's formula would be false and not owed
abbrev pub RefusesByEdge : {A : Type 0} → State A → Event A → Type 0
RefusesByEdge state event =
    earlier_broken state.model (summary_of state.model state.kept) event ≡ None
    → map (edge_refuses (summary_of state.model state.kept) event) (edges state.model (kept_with state event))
    ≡ map (is_broken_in (kept_with state event)) (edges state.model (kept_with state event))

-- and the rule Clash is broken exactly if with the event a transaction would owe both a commit and an abort
abbrev pub RefusesByDebts : {A : Type 0} → State A → Event A → Type 0
RefusesByDebts state event =
    earlier_broken state.model (summary_of state.model state.kept) event ≡ None
    → debts_meet (summary_of state.model state.kept) event ≡ has_clash state.model (kept_with state event)
