-- The effect of an admitted event on the summary.
use Rattle.std.specs.Prelude.{List, [], ◌∷◌, Option, Some, None}
use Rattle.std.specs.Option.{option_map_or}
use Rattle.acta_table.specs.declared.event.TxnId.{TxnId}
use Rattle.acta_table.specs.declared.event.ClassId.{ClassId}
use Rattle.acta_table.specs.declared.event.Event.{Event}
use Rattle.acta_table.specs.declared.event.Event.TheVariants.{Begin, Spawn, Split, Join, Delegate, Form, Operate, Commit, Abort, Permit}
use Rattle.acta_table.specs.declared.event.Kept.{Kept}
use Rattle.acta_table.specs.declared.dep.Edge.{Edge}
use Rattle.acta_table.specs.declared.model.Parts.{Parts}
use Rattle.acta_table.specs.declared.answer.Status.TheVariants.{InProgress, Committed as has_committed, Aborted as has_aborted, Joined as has_joined}
use Rattle.acta_table.specs.declared.answer.Fate.TheVariants.{Committed, Aborted}
use Rattle.acta_table.specs.Classes.{class_at}
use Rattle.acta_table.specs.Starts.{edges_between}
use Rattle.acta_machine.specs.Summary.{Summary, nothing_yet, stood, terminated, permit_given, entered, linked, given, inherited, operated, fated, counted}
use Rattle.acta_machine.specs.Families.{heir_of}
use Rattle.acta_machine.specs.Conflicts.{conflict_edges}

-- t begins, with this class and this parent
abbrev pub begun : Summary → TxnId → ClassId → Option TxnId → Summary
begun s t class parent = entered (stood s t InProgress) t (Some class) parent

-- t's operations in progress are transferred to the heir, or committed if there is none
abbrev pub settled : Summary → TxnId → Option TxnId → Summary
settled s t None = fated s t Committed
settled s t (Some heir) = inherited s t heir

-- the edges that the event forms, in order
abbrev pub edges_due : {A : Type 0} → Parts A → Summary → Event A → List Edge
edges_due m s (Spawn t c class) =
    option_map_or (λ k. edges_between t c k.spawn_edges) (class_at m class.0) []
edges_due m s (Split t u class ops) =
    option_map_or (λ k. edges_between t u k.split_edges) (class_at m class.0) []
edges_due m s (Form kind j i) = (record { kind = kind; j = j; i = i }) ∷ []
edges_due m s (Operate t ob op) = conflict_edges m s t ob op
edges_due m s _ = []

-- the event's effect on transactions, permits and operations
abbrev pub changed : {A : Type 0} → Parts A → Summary → Event A → Summary
changed m s (Begin t class) = begun s t class None
changed m s (Spawn t c class) = begun s c class (Some t)
changed m s (Split t u class ops) = given (begun s u class None) ops u
changed m s (Join t u) = inherited (terminated s t has_joined) t u
changed m s (Delegate t u ops) = given s ops u
changed m s (Form kind j i) = s
changed m s (Operate t ob op) = operated s t ob op
changed m s (Commit t) = settled (terminated s t has_committed) t (heir_of m s t.0)
changed m s (Abort t) = fated (terminated s t has_aborted) t Aborted
changed m s (Permit t u ob) = permit_given s t u ob

-- the whole effect: new edges, the change, and one more event
abbrev pub effect : {A : Type 0} → Parts A → Summary → Event A → Summary
effect m s event = counted (changed m (linked s (edges_due m s event)) event)

-- the summary after a history, starting from a summary
abbrev pub summary_from : {A : Type 0} → Parts A → Summary → List (Kept A) → Summary
summary_from m s [] = s
summary_from m s (k ∷ ks) = summary_from m (effect m s k.event) ks

-- the summary after a history
unfoldable pub summary_of : {A : Type 0} → Parts A → List (Kept A) → Summary
summary_of m history = summary_from m nothing_yet history
