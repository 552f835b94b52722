-- Why an event is refused: the rule that it breaks with the number that the rule names, and further facts.
use Rattle.std.specs.Prelude.{◌≡◌, ⊤, ◌⊎◌, ℕ, true, false, length, Some, None}
use Rattle.std.specs.List.{list_any}
use Rattle.acta_table.specs.declared.answer.Refusal.{Refusal}
use Rattle.acta_table.specs.declared.answer.Rule.TheVariants as rule
use Rattle.acta_table.specs.declared.answer.Status.{Status}
use Rattle.acta_table.specs.declared.answer.Status.TheVariants.{InProgress, Committed, Aborted, Joined}
use Rattle.acta_table.specs.declared.event.Event.{Event}
use Rattle.acta_table.specs.declared.event.Event.TheVariants as event
use Rattle.acta_table.specs.declared.event.TxnId.{TxnId}
use Rattle.acta_table.specs.declared.event.EventKind.TheVariants.{Form as form_kind}
use Rattle.acta_table.specs.declared.model.Parts.{Parts}
use Rattle.acta_table.specs.Classes.{can_do}
use Rattle.acta_table.specs.Events.{acting, class_named, kind_of}
use Rattle.acta_deps.specs.declared.block.Block.TheVariants.{Edge as by_edge, Clash as by_clash}
use Rattle.acta_deps.specs.Blocks.{refusal_of as refusal_by, IsBlockingEdge, IsClash}
use Rattle.acta_deps.specs.Statuses.{with_status, has_begun}
use Rattle.acta_objects.specs.FormFaults.{refusal_of as refusal_for, IsNamed}
use Rattle.acta_sets.specs.Operations.{operation_at}
use Rattle.acta_machine.specs.Rules.{class_may, txn_may}
use Rattle.acta_machine.specs.Summary.{Summary}
use Rattle.acta_machine.specs.declared.reason.Lack.{Lack}
use Rattle.acta_machine.specs.declared.reason.Lack.TheVariants.{Start, Doing, Forming}
use Rattle.acta_machine.specs.declared.reason.NumberedOp.{NumberedOp}
use Rattle.acta_machine.specs.declared.reason.Reason.{Reason}
use Rattle.acta_machine.specs.declared.reason.Reason.TheVariants.{Full, Form, NotInProgress, AlreadyBegun, NotInModel, PartnerNotInProgress, NotResponsible, PartialDelegation, BadSet, Conflict, FormTooLate, EdgesFull, Blocked, Clash, NoHeir}

-- the broken rule, with the number that the rule names
abbrev pub refusal_of : Reason → Refusal
refusal_of Full = record { rule = rule.Full; by = None }
refusal_of (Form fault) = refusal_for fault
refusal_of (NotInProgress t status) = record { rule = rule.NotInProgress; by = Some t.0 }
refusal_of (AlreadyBegun t status) = record { rule = rule.AlreadyBegun; by = Some t.0 }
refusal_of (NotInModel lack) = record { rule = rule.NotInModel; by = None }
refusal_of (PartnerNotInProgress t status) = record { rule = rule.PartnerNotInProgress; by = Some t.0 }
refusal_of (NotResponsible op) = record { rule = rule.NotResponsible; by = Some op.number.0 }
refusal_of (PartialDelegation op) = record { rule = rule.PartialDelegation; by = Some op.number.0 }
refusal_of (BadSet n count) = record { rule = rule.BadSet; by = Some n.0 }
refusal_of (Conflict op) = record { rule = rule.Conflict; by = Some op.number.0 }
refusal_of (FormTooLate t status) = record { rule = rule.FormTooLate; by = Some t.0 }
refusal_of EdgesFull = record { rule = rule.EdgesFull; by = None }
refusal_of (Blocked blocking_edge) = refusal_by (by_edge blocking_edge)
refusal_of (Clash clash) = refusal_by (by_clash clash)
refusal_of (NoHeir p status) = record { rule = rule.NoHeir; by = Some p.0 }

-- the statuses once the event has started or ended its transaction
abbrev pub statuses_after : {A : Type 0} → (ℕ → Status) → Event A → ℕ → Status
statuses_after status (event.Begin t class) = with_status status t.0 InProgress
statuses_after status (event.Spawn t c class) = with_status status c.0 InProgress
statuses_after status (event.Split t u class ops) = with_status status u.0 InProgress
statuses_after status (event.Join t u) = with_status status t.0 Joined
statuses_after status (event.Commit t) = with_status status t.0 Committed
statuses_after status (event.Abort t) = with_status status t.0 Aborted
statuses_after status _ = status

-- the event depends on t's class: t does it, or it forms an edge of t or on t, and t has begun
abbrev pub Asks : {A : Type 0} → Summary → Event A → TxnId → Type 0
Asks s (event.Form kind j i) t = ((t ≡ j) ⊎ (t ≡ i)) × (has_begun (s.status t.0) ≡ true)
Asks s e t = acting e ≡ Some t.0

-- the classes lack this permission for the event
abbrev pub IsLack : {A : Type 0} → Parts A → Summary → Event A → Lack → Type 0
IsLack m s e (Start class kind) =
    (class_named e ≡ Some class.0) × (kind ≡ kind_of e) × (class_may m class.0 kind ≡ false)
IsLack m s e (Doing t class kind) =
    Asks s e t × (class ≡ s.class t.0) × (kind ≡ kind_of e) × (txn_may m s t.0 kind ≡ false)
IsLack m s e Forming = list_any (can_do form_kind) m.classes ≡ false

-- the operation with this number is this one, with its holder and its fate
abbrev pub IsOperation : Summary → NumberedOp → Type 0
IsOperation s op = operation_at s.operations op.number.0 ≡ Some op.held

-- the further facts of the reason are true
abbrev pub IsSo : {A : Type 0} → Parts A → Summary → Event A → Reason → Type 0
IsSo m s e Full = ⊤
IsSo m s e (Form fault) = IsNamed e fault
IsSo m s e (NotInProgress t status) = status ≡ s.status t.0
IsSo m s e (AlreadyBegun t status) = status ≡ s.status t.0
IsSo m s e (NotInModel lack) = IsLack m s e lack
IsSo m s e (PartnerNotInProgress t status) = status ≡ s.status t.0
IsSo m s e (NotResponsible op) = IsOperation s op
IsSo m s e (PartialDelegation op) = IsOperation s op
IsSo m s e (BadSet n count) = count ≡ length s.operations
IsSo m s e (Conflict op) = IsOperation s op
IsSo m s e (FormTooLate t status) = status ≡ s.status t.0
IsSo m s e EdgesFull = ⊤
IsSo m s e (Blocked blocking_edge) = IsBlockingEdge s.status s.edges blocking_edge
IsSo m s e (Clash clash) = IsClash (statuses_after s.status e) s.edges clash
IsSo m s e (NoHeir p status) = status ≡ s.status p.0
