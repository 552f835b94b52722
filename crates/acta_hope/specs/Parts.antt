-- The hope for each kind of reason: definitions for internal contracts.
use Rattle.std.specs.Prelude.{◌≡◌, ◌⊎◌, ◌||◌, ◌&&◌, not, ◌==◌, nat_lt, ℕ, Bool, true, false, None, Some}
use Rattle.acta_table.specs.declared.answer.Status.{Status}
use Rattle.acta_table.specs.declared.answer.Status.TheVariants.{InProgress}
use Rattle.acta_table.specs.declared.event.EventKind.TheVariants as kind
use Rattle.acta_table.specs.declared.event.Event.{Event}
use Rattle.acta_table.specs.declared.event.Event.TheVariants.{Operate}
use Rattle.acta_table.specs.declared.model.Parts.{Parts}
use Rattle.acta_table.specs.Classes.{exempts}
use Rattle.acta_table.specs.declared.event.OpNo.{OpNo}
use Rattle.acta_table.specs.declared.event.TxnId.{TxnId}
use Rattle.acta_table.specs.declared.limits.TheConstants.{MOST_EVENTS}
use Rattle.acta_table.specs.Events.{acting}
use Rattle.acta_table.specs.declared.answer.Rule.{Rule}
use Rattle.acta_table.specs.declared.answer.Rule.TheVariants.{BeginDep, SerialDep, BeginOnCommit, BeginOnAbort, TerminationDep, OwesAbort, OwesCommit, CommitOrder, WeakBegin, Unpayable}
use Rattle.acta_table.specs.declared.dep.Dep.{Dep}
use Rattle.acta_table.specs.declared.dep.Dep.TheVariants.{Wd}
use Rattle.acta_deps.specs.declared.block.BlockingEdge.{BlockingEdge}
use Rattle.acta_deps.specs.declared.block.Clash.{Clash}
use Rattle.acta_deps.specs.Statuses.{has_begun, has_ended}
use Rattle.acta_machine.specs.Families.{has_class}
use Rattle.acta_machine.specs.Rules.{txn_may}
use Rattle.acta_machine.specs.Summary.{Summary}
use Rattle.acta_machine.specs.declared.reason.NumberedOp.{NumberedOp}
use Rattle.acta_hope.specs.Hopes.{is_operate}
use Rattle.acta_hope.specs.declared.hoping.Hope.{Hope}
use Rattle.acta_hope.specs.declared.hoping.Hope.TheVariants.{Never, OnceBegun, OnceHeld, OnceDecided, OnceCommitted, OnceAborted, OnceFree, OnceReleased, OnceFewer, Unknown}

-- the hope if t has to be in progress: `Never` only if t has ended, otherwise `OnceBegun`, or `Unknown` while t is in
-- progress
abbrev pub IsOfBegun : TxnId → Status → Hope → Type 0
IsOfBegun t status Never = has_ended status ≡ true
IsOfBegun t status (OnceBegun u) = u ≡ t
IsOfBegun t status Unknown = status ≡ InProgress
IsOfBegun t status _ = ⊥

-- the hope if the acting transaction has to hold the operation
abbrev pub IsOfHeld : {A : Type 0} → Event A → OpNo → Hope → Type 0
IsOfHeld e n (OnceHeld t k) = (k ≡ n) × (acting e ≡ Some t.0)
IsOfHeld e n Unknown = acting e ≡ None
IsOfHeld e n _ = ⊥

-- the hope if the acting transaction may not hold the operation
abbrev pub IsOfLeftOut : {A : Type 0} → Event A → OpNo → Hope → Type 0
IsOfLeftOut e n (OnceReleased t k) = (k ≡ n) × (acting e ≡ Some t.0)
IsOfLeftOut e n Unknown = acting e ≡ None
IsOfLeftOut e n _ = ⊥

-- whether an edge between transactions with these statuses blocks by the rule for good
abbrev pub blocks_for_good : Rule → Status → Status → Bool
blocks_for_good SerialDep j i = has_ended i
blocks_for_good BeginOnCommit j i = has_ended i
blocks_for_good BeginOnAbort j i = has_ended i
blocks_for_good TerminationDep j i = has_ended i
blocks_for_good OwesAbort j i = has_ended i
blocks_for_good OwesCommit j i = has_ended i
blocks_for_good CommitOrder j i = has_ended j
blocks_for_good Unpayable j i = has_ended j
blocks_for_good WeakBegin j i = true
blocks_for_good _ j i = false

-- whether the hope may be `Unknown` if an edge between transactions with these statuses blocks by the rule
abbrev pub may_be_unreported : Rule → Status → Status → Bool
may_be_unreported BeginDep j i = false
may_be_unreported SerialDep j i = false
may_be_unreported BeginOnCommit j i = false
may_be_unreported BeginOnAbort j i = false
may_be_unreported TerminationDep j i = false
may_be_unreported WeakBegin j i = false
may_be_unreported OwesAbort j i = not (has_ended i)
may_be_unreported OwesCommit j i = not (has_ended i)
may_be_unreported CommitOrder j i = not (has_ended j)
may_be_unreported Unpayable j i = not (has_ended j)
may_be_unreported _ j i = true

-- the hope if an edge blocks: `Never`, or a condition on the transaction on which the edge depends
abbrev pub IsOfBlockingEdge : BlockingEdge → Hope → Type 0
IsOfBlockingEdge b Never = blocks_for_good b.rule b.j b.i ≡ true
IsOfBlockingEdge b (OnceBegun t) = (b.rule ≡ BeginDep) × (t ≡ b.by.edge.i)
IsOfBlockingEdge b (OnceDecided t) = ((b.rule ≡ SerialDep) ⊎ (b.rule ≡ TerminationDep)) × (t ≡ b.by.edge.i)
IsOfBlockingEdge b (OnceCommitted t) = (b.rule ≡ BeginOnCommit) × (t ≡ b.by.edge.i)
IsOfBlockingEdge b (OnceAborted t) = (b.rule ≡ BeginOnAbort) × (t ≡ b.by.edge.i)
IsOfBlockingEdge b Unknown = may_be_unreported b.rule b.j b.i ≡ true
IsOfBlockingEdge b _ = ⊥

-- whether the kind is the weak-abort dependency, by which a committed transaction owes nothing
abbrev pub is_wd : Dep → Bool
is_wd Wd = true
is_wd _ = false

-- whether it would help if the transaction that would owe both committed; i is the status of the other transaction of the
-- abort's edge
abbrev pub is_helped : Clash → Status → Bool
is_helped c i = is_wd c.abort.edge.kind && not (has_ended i)

-- the hope if a transaction would owe both a commit and an abort: `Never`, unless its commit helps
abbrev pub IsOfClash : Clash → Status → Hope → Type 0
IsOfClash c i Never = is_helped c i ≡ false
IsOfClash c i (OnceCommitted t) = (is_helped c i ≡ true) × (t ≡ c.commit.edge.j)
IsOfClash c i _ = ⊥

-- whether no history can have an operation of this number
abbrev pub is_no_operation : ℕ → Bool
is_no_operation n = (n == 0) || nat_lt MOST_EVENTS n

-- the hope if there would be too many edges: `Never`, except for an operation
abbrev pub IsOfEdges : {A : Type 0} → Event A → Hope → Type 0
IsOfEdges e Never = is_operate e ≡ false
IsOfEdges e OnceFewer = is_operate e ≡ true
IsOfEdges e _ = ⊥

-- whether h has begun, and its class allows no event by which it gives up operations or permits others to work on their
-- objects
abbrev pub holds_on : {A : Type 0} → Parts A → Summary → ℕ → Bool
holds_on m s h =
    has_begun (s.status h)
    && not (txn_may m s h kind.Commit) && not (txn_may m s h kind.Abort) && not (txn_may m s h kind.Join)
    && not (txn_may m s h kind.Delegate) && not (txn_may m s h kind.Split) && not (txn_may m s h kind.Permit)

-- whether the class of t exempts none of its ancestors
abbrev pub exempts_none : {A : Type 0} → Parts A → Summary → ℕ → Bool
exempts_none m s t = not (has_class (λ k. exempts k.scope) m s t)

-- whether an operation that blocks the event does so for good: its holder can't give it up, and the acting class exempts
-- nobody
abbrev pub is_held_on : {A : Type 0} → Parts A → Summary → Event A → ℕ → Bool
is_held_on m s (Operate t ob op) h = exempts_none m s t.0 && holds_on m s h
is_held_on m s _ h = false

-- the hope if an operation blocks: `Never` if it does so for good
abbrev pub IsOfConflict : {A : Type 0} → Parts A → Summary → Event A → NumberedOp → Hope → Type 0
IsOfConflict m s e op Never = is_held_on m s e op.held.holder.0 ≡ true
IsOfConflict m s e op (OnceFree k) = (is_held_on m s e op.held.holder.0 ≡ false) × (k ≡ op.number)
IsOfConflict m s e op _ = ⊥
