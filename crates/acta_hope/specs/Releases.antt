-- The ways in which the holder of an operation can release it, so that it no longer blocks an event.
use Rattle.std.specs.Prelude.{◌≡◌, ◌==◌, ◌&&◌, ◌||◌, ℕ, Bool, true, false, List, Some, None}
use Rattle.std.specs.Option.{option_map_or}
use Rattle.acta_table.specs.declared.event.EventKind.TheVariants as kind
use Rattle.acta_table.specs.declared.event.Event.{Event}
use Rattle.acta_table.specs.declared.event.Event.TheVariants as event
use Rattle.acta_table.specs.declared.event.OpNo.{OpNo}
use Rattle.acta_table.specs.declared.event.TxnId.{TxnId}
use Rattle.acta_table.specs.declared.model.Parts.{Parts}
use Rattle.acta_table.specs.Events.{acting}
use Rattle.acta_table.specs.Sets.{is_named}
use Rattle.acta_sets.specs.declared.held_op.HeldOp.{HeldOp}
use Rattle.acta_sets.specs.Operations.{is_among, operation_at}
use Rattle.acta_machine.specs.Changes.{summary_of}
use Rattle.acta_machine.specs.Families.{exempt, heir_of}
use Rattle.acta_machine.specs.Rules.{txn_may}
use Rattle.acta_machine.specs.Summary.{Summary}
use Rattle.acta_machine.specs.Table.{State, after, operations_in, refusal_in}
use Rattle.acta_hope.specs.Hopes.{is_blocking_in}
use Rattle.acta_hope.specs.declared.releases.Release.{Release}
use Rattle.acta_hope.specs.declared.releases.Release.TheVariants.{Commit, Abort, Delegate, Join, Permit}

-- whether operations of u never block t: u is t, or an ancestor that t's class exempts
abbrev pub is_exempt : {A : Type 0} → Parts A → Summary → ℕ → TxnId → Bool
is_exempt m s t u = (u.0 == t) || is_among (exempt m s t) u

-- whether after a commit of h its operations have ended, or their heir is exempt for t
abbrev pub frees_at_commit : {A : Type 0} → Parts A → Summary → ℕ → ℕ → Bool
frees_at_commit m s t h = option_map_or (is_exempt m s t) (heir_of m s h) true

-- whether the class of h allows this release, and the release can help t
abbrev pub may_release : {A : Type 0} → Parts A → Summary → ℕ → ℕ → Release → Bool
may_release m s t h Commit = txn_may m s h kind.Commit && frees_at_commit m s t h
may_release m s t h Abort = txn_may m s h kind.Abort
may_release m s t h Delegate = txn_may m s h kind.Delegate
may_release m s t h Join = txn_may m s h kind.Join
may_release m s t h Permit = txn_may m s h kind.Permit

-- whether the holder of the operation may release it in this way for the acting transaction
abbrev pub may_be_released : {A : Type 0} → State A → Event A → OpNo → Release → Bool
may_be_released state (event.Operate t ob op) n release =
    option_map_or (λ i. may_release state.model (summary_of state.model state.kept) t.0 i.holder.0 release) (operation_at (operations_in state) n.0) false
may_be_released state _ n release = false

-- the event by which the holder of operation n releases it for t
abbrev pub IsRelease : {A : Type 0} → TxnId → OpNo → HeldOp → Release → Event A → Type 0
IsRelease t n i Commit e = e ≡ event.Commit i.holder
IsRelease t n i Abort e = e ≡ event.Abort i.holder
IsRelease t n i Delegate e = (ops : List OpNo) × (is_named ops n.0 ≡ true) × (e ≡ event.Delegate i.holder t ops)
IsRelease t n i Join e = e ≡ event.Join i.holder t
IsRelease t n i Permit e = e ≡ event.Permit i.holder t i.ob

-- right after the holder's release is admitted, the operation no longer blocks the event
abbrev pub IsReleased : {A : Type 0} → State A → Event A → OpNo → Release → Type 0
IsReleased {A} state e n release =
    (t : TxnId) (i : HeldOp) (r : Event A) → acting e ≡ Some t.0 → operation_at (operations_in state) n.0 ≡ Some i
    → IsRelease t n i release r → refusal_in state r ≡ None → is_blocking_in (after state r) e n ≡ false
