-- The edges by which an event breaks a rule on dependencies, all rules but `Clash`; used in proofs.
use Rattle.std.specs.Prelude.{◌≡◌, ⊤, ℕ, Bool, false, None}
use Rattle.acta_table.specs.declared.answer.Refusal.{Refusal}
use Rattle.acta_table.specs.declared.answer.Rule.{Rule}
use Rattle.acta_table.specs.declared.answer.Rule.TheVariants.{BeginDep, SerialDep, BeginOnCommit, BeginOnAbort, TerminationDep, OwesAbort, OwesCommit, CommitOrder, WeakBegin, Unpayable, Clash}
use Rattle.acta_table.specs.declared.answer.Status.{Status}
use Rattle.acta_table.specs.declared.dep.Edge.{Edge}
use Rattle.acta_table.specs.declared.event.Event.{Event}
use Rattle.acta_table.specs.declared.event.Event.TheVariants.{Begin, Spawn, Split, Join, Commit, Abort}
use Rattle.acta_table.specs.Numbered.{first_number}
use Rattle.acta_deps.specs.Debts.{owes_commit, owes_abort}
use Rattle.acta_deps.specs.Dependencies.{awaits_begin, awaits_end, awaits_commit, awaits_abort, ends_after, committed_first, began_first, cannot_pay_commit, cannot_pay_abort, depends, is_awaited}
use Rattle.acta_machine.specs.Rules.{dependency}
use Rattle.acta_machine.specs.Summary.{Summary}

-- the transaction whose edges the rules on dependencies check
abbrev pub subject : {A : Type 0} → Event A → ℕ
subject (Begin t class) = t.0
subject (Spawn t c class) = c.0
subject (Split t u class ops) = u.0
subject (Join t u) = t.0
subject (Commit t) = t.0
subject (Abort t) = t.0
subject _ = 0

abbrev pub unpayable_test : {A : Type 0} → Event A → (ℕ → Status) → Edge → Bool
unpayable_test (Commit t) status = is_awaited cannot_pay_commit status t.0
unpayable_test (Abort t) status = is_awaited cannot_pay_abort status t.0
unpayable_test _ status = λ f. false

-- whether the event breaks the rule by this edge
abbrev pub edge_test : {A : Type 0} → Event A → Rule → (ℕ → Status) → Edge → Bool
edge_test e BeginDep status = depends awaits_begin status (subject e)
edge_test e SerialDep status = depends awaits_end status (subject e)
edge_test e BeginOnCommit status = depends awaits_commit status (subject e)
edge_test e BeginOnAbort status = depends awaits_abort status (subject e)
edge_test e TerminationDep status = depends ends_after status (subject e)
edge_test e OwesAbort status = owes_abort status (subject e)
edge_test e OwesCommit status = owes_commit status (subject e)
edge_test e CommitOrder status = is_awaited committed_first status (subject e)
edge_test e WeakBegin status = is_awaited began_first status (subject e)
edge_test e Unpayable status = unpayable_test e status
edge_test e _ status = λ f. false

-- the refusal names the first edge that breaks the rule; if no rule on dependencies is broken, no edge breaks it
abbrev pub IsBy : {A : Type 0} → Event A → Summary → Refusal → Rule → Type 0
IsBy e s r rule =
    (first_number (edge_test e rule s.status) s.edges ≡ r.by)
    × ((l : Summary) → dependency l e ≡ None → first_number (edge_test e rule l.status) l.edges ≡ None)

abbrev pub IsByUnlessClash : {A : Type 0} → Event A → Summary → Refusal → Rule → Type 0
IsByUnlessClash e s r Clash = ⊤
IsByUnlessClash e s r rule = IsBy e s r rule
