-- The axioms on places in the groups in which the judge checks them.
use Rattle.std.specs.Prelude.{ℕ, List, [], ◌∷◌, flat_map, Option}
use Rattle.acta_table.specs.declared.event.Event.{Event}
use Rattle.acta_table.specs.declared.event.Kept.{Kept}
use Rattle.acta_table.specs.declared.event.Ret.{Ret}
use Rattle.acta_table.specs.declared.model.Parts.{Parts}
use Rattle.acta_axioms.specs.declared.fault.Axiom.{Axiom}
use Rattle.acta_axioms.specs.declared.fault.Axiom.TheVariants.{BegunOnce, EndedAfterBegun, EndedOnce, OperatesInProgress, FormOfEvent, Allowed, PartiesInProgress, Responsible, HandsWhole, Conflict, Return, Heir, FormedInTime}
use Rattle.acta_axioms.specs.declared.fault.Fault.{Fault}
use Rattle.acta_axioms.specs.Faults.{begun_again, ended_unbegun, ended_again, operated_idle, ill_formed, not_allowed, idle_party, transferred_unheld, kept_back, in_conflict, wrong_return, without_heir, not_in_time, faults_of}

-- the faults at a place of these axioms, by these numbers
abbrev pub faults_by : ℕ → List (Axiom × List ℕ) → List Fault
faults_by place breaches = flat_map (λ b. faults_of b.0 place b.1) breaches

-- begins, ends and operations of a transaction with the wrong status
abbrev pub out_of_course : {A : Type 0} → List (Kept A) → Event A → List (Axiom × List ℕ)
out_of_course before e =
    (BegunOnce, begun_again before e)
    ∷ (EndedAfterBegun, ended_unbegun before e)
    ∷ (EndedOnce, ended_again before e)
    ∷ (OperatesInProgress, operated_idle before e)
    ∷ []

-- events that the model lacks or does not allow
abbrev pub out_of_model : {A : Type 0} → Parts A → List (Kept A) → Event A → List (Axiom × List ℕ)
out_of_model m before e = (FormOfEvent, ill_formed m e) ∷ (Allowed, not_allowed m before e) ∷ []

-- faults of the parties of an event, and of the operations that it transfers
abbrev pub badly_transferred : {A : Type 0} → Parts A → List (Kept A) → Event A → List (Axiom × List ℕ)
badly_transferred m before e =
    (PartiesInProgress, idle_party before e)
    ∷ (Responsible, transferred_unheld m before e)
    ∷ (HandsWhole, kept_back m before e)
    ∷ []

-- conflicts, and returns that are not due
abbrev pub badly_operated : {A : Type 0} → Parts A → List (Kept A) → Option Ret → Event A → List (Axiom × List ℕ)
badly_operated m before ret e =
    (Conflict, in_conflict m before e) ∷ (Return, wrong_return m before ret e) ∷ []

-- a commit without an heir, and a form event that comes too late
abbrev pub too_late : {A : Type 0} → Parts A → List (Kept A) → Event A → List (Axiom × List ℕ)
too_late m before e = (Heir, without_heir m before e) ∷ (FormedInTime, not_in_time before e) ∷ []
