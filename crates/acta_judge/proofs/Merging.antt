-- Faults that are appended to others, and the axioms on places in groups.
use Rattle.std.proofs.Common.{◌≡◌, ℕ, List, ◌++◌, Option, append_assoc, sym, ap, ◌∙◌}
use Rattle.std.proofs.lemmas.Grind.{flat_map-append}
use Rattle.acta_table.specs.declared.event.Event.{Event}
use Rattle.acta_table.specs.declared.event.Kept.{Kept}
use Rattle.acta_table.specs.declared.event.Ret.{Ret}
use Rattle.acta_table.specs.declared.model.Parts.{Parts}
use Rattle.acta_axioms.specs.declared.fault.Axiom.{Axiom}
use Rattle.acta_axioms.specs.declared.fault.Fault.{Fault}
use Rattle.acta_axioms.specs.Faults.{breaches, faults_of}
use Rattle.acta_judge.specs.inside.Places.{faults_by, out_of_course, out_of_model, badly_transferred, badly_operated, too_late}

-- appending some and then others is appending both at once
pub then_others : (old : List Fault) {mid : List Fault} (some others : List Fault) → mid ≡ old ++ some → mid ++ others ≡ old ++ (some ++ others)
then_others old some others first = ap (λ (xs : List Fault). xs ++ others) first ∙ append_assoc old some others

-- the faults at a place, group by group
pub in_groups : {A : Type 0} (m : Parts A) (before : List (Kept A)) (n : ℕ) (ret : Option Ret) (e : Event A) →
    faults_by n (out_of_course before e) ++ (faults_by n (out_of_model m before e) ++ (faults_by n (badly_transferred m before e) ++ (faults_by n (badly_operated m before ret e) ++ faults_by n (too_late m before e))))
    ≡ faults_by n (breaches m before ret e)
unfolding breaches
in_groups m before n ret e =
    let each = λ (b : Axiom × List ℕ). faults_of b.0 n b.1 in
    let course = out_of_course before e in
    let model = out_of_model m before e in
    let transferred = badly_transferred m before e in
    let operated = badly_operated m before ret e in
    let late = too_late m before e in
    sym (flat_map-append each course (model ++ (transferred ++ (operated ++ late)))
    ∙ ap (λ fs. faults_by n course ++ fs) (flat_map-append each model (transferred ++ (operated ++ late)))
    ∙ ap (λ fs. faults_by n course ++ (faults_by n model ++ fs)) (flat_map-append each transferred (operated ++ late))
    ∙ ap (λ fs. faults_by n course ++ (faults_by n model ++ (faults_by n transferred ++ fs))) (flat_map-append each operated late))
