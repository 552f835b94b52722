-- Events that break no rule before those on dependencies, and events that break no rule.
use Rattle.std.proofs.Common.{◌≡◌, ◌<◌, ◌≤◌, false, List, [], ◌∷◌, length, Option, Some, None, is_some, refl, sym, ap, ◌∙◌, arith}
use Rattle.std.specs.Prelude.{nat_lt}
use Rattle.std.specs.Option.{option_or}
use Rattle.std.proofs.lemmas.Bool.{true≢false, lt-ltb}
use Rattle.acta_table.specs.declared.dep.Edge.{Edge}
use Rattle.acta_table.specs.declared.event.Event.{Event}
use Rattle.acta_table.specs.declared.event.Event.TheVariants.{Begin, Spawn, Split, Join, Delegate, Form, Operate, Commit, Abort, Permit}
use Rattle.acta_table.specs.declared.model.Parts.{Parts}
use Rattle.acta_table.specs.declared.answer.Refusal.{Refusal}
use Rattle.acta_table.specs.declared.answer.Rule.TheVariants.{NotInProgress, EdgesFull}
use Rattle.acta_table.specs.Edges.{formed}
use Rattle.acta_table.specs.Faults.{lowest_fault}
use Rattle.acta_deps.specs.Dependencies.{start_refusal}
use Rattle.acta_table.specs.Refusals.{first_of}
use Rattle.acta_table.specs.WellFormed.{bad_number, bad_class, bad_object, same_transaction}
use Rattle.acta_table.specs.declared.limits.TheConstants.{MOST_EDGES}
use Rattle.acta_objects.specs.WellFormed.{bad_operation}
use Rattle.acta_machine.specs.Summary.{Summary, linked}
use Rattle.acta_machine.specs.Changes.{edges_due}
use Rattle.acta_machine.specs.Rules.{full, not_in_progress, already_begun, not_in_model, partner_not_in_progress, not_responsible, partial_delegation, bad_set, conflict, form_too_late, edges_full, earlier_broken, dependency, no_heir, lowest_broken}
use Rattle.acta_machine.proofs.Broken.{or_none, if_none, in_progress}
use Rattle.acta_machine.proofs.DependencyTies.{start-formed}
use Rattle.acta_machine.proofs.Starting.{spawn_due, split_due, neutral-spawn, neutral-split}

-- each of the earlier rules, which the event does not break
pub record Unbroken {A : Type 0} (m : Parts A) (s : Summary) (e : Event A) : Type 0 where
  pub number : bad_number e ≡ None
  pub class : bad_class m e ≡ None
  pub object : bad_object m e ≡ None
  pub operation : bad_operation m e ≡ None
  pub same : same_transaction e ≡ None
  pub progress : not_in_progress s e ≡ None
  pub begun : already_begun s e ≡ None
  pub model : not_in_model m s e ≡ None
  pub partner : partner_not_in_progress s e ≡ None
  pub responsible : not_responsible s e ≡ None
  pub whole : partial_delegation m s e ≡ None
  pub set : bad_set s e ≡ None
  pub conflict : conflict m s e ≡ None
  pub time : form_too_late s e ≡ None
  pub edges : edges_full m s e ≡ None

pub unbroken : {A : Type 0} (m : Parts A) (s : Summary) (e : Event A) → earlier_broken m s e ≡ None → Unbroken m s e
unbroken m s e none =
    let a1 = first_of (full s ∷ []) in
    let a2 = first_of (full s ∷ bad_number e ∷ []) in
    let a3 = first_of (full s ∷ bad_number e ∷ bad_class m e ∷ []) in
    let a4 = first_of (full s ∷ bad_number e ∷ bad_class m e ∷ bad_object m e ∷ []) in
    let a5 = first_of (full s ∷ bad_number e ∷ bad_class m e ∷ bad_object m e ∷ bad_operation m e ∷ []) in
    let a6 = first_of (full s ∷ bad_number e ∷ bad_class m e ∷ bad_object m e ∷ bad_operation m e ∷ same_transaction e ∷ []) in
    let a7 = first_of (full s ∷ bad_number e ∷ bad_class m e ∷ bad_object m e ∷ bad_operation m e ∷ same_transaction e ∷ not_in_progress s e ∷ []) in
    let a8 = first_of (full s ∷ bad_number e ∷ bad_class m e ∷ bad_object m e ∷ bad_operation m e ∷ same_transaction e ∷ not_in_progress s e ∷ already_begun s e ∷ []) in
    let a9 = first_of (full s ∷ bad_number e ∷ bad_class m e ∷ bad_object m e ∷ bad_operation m e ∷ same_transaction e ∷ not_in_progress s e ∷ already_begun s e ∷ not_in_model m s e ∷ []) in
    let a10 = first_of (full s ∷ bad_number e ∷ bad_class m e ∷ bad_object m e ∷ bad_operation m e ∷ same_transaction e ∷ not_in_progress s e ∷ already_begun s e ∷ not_in_model m s e ∷ partner_not_in_progress s e ∷ []) in
    let a11 = first_of (full s ∷ bad_number e ∷ bad_class m e ∷ bad_object m e ∷ bad_operation m e ∷ same_transaction e ∷ not_in_progress s e ∷ already_begun s e ∷ not_in_model m s e ∷ partner_not_in_progress s e ∷ not_responsible s e ∷ []) in
    let a12 = first_of (full s ∷ bad_number e ∷ bad_class m e ∷ bad_object m e ∷ bad_operation m e ∷ same_transaction e ∷ not_in_progress s e ∷ already_begun s e ∷ not_in_model m s e ∷ partner_not_in_progress s e ∷ not_responsible s e ∷ partial_delegation m s e ∷ []) in
    let a13 = first_of (full s ∷ bad_number e ∷ bad_class m e ∷ bad_object m e ∷ bad_operation m e ∷ same_transaction e ∷ not_in_progress s e ∷ already_begun s e ∷ not_in_model m s e ∷ partner_not_in_progress s e ∷ not_responsible s e ∷ partial_delegation m s e ∷ bad_set s e ∷ []) in
    let a14 = first_of (full s ∷ bad_number e ∷ bad_class m e ∷ bad_object m e ∷ bad_operation m e ∷ same_transaction e ∷ not_in_progress s e ∷ already_begun s e ∷ not_in_model m s e ∷ partner_not_in_progress s e ∷ not_responsible s e ∷ partial_delegation m s e ∷ bad_set s e ∷ conflict m s e ∷ []) in
    let a15 = first_of (full s ∷ bad_number e ∷ bad_class m e ∷ bad_object m e ∷ bad_operation m e ∷ same_transaction e ∷ not_in_progress s e ∷ already_begun s e ∷ not_in_model m s e ∷ partner_not_in_progress s e ∷ not_responsible s e ∷ partial_delegation m s e ∷ bad_set s e ∷ conflict m s e ∷ form_too_late s e ∷ []) in
    let n16 = or_none a15 (edges_full m s e) none in
    let n15 = or_none a14 (form_too_late s e) n16.0 in
    let n14 = or_none a13 (conflict m s e) n15.0 in
    let n13 = or_none a12 (bad_set s e) n14.0 in
    let n12 = or_none a11 (partial_delegation m s e) n13.0 in
    let n11 = or_none a10 (not_responsible s e) n12.0 in
    let n10 = or_none a9 (partner_not_in_progress s e) n11.0 in
    let n9 = or_none a8 (not_in_model m s e) n10.0 in
    let n8 = or_none a7 (already_begun s e) n9.0 in
    let n7 = or_none a6 (not_in_progress s e) n8.0 in
    let n6 = or_none a5 (same_transaction e) n7.0 in
    let n5 = or_none a4 (bad_operation m e) n6.0 in
    let n4 = or_none a3 (bad_object m e) n5.0 in
    let n3 = or_none a2 (bad_class m e) n4.0 in
    let n2 = or_none a1 (bad_number e) n3.0 in
    record {
      number = n2.1;
      class = n3.1;
      object = n4.1;
      operation = n5.1;
      same = n6.1;
      progress = n7.1;
      begun = n8.1;
      model = n9.1;
      partner = n10.1;
      responsible = n11.1;
      whole = n12.1;
      set = n13.1;
      conflict = n14.1;
      time = n15.1;
      edges = n16.1;
    }

both-none : {A : Type 0} (m : Parts A) (s : Summary) (e : Event A) → lowest_broken m s e ≡ None → (option_or (earlier_broken m s e) (dependency s e) ≡ None) × (no_heir m s e ≡ None)
both-none m s e none = or_none (option_or (earlier_broken m s e) (dependency s e)) (no_heir m s e) none

-- an event that breaks no rule breaks none of the earlier ones and none on dependencies, and has an heir if it needs
-- one
pub none-earlier : {A : Type 0} (m : Parts A) (s : Summary) (e : Event A) → lowest_broken m s e ≡ None → earlier_broken m s e ≡ None
none-earlier m s e none = (or_none (earlier_broken m s e) (dependency s e) (both-none m s e none).0).0

pub none-dependency : {A : Type 0} (m : Parts A) (s : Summary) (e : Event A) → lowest_broken m s e ≡ None → dependency s e ≡ None
none-dependency m s e none = (or_none (earlier_broken m s e) (dependency s e) (both-none m s e none).0).1

pub none-heirless : {A : Type 0} (m : Parts A) (s : Summary) (e : Event A) → lowest_broken m s e ≡ None → no_heir m s e ≡ None
none-heirless m s e none = (both-none m s e none).1

-- the conditions under which an event's change is made
pub record Admissible {A : Type 0} (s : Summary) (e : Event A) : Type 0 where
  pub progress : not_in_progress s e ≡ None
  pub begun : already_begun s e ≡ None
  pub allowed : dependency s e ≡ None

-- the edges that an event forms affect no rule on statuses

is_nothing : (r : Option Refusal) → is_some r ≡ false → r ≡ None
is_nothing None e = refl
is_nothing (Some r) e = cc

linked-dependency : {A : Type 0} (m : Parts A) (s : Summary) (e : Event A) → lowest_fault m ≡ None → not_in_progress s e ≡ None → dependency s e ≡ None → dependency (linked s (edges_due m s e)) e ≡ None
unfolding linked not_in_progress
linked-dependency m s (Begin t class) faultless on none = none
linked-dependency m s (Spawn t u class) faultless on none =
    is_nothing (start_refusal s.status (formed s.edges (spawn_due m t u class)) u.0)
    (start-formed s.status s.edges (spawn_due m t u class) u.0 (neutral-spawn m s.status t u class faultless (in_progress s NotInProgress t.0 on)) ∙ ap is_some none)
linked-dependency m s (Split t u class ops) faultless on none =
    is_nothing (start_refusal s.status (formed s.edges (split_due m t u class)) u.0)
    (start-formed s.status s.edges (split_due m t u class) u.0 (neutral-split m s.status t u class faultless (in_progress s NotInProgress t.0 on)) ∙ ap is_some none)
linked-dependency m s (Join t u) faultless on none = none
linked-dependency m s (Delegate t u ops) faultless on none = refl
linked-dependency m s (Form kind j i) faultless on none = refl
linked-dependency m s (Operate t ob op) faultless on none = refl
linked-dependency m s (Commit t) faultless on none = none
linked-dependency m s (Abort t) faultless on none = none
linked-dependency m s (Permit t u ob) faultless on none = refl

linked-progress : {A : Type 0} (m : Parts A) (s : Summary) (e : Event A) → not_in_progress (linked s (edges_due m s e)) e ≡ not_in_progress s e
unfolding linked not_in_progress
linked-progress m s e = refl

linked-begun : {A : Type 0} (m : Parts A) (s : Summary) (e : Event A) → already_begun (linked s (edges_due m s e)) e ≡ already_begun s e
unfolding linked already_begun
linked-begun m s e = refl

-- so an event that breaks no rule is still admissible after its edges are formed
pub still-admissible : {A : Type 0} (m : Parts A) (s later : Summary) (e : Event A) (due : List Edge) → lowest_fault m ≡ None → lowest_broken m s e ≡ None → due ≡ edges_due m s e → later ≡ linked s due → Admissible later e
still-admissible m s later e due faultless none is_due forms =
    let here : later ≡ linked s (edges_due m s e) = forms ∙ (λ i. linked s (is_due i)) in
    let u = unbroken m s e (none-earlier m s e none) in
    record {
      progress = ap (λ (x : Summary). not_in_progress x e) here ∙ linked-progress m s e ∙ u.progress;
      begun = ap (λ (x : Summary). already_begun x e) here ∙ linked-begun m s e ∙ u.begun;
      allowed = ap (λ (x : Summary). dependency x e) here ∙ linked-dependency m s e faultless u.progress (none-dependency m s e none);
    }

-- there is room for the edges of an event that breaks none of the earlier rules
pub linked-room : {A : Type 0} (m : Parts A) (s : Summary) (e : Event A) → edges_full m s e ≡ None → length (formed s.edges (edges_due m s e)) ≤ MOST_EDGES
unfolding edges_full
linked-room m s e none =
    let few = if_none (nat_lt MOST_EDGES (length (formed s.edges (edges_due m s e)))) EdgesFull none in
    let many : MOST_EDGES < length (formed s.edges (edges_due m s e)) → ⊥ = λ l. true≢false (sym (lt-ltb MOST_EDGES (length (formed s.edges (edges_due m s e))) l) ∙ few) in
    omega (arith, many)
