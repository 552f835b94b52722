-- Every run agrees with the definitions by places.
use Rattle.std.proofs.Common.{◌≡◌, List, [], ◌∷◌, Option, Some, None, refl, ap, ◌∙◌}
use Rattle.acta_table.specs.declared.answer.Refusal.{Refusal}
use Rattle.acta_table.specs.declared.event.Event.{Event}
use Rattle.acta_table.specs.declared.model.Parts.{Parts}
use Rattle.acta_table.specs.Faults.{lowest_fault}
use Rattle.acta_machine.specs.Changes.{summary_of}
use Rattle.acta_machine.specs.Rules.{lowest_broken}
use Rattle.acta_machine.specs.Places.{FollowsPlaces}
use Rattle.acta_machine.specs.Table.{State, fresh, moved_on, after, after_all, run_state}
use Rattle.acta_machine.proofs.Steps.{follows-push, follows-fresh}

model-moved : {A : Type 0} (s : State A) (e : Event A) (r : Option Refusal) → (moved_on s e r).model ≡ s.model
model-moved s e None = refl
model-moved s e (Some r) = refl

-- the model stays
pub model-after : {A : Type 0} (s : State A) (e : Event A) → (after s e).model ≡ s.model
unfolding after
model-after s e = model-moved s e (lowest_broken s.model (summary_of s.model s.kept) e)

model-after_all : {A : Type 0} (s : State A) (es : List (Event A)) → (after_all s es).model ≡ s.model
model-after_all s [] = refl
model-after_all s (e ∷ es) = model-after_all (after s e) es ∙ model-after s e

pub model-run : {A : Type 0} (m : Parts A) (es : List (Event A)) → (run_state m es).model ≡ m
model-run m es = model-after_all (fresh m) es

follows-moved : {A : Type 0} (s : State A) (e : Event A) → lowest_fault s.model ≡ None → FollowsPlaces s → (r : Option Refusal) → lowest_broken s.model (summary_of s.model s.kept) e ≡ r → FollowsPlaces (moved_on s e r)
follows-moved s e faultless follows None none = follows-push s.model s.kept e faultless follows none
follows-moved s e faultless follows (Some r) broken = follows

follows-after : {A : Type 0} (s : State A) (e : Event A) → lowest_fault s.model ≡ None → FollowsPlaces s → FollowsPlaces (after s e)
unfolding after
follows-after s e faultless follows = follows-moved s e faultless follows (lowest_broken s.model (summary_of s.model s.kept) e) refl

follows-after_all : {A : Type 0} (s : State A) (es : List (Event A)) → lowest_fault s.model ≡ None → FollowsPlaces s → FollowsPlaces (after_all s es)
follows-after_all s [] faultless follows = follows
follows-after_all s (e ∷ es) faultless follows = follows-after_all (after s e) es (ap lowest_fault (model-after s e) ∙ faultless) (follows-after s e faultless follows)

-- and so does each run
pub follows-run : {A : Type 0} (m : Parts A) (es : List (Event A)) → lowest_fault m ≡ None → FollowsPlaces (run_state m es)
follows-run m es faultless = follows-after_all (fresh m) es faultless (follows-fresh m)
