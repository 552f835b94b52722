-- The places ahead of a walk, part by part.
use Rattle.std.specs.Prelude.{ℕ, List, [], ◌++◌, take, drop, flat_map}
use Rattle.acta_axioms.specs.declared.fault.Fault.{Fault}
use Rattle.acta_axioms.specs.Faults.{faults_at}
use Rattle.acta_axioms.specs.History.{places_after}
use Rattle.acta_axioms.specs.Walks.{Walked}

-- the walk advanced by n items, or to its end
abbrev pub advanced : {A : Type 0} → ℕ → Walked A → Walked A
advanced n w = record { model = w.model; front = w.front ++ take n w.ahead; ahead = drop n w.ahead }

-- the faults at the next n places, or at all that are left
abbrev pub faults_ahead : {A : Type 0} → ℕ → Walked A → List Fault
faults_ahead n w = flat_map (faults_at w.model) (places_after w.front (take n w.ahead))

-- the walk at its end
abbrev pub at_end : {A : Type 0} → Walked A → Walked A
at_end w = record { model = w.model; front = w.front ++ w.ahead; ahead = [] }

-- the faults at all places ahead
abbrev pub faults_left : {A : Type 0} → Walked A → List Fault
faults_left w = flat_map (faults_at w.model) (places_after w.front w.ahead)

-- lists, one after the other
abbrev pub together : List (List Fault) → List Fault
together parts = flat_map (λ part. part) parts
