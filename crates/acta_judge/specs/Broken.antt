-- Faults of the axioms on dependencies: edges whose formula is false with nothing owed, with the place where it became
-- false; and transactions that owe both a commit and an abort.
use Rattle.std.specs.Prelude.{ℕ, max, List, [], ◌∷◌, length, map, filter, flat_map, if◌then◌else◌, Option, Some, None, option_to_list}
use Rattle.std.specs.List.{enumerate_from}
use Rattle.std.specs.Option.{option_map_or}
use Rattle.acta_table.specs.declared.dep.Dep.{Dep}
use Rattle.acta_table.specs.declared.dep.Dep.TheVariants.{Cd, Scd, Ad, Wd, Td, Ed, Cmd, Bd, Sd, Bcd, Bad, Wcd}
use Rattle.acta_table.specs.declared.dep.Edge.{Edge}
use Rattle.acta_table.specs.declared.event.Kept.{Kept}
use Rattle.acta_table.specs.declared.model.Parts.{Parts}
use Rattle.acta_axioms.specs.declared.fault.Axiom.TheVariants.{Dependency, Clash}
use Rattle.acta_axioms.specs.declared.fault.Fault.{Fault}
use Rattle.acta_axioms.specs.declared.course.Course.{Course}
use Rattle.acta_axioms.specs.History.{course, least, end}
use Rattle.acta_axioms.specs.Edges.{edges}
use Rattle.acta_axioms.specs.Faults.{faults_of}
use Rattle.acta_axioms.specs.Legal.{is_broken_in, clashes_in}

-- the larger of two places, or the one that exists
abbrev pub greatest : Option ℕ → Option ℕ → Option ℕ
greatest None n = n
greatest (Some m) n = Some (option_map_or (max m) n m)

-- the place where a formula of this kind that is false and not owed became so, by the courses of j and i. Cd, Wcd: the
-- commit of i, which came too late. Td: the commit or abort of j, which came too early. Bd, Sd, Bcd, Bad: the start of j.
-- The others: the last place of those that make it false, including the end of j, which owed before
unfoldable pub place_broken : Dep → Course → Course → Option ℕ
place_broken Cd j i = i.commit
place_broken Scd j i = greatest i.commit (end j)
place_broken Ad j i = greatest i.abort (end j)
place_broken Wd j i = greatest i.abort (end j)
place_broken Td j i = least j.commit j.abort
place_broken Ed j i = greatest i.commit (greatest j.start (end j))
place_broken Cmd j i = greatest i.abort (end j)
place_broken Bd j i = j.start
place_broken Sd j i = j.start
place_broken Bcd j i = j.start
place_broken Bad j i = j.start
place_broken Wcd j i = i.commit

-- the place where the edge's formula became false, if in this history it is false and not owed
abbrev pub place_in : {A : Type 0} → List (Kept A) → Edge → Option ℕ
place_in h e =
    if is_broken_in h e then place_broken e.kind (course h e.j.0) (course h e.i.0) else None

-- the fault of the edge with this number
abbrev pub edge_faults : {A : Type 0} → List (Kept A) → ℕ × Edge → List Fault
edge_faults h e =
    flat_map (λ place. faults_of (Dependency e.1.kind) place (e.0 ∷ [])) (option_to_list (place_in h e.1))

-- the faults of edges, by edge number
abbrev pub faults_in_edges : {A : Type 0} → Parts A → List (Kept A) → List Fault
faults_in_edges m h = flat_map (edge_faults h) (enumerate_from 1 (edges m h))

-- the transactions that owe both a commit and an abort, some more than once
abbrev pub clashing : {A : Type 0} → Parts A → List (Kept A) → List ℕ
clashing m h = map (λ e. e.j.0) (filter (clashes_in h (edges m h)) (edges m h))

-- the faults of these transactions, at the last place
abbrev pub faults_in_debts : {A : Type 0} → Parts A → List (Kept A) → List Fault
faults_in_debts m h = faults_of Clash (length h) (clashing m h)
