-- The properties that are proved of every history of a machine.
use Rattle.std.specs.Prelude.{ℕ, ◌≡◌, Bool, true, ◌&&◌, ◌||◌, not, ◌==◌, List, [], is_some, if◌then◌else◌}
use Rattle.std.specs.List.{list_all}
use Rattle.acta_table.specs.declared.dep.Edge.{Edge}
use Rattle.acta_table.specs.declared.event.Kept.{Kept}
use Rattle.acta_table.specs.declared.answer.Status.{Status}
use Rattle.acta_table.specs.declared.answer.Status.TheVariants.{NotBegun, InProgress, Committed, Aborted, Joined}
use Rattle.acta_table.specs.declared.model.Parts.{Parts}
use Rattle.acta_axioms.specs.declared.course.Course.{Course}
use Rattle.acta_axioms.specs.History.{course, end}
use Rattle.acta_axioms.specs.Edges.{edges}
use Rattle.acta_axioms.specs.Legal.{is_legal}
use Rattle.acta_axioms.specs.Faults.{faults_in_places}

-- a history that satisfies the axioms: no place has a fault, and the history is legal
pub record MeetsAxioms {A : Type 0} (m : Parts A) (h : List (Kept A)) : Type 0 where
  pub faultless : faults_in_places m h ≡ []
  pub legal : is_legal m h ≡ true

-- whether a course with an end has a start, and has at most one of commit, abort and join
abbrev pub is_orderly : Course → Bool
is_orderly c =
    (is_some c.start || not (is_some (end c))) && not (is_some c.commit && is_some c.abort)
    && not (is_some c.commit && is_some c.join) && not (is_some c.abort && is_some c.join)

-- whether the edge is between two different transactions
abbrev pub is_apart : Edge → Bool
is_apart e = not (e.j.0 == e.i.0)

-- every course is orderly, and every edge is between two different transactions
pub record IsOrderly {A : Type 0} (m : Parts A) (h : List (Kept A)) : Type 0 where
  pub courses : (t : ℕ) → is_orderly (course h t) ≡ true
  pub edges : list_all is_apart (edges m h) ≡ true

-- the status of a transaction with this course
abbrev pub course_status : Course → Status
course_status c =
    if is_some c.commit then Committed
    else if is_some c.abort then Aborted
    else if is_some c.join then Joined
    else if is_some c.start then InProgress
    else NotBegun

-- the status of a transaction at the end of the history
abbrev pub status_at : {A : Type 0} → List (Kept A) → ℕ → Status
status_at h t = course_status (course h t)
