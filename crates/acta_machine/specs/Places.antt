-- The written table and the definitions by places agree.
use Rattle.std.specs.Prelude.{◌≡◌, ℕ, Bool, true, ◌||◌, not, List, Option, option_map, is_some}
use Rattle.std.specs.List.{list_all}
use Rattle.acta_table.specs.declared.event.Event.{Event}
use Rattle.acta_table.specs.declared.event.Kept.{Kept}
use Rattle.acta_table.specs.declared.model.Parts.{Parts}
use Rattle.acta_table.specs.declared.answer.Status.{Status}
use Rattle.acta_table.specs.Classes.{kind_at, has_heir}
use Rattle.acta_table.specs.Fates.{is_open}
use Rattle.acta_objects.specs.declared.state.ObjectState.{ObjectState}
use Rattle.acta_axioms.specs.History.{class_number, has_class, has_begun, parent_of}
use Rattle.acta_axioms.specs.Permits.{has_permitted, is_permitted}
use Rattle.acta_axioms.specs.Values.{value}
pub use Rattle.acta_axioms.specs.Walks.{held_op, held_ops, op_numbers}
use Rattle.acta_axioms.specs.Edges.{edges}
use Rattle.acta_axioms.specs.Claims.{MeetsAxioms, IsOrderly, status_at}
use Rattle.acta_deps.specs.Statuses.{is_in_progress}
use Rattle.acta_sets.specs.declared.held_op.HeldOp.{HeldOp}
use Rattle.acta_machine.specs.Summary.{Summary}
use Rattle.acta_machine.specs.Changes.{summary_of}
use Rattle.acta_machine.specs.Exactness.{RefusesIllegal, RefusesByEdge, RefusesByDebts}
use Rattle.acta_machine.specs.Table.{State}

-- the statuses, classes, parents, operations, edges and permits of the summary are those by places
pub record ShowsPlaces {A : Type 0} (m : Parts A) (h : List (Kept A)) (s : Summary) : Type 0 where
  pub status : (t : ℕ) → s.status t ≡ status_at h t
  pub class : (t : ℕ) → option_map (λ c. c.0) (s.class t) ≡ class_number h t
  pub parent : (t : ℕ) → s.parent t ≡ parent_of h t
  pub operations : s.operations ≡ held_ops m h
  pub edges : s.edges ≡ edges m h
  pub permits : (t u object : ℕ) → s.permits t u object ≡ is_permitted h t u object

-- a transaction whose class commits to parents has a parent
abbrev pub HasParent : {A : Type 0} → Parts A → List (Kept A) → ℕ → Type 0
HasParent m h t =
    has_class (λ k. has_heir k.at_commit) m h t ≡ true → is_some (parent_of h t) ≡ true

-- both transactions of every permit have begun
abbrev pub ArePermitsBegun : {A : Type 0} → List (Kept A) → Type 0
ArePermitsBegun h = (t u object : ℕ) → has_permitted h t u object ≡ true → (has_begun h t ≡ true) × (has_begun h u ≡ true)

-- whether the operation has ended, or its holder is in progress
abbrev pub is_held_well : (ℕ → Status) → HeldOp → Bool
is_held_well status i = not (is_open i.fate) || is_in_progress (status i.holder.0)

-- the holder of every operation in progress is in progress
abbrev pub AreHeldWell : Summary → Type 0
AreHeldWell s = list_all (is_held_well s.status) s.operations ≡ true

-- the summary agrees with the definitions by places; the history satisfies the axioms and is orderly; transactions that
-- commit to parents have one; holders of operations in progress are in progress; both transactions of a permit have
-- begun; and for every next event the rules on dependencies refuse exactly what would be illegal: as a whole, edge by
-- edge, and for clashing debts
pub record FollowsPlaces {A : Type 0} (state : State A) : Type 0 where
  pub shows : ShowsPlaces state.model state.kept (summary_of state.model state.kept)
  pub meets : MeetsAxioms state.model state.kept
  pub orderly : IsOrderly state.model state.kept
  pub parents : (t : ℕ) → HasParent state.model state.kept t
  pub holders : AreHeldWell (summary_of state.model state.kept)
  pub permits : ArePermitsBegun state.kept
  pub exact : (event : Event A) → RefusesIllegal state event
  pub edges_exact : (event : Event A) → RefusesByEdge state event
  pub clashes_exact : (event : Event A) → RefusesByDebts state event

-- the value of an object, by places
abbrev pub value_at : {A : Type 0} → State A → ℕ → Option (ObjectState A)
value_at state object = option_map (value state.model state.kept object) (kind_at state.model object)
