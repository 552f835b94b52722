-- The sets and values returned by the machine's queries are those by places.
use Rattle.std.proofs.Common.{◌≡◌, ℕ, Bool, List, [], ◌∷◌, map, filter, Option, Some, None, refl, sym, ap, ◌∙◌}
use Rattle.std.specs.Prelude.{if◌then◌else◌, option_map}
use Rattle.std.proofs.lemmas.Simd.{map-map}
use Rattle.acta_table.specs.declared.event.Kept.{Kept}
use Rattle.acta_table.specs.declared.model.Kind.{Kind}
use Rattle.acta_table.specs.declared.model.Parts.{Parts}
use Rattle.acta_table.specs.Classes.{kind_at}
use Rattle.acta_table.specs.Numbered.{numbers_where}
use Rattle.acta_objects.specs.Objects.{first_state, state_after}
use Rattle.acta_axioms.specs.Operations.{Operation, standing, operations}
use Rattle.acta_axioms.specs.Operations as by_places
use Rattle.acta_axioms.proofs.Numbers.{numbers-shown}
use Rattle.acta_sets.specs.declared.held_op.HeldOp.{HeldOp}
use Rattle.acta_sets.specs.Operations.{is_held, is_of_others, is_live, operations_where}
use Rattle.acta_machine.specs.Values.{live_ops}
use Rattle.acta_machine.specs.Changes.{summary_of}
use Rattle.acta_machine.specs.Families.{exempt}
use Rattle.acta_machine.specs.Table.{State, value_in, access_set_in, conflict_set_in, view_set_in}
use Rattle.acta_machine.specs.Places.{held_op, held_ops, op_numbers, value_at, FollowsPlaces}
use Rattle.acta_axioms.proofs.Searches.{value-found}
use Rattle.acta_machine.proofs.ValueTies.{others-places}

pub filter-same : {X : Type 0} (f g : X → Bool) → ((x : X) → f x ≡ g x) → (xs : List X) → filter f xs ≡ filter g xs
filter-same f g same [] = refl
filter-same f g same (x ∷ xs) = λ i. if same x i then x ∷ filter-same f g same xs i else filter-same f g same xs i

-- the operations that pass a test in the table are those that pass it by places
where-places : {A : Type 0} (m : Parts A) (h : List (Kept A)) (items : List HeldOp) (test : HeldOp → Bool) (by : Operation → Bool) → items ≡ held_ops m h → ((o : Operation) → test (held_op o (standing m h o)) ≡ by o)
    → operations_where test items ≡ op_numbers (filter by (operations h))
where-places m h items test by same equivalent =
    ap (operations_where test) same
    ∙ ap (map (λ n. record { 0 = n })) (sym (numbers-shown (λ o. held_op o (standing m h o)) test h))
    ∙ map-map (λ n. record { 0 = n }) (λ (o : Operation). o.number) (filter (λ o. test (held_op o (standing m h o))) (operations h))
    ∙ ap op_numbers (filter-same (λ o. test (held_op o (standing m h o))) by equivalent (operations h))

-- the numbers of t's access set
pub held-places : {A : Type 0} (m : Parts A) (h : List (Kept A)) (items : List HeldOp) (t : ℕ) → items ≡ held_ops m h → map (λ o. o.number) (by_places.access_set m h t) ≡ numbers_where (is_held t) items
held-places m h items t same =
    numbers-shown (λ o. held_op o (standing m h o)) (is_held t) h
    ∙ ap (numbers_where (is_held t)) (sym same)

pub access-places : {A : Type 0} (state : State A) (t : ℕ) → FollowsPlaces state → access_set_in state t ≡ op_numbers (by_places.access_set state.model state.kept t)
access-places state t follows =
    where-places state.model state.kept _ (is_held t) (λ o. by_places.is_held_by t (standing state.model state.kept o)) follows.shows.operations
    (λ o. refl)

pub conflict-places : {A : Type 0} (state : State A) (t : ℕ) → FollowsPlaces state → conflict_set_in state t ≡ op_numbers (by_places.conflict_set state.model state.kept t)
conflict-places state t follows =
    where-places state.model state.kept _ (is_of_others t (exempt state.model (summary_of state.model state.kept) t) (summary_of state.model state.kept).permits) (λ o. by_places.is_of_others state.model state.kept t o.object (standing state.model state.kept o)) follows.shows.operations
    (others-places state.model state.kept follows.shows t)

pub view-places : {A : Type 0} (state : State A) → FollowsPlaces state → view_set_in state ≡ op_numbers (by_places.view_set state.model state.kept)
view-places state follows =
    where-places state.model state.kept _ is_live (λ o. by_places.is_in_view (standing state.model state.kept o)) follows.shows.operations
    (λ o. refl)

pub values-places : {A : Type 0} (state : State A) (object : ℕ) → FollowsPlaces state → value_in state object ≡ value_at state object
values-places {A} state object follows = of (kind_at state.model object)
  where
    of : (k : Option Kind) → option_map (λ kind. state_after {A = A} (first_state kind) (live_ops kind (summary_of state.model state.kept).operations object)) k
        ≡ option_map (Rattle.acta_axioms.specs.Values.value state.model state.kept object) k
    of None = refl
    of (Some kind) = ap Some (value-found state.model state.kept _ object kind follows.shows.operations)
