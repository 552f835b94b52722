-- Values and conflicts by the table are those by places.
use Rattle.std.proofs.Common.{◌≡◌, ℕ, ◌+◌, Bool, true, false, ◌&&◌, not, ◌==◌, List, [], ◌∷◌, map, filter, Option, Some, None, refl, sym, ap, ◌∙◌, ◌||◌}
use Rattle.std.specs.Prelude.{if◌then◌else◌, option_map}
use Rattle.std.specs.List.{position_from}
use Rattle.std.proofs.lemmas.Bool.{true≢false}
use Rattle.acta_table.specs.declared.event.ObjId.{ObjId}
use Rattle.acta_table.specs.declared.event.Op.{Op}
use Rattle.acta_table.specs.declared.event.Kept.{Kept}
use Rattle.acta_table.specs.declared.model.Kind.{Kind}
use Rattle.acta_table.specs.declared.model.Parts.{Parts}
use Rattle.acta_table.specs.Classes.{kind_at}
use Rattle.acta_table.specs.Numbered.{first_number}
use Rattle.acta_table.specs.Fates.{is_open}
use Rattle.acta_objects.specs.Objects.{first_state, state_after, returned}
use Rattle.acta_objects.specs.Conflicts.{conflict_on}
use Rattle.acta_axioms.specs.Operations.{Operation, Standing, standing, operations, is_in_view, view_set, conflict_set}
use Rattle.acta_axioms.specs.Operations as by_places
use Rattle.acta_values.specs.Conflicts.{is_well_formed}
use Rattle.acta_axioms.specs.Values.{asked_of, do_conflict, conflicting}
use Rattle.acta_axioms.specs.Values as by_places_value
use Rattle.acta_axioms.proofs.Searches.{value-found}
use Rattle.acta_sets.specs.declared.held_op.HeldOp.{HeldOp}
use Rattle.acta_sets.specs.Operations.{is_of_others, is_among}
use Rattle.acta_machine.specs.Values.{live_ops}
use Rattle.acta_machine.specs.Conflicts.{stands_against}
use Rattle.acta_machine.specs.Changes.{summary_of}
use Rattle.acta_machine.specs.Families.{exempt}
use Rattle.acta_machine.specs.Places.{held_op, held_ops, ShowsPlaces}
use Rattle.acta_machine.proofs.FamilyTies.{exempt-places}

-- the return that is due
pub return-places : {A : Type 0} (m : Parts A) (h : List (Kept A)) (items : List HeldOp) (object : ℕ) (op : Op) → items ≡ held_ops m h →
    option_map (λ value. returned value op) (option_map (λ kind. state_after {A = A} (first_state kind) (live_ops kind items object)) (kind_at m object))
    ≡ by_places_value.return_due m h object op
return-places {A} m h items object op same = of (kind_at m object)
  where
    of : (k : Option Kind) → option_map (λ value. returned value op) (option_map (λ kind. state_after {A = A} (first_state kind) (live_ops kind items object)) k)
        ≡ option_map (λ kind. returned (by_places_value.value m h object kind) op) k
    of None = refl
    of (Some kind) = ap (λ value. Some (returned value op)) (value-found m h items object kind same)

-- if no item passes, none of a sublist does
none_passes : {X Y : Type 0} (test : Y → Bool) (g : X → Y) (keeps passes : X → Bool) → ((x : X) → keeps x ≡ true → passes x ≡ true → test (g x) ≡ true) → (n : ℕ) (xs : List X) → position_from test n (map g xs) ≡ None → filter passes (filter keeps xs) ≡ []
none_passes test g keeps passes implied n [] e = refl
none_passes test g keeps passes implied n (x ∷ xs) e = of (none_passes test g keeps passes implied (n + 1) xs) (test (g x)) refl e
  where
    kept : (b : Bool) → keeps x ≡ b → (c : Bool) → passes x ≡ c → test (g x) ≡ false → filter passes (filter keeps xs) ≡ [] → filter passes (if b then x ∷ filter keeps xs else filter keeps xs) ≡ []
    kept false is c are failed none = none
    kept true is true are failed none = absurd (true≢false (sym (implied x is are) ∙ failed))
    kept true is false are failed none = ap (λ p. if p then x ∷ filter passes (filter keeps xs) else filter passes (filter keeps xs)) are ∙ none

    of : (position_from test (n + 1) (map g xs) ≡ None → filter passes (filter keeps xs) ≡ []) → (b : Bool) → test (g x) ≡ b → (if b then Some n else position_from test (n + 1) (map g xs)) ≡ None → filter passes (if keeps x then x ∷ filter keeps xs else filter keeps xs) ≡ []
    of rest true is found = cc
    of rest false is found = kept (keeps x) refl (passes x) refl is (rest found)

both : (a b : Bool) → (a && b) ≡ true → (a ≡ true) × (b ≡ true)
both true b e = (refl, e)
both false b e = absurd (true≢false (sym e))

-- the operations of others by the table are those by places
apart : (a b c : Bool) → (a && not b && not c) ≡ (a && not (b || c))
apart a true c = of a
  where
    of : (a : Bool) → (a && false && not c) ≡ (a && false)
    of true = refl
    of false = refl
apart true false c = refl
apart false false c = refl

pub others-places : {A : Type 0} (m : Parts A) (h : List (Kept A)) → ShowsPlaces m h (summary_of m h) → (t : ℕ) (o : Operation) →
    is_of_others t (exempt m (summary_of m h) t) (summary_of m h).permits (held_op o (standing m h o)) ≡ by_places.is_of_others m h t o.object (standing m h o)
others-places m h shows t o =
    let s = standing m h o in
    apart (is_open s.fate && not (s.holder == t)) (is_among (exempt m (summary_of m h) t) (record { 0 = s.holder })) ((summary_of m h).permits s.holder t o.object)
    ∙ ap (λ b. is_open s.fate && not (s.holder == t) && not b) (sym (exempt-places m h shows t o.object (record { 0 = s.holder })))

-- if no operation conflicts by the table, none conflicts by places
pub conflicting-none : {A : Type 0} (m : Parts A) (h : List (Kept A)) (t : ℕ) (ob : ObjId) (op : Op) → ShowsPlaces m h (summary_of m h) → first_number (stands_against m (summary_of m h) t ob op) (summary_of m h).operations ≡ None → conflicting m h t ob.0 op ≡ []
conflicting-none m h t ob op shows none =
    none_passes (stands_against m (summary_of m h) t ob op) (λ o. held_op o (standing m h o)) (λ o. by_places.is_of_others m h t o.object (standing m h o)) (λ o. (o.object == ob.0) && do_conflict m ob.0 o.op op)
    (λ o others conflicts.
    let on = both (o.object == ob.0) (do_conflict m ob.0 o.op op) conflicts in
    let formed = both (is_well_formed m ob.0 o.op) (is_well_formed m ob.0 op && conflict_on m ob.0 o.op op) on.1 in
    let differ = both (is_well_formed m ob.0 op) (conflict_on m ob.0 o.op op) formed.1 in
    let open_others = others-places m h shows t o ∙ others in
    (λ i. open_others i && on.0 i && differ.1 i))
    1 (operations h) (sym (ap (first_number (stands_against m (summary_of m h) t ob op)) shows.operations) ∙ none)
