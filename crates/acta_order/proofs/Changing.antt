-- The values of objects that differ from their first, one more.
use Rattle.std.proofs.Common.{arith, ◌≡◌, ℕ, ◌+◌, ◌<◌, ◌≤◌, ◌==◌, List, [], ◌∷◌, ◌++◌, length, get_or, map, Some, None, sym, ap, ◌∙◌, subst, inl, inr}
use Rattle.std.specs.Prelude.{option_map, if◌then◌else◌}
use Rattle.std.proofs.lemmas.Bool.{cases_lt, ne_eqb, eq-eqb}
use Rattle.std.proofs.lemmas.Grind.{fold-append}
use Rattle.std.proofs.lemmas.Option.{slice_get_past, slice_get-get_or, none-some}
use Rattle.acta_table.specs.declared.model.Kind.{Kind}
use Rattle.acta_objects.specs.declared.state.ObjectState.{ObjectState}
use Rattle.acta_objects.specs.Objects.{first_state, state_after}
use Rattle.acta_values.specs.Live.{live_ops}
use Rattle.acta_axioms.specs.Serial.{Values}
use Rattle.acta_order.specs.declared.memo.Changed.{Changed}
use Rattle.acta_order.specs.Memos.{values_in}
use Rattle.acta_order.specs.Search.{Replaying, held, values_at, values_of}

-- with these changes the values of the first objects are as on the replay, and the others as at first
pub record AreChanged (A : Type 0) (b : Replaying) (changes : List (Changed A)) (k : ℕ) : Type 0 where
  pub done : (j : ℕ) → j < k → values_in (values_at {A = A} b.kinds []) changes j ≡ values_of b j
  pub rest : (j : ℕ) → k ≤ j → values_in (values_at {A = A} b.kinds []) changes j ≡ values_at b.kinds [] j

-- the value of the next is its first
pub changed-same : (A : Type 0) (b : Replaying) (changes : List (Changed A)) (k : ℕ) → AreChanged A b changes k → values_at {A = A} b.kinds [] k ≡ values_of b k → AreChanged A b changes (k + 1)
changed-same A b changes k before same = record {
  done = λ j below.
      elim (cases_lt j k) [
        | inl lt ↦ before.done j lt
        | inr ge ↦ let is : k ≡ j = omega (arith, ge, below) in subst (λ n. values_in (values_at {A = A} b.kinds []) changes n ≡ values_of b n) is (before.rest k (omega arith) ∙ same)
      ];
  rest = λ j past. before.rest j (omega (arith, past));
}

-- it is put after the others
pub changed-more : (A : Type 0) (b : Replaying) (changes more : List (Changed A)) (k : ℕ) (s : ObjectState A) → AreChanged A b changes k → Some s ≡ values_of b k → more ≡ changes ++ (record { place = k; state = s }) ∷ [] → AreChanged A b more (k + 1)
changed-more A b changes more k s before is grown = record {
  done = λ j below.
      ap (λ (v : Values A). v j) whole
      ∙ elim (cases_lt j k) [
        | inl lt ↦ ap (λ x. if x then Some s else values_in first changes j) (ne_eqb k j (λ e. omega (arith, e, lt))) ∙ before.done j lt
        | inr ge ↦ let same : k ≡ j = omega (arith, ge, below) in ap (λ x. if x then Some s else values_in first changes j) (eq-eqb k j same) ∙ is ∙ ap (λ n. values_of b n) same
      ];
  rest = λ j past.
      ap (λ (v : Values A). v j) whole
      ∙ ap (λ x. if x then Some s else values_in first changes j) (ne_eqb k j (λ e. omega (arith, e, past))) ∙ before.rest j (omega (arith, past));
}
  where
    first : Values A
    first = values_at b.kinds []

    whole : values_in first more ≡ (λ object. if k == object then Some s else values_in first changes object)
    whole = ap (values_in first) grown ∙ fold-append (λ (v : Values A) (c : Changed A) object. if c.place == object then Some c.state else v object) first changes ((record { place = k; state = s }) ∷ [])

-- all of them
pub changed-all : (A : Type 0) (b : Replaying) (changes : List (Changed A)) (k : ℕ) → AreChanged A b changes k → length b.kinds ≤ k → (j : ℕ) → values_in (values_at {A = A} b.kinds []) changes j ≡ values_of b j
changed-all A b changes k before past j =
    elim (cases_lt j k) [
      | inl lt ↦ before.done j lt
      | inr ge ↦
          before.rest j ge
          ∙ ap (option_map (λ kind. state_after (first_state {A = A} kind) (live_ops kind [] j))) (slice_get_past b.kinds j (omega (arith, ge, past)))
          ∙ sym (ap (option_map (λ kind. state_after (first_state {A = A} kind) (live_ops kind (map held b.done) j))) (slice_get_past b.kinds j (omega (arith, ge, past))))
    ]

-- the first value of an object
pub first-of : (A : Type 0) (b : Replaying) (k : ℕ) (d : Kind) → k < length b.kinds → values_at {A = A} b.kinds [] k ≡ Some (first_state (get_or b.kinds k d))
first-of A b k d within = ap (option_map (λ kind. state_after (first_state {A = A} kind) (live_ops kind [] k))) (slice_get-get_or b.kinds k d within)

-- there is a value of each object
pub value-there : (A : Type 0) (b : Replaying) (k : ℕ) (d : Kind) → k < length b.kinds → None ≡ values_of {A = A} b k → ⊥
value-there A b k d within none =
    none-some (state_after (first_state {A = A} (get_or b.kinds k d)) (live_ops (get_or b.kinds k d) (map held b.done) k))
    (none ∙ ap (option_map (λ kind. state_after (first_state {A = A} kind) (live_ops kind (map held b.done) k))) (slice_get-get_or b.kinds k d within))
