-- Lists with one item for each operation, showing its standing, give the numbers of conflicting operations, their
-- holders, and the values of objects.
use Rattle.std.proofs.Common.{if◌then◌else◌, ◌≡◌, ℕ, ◌==◌, Bool, true, false, ◌&&◌, cond, List, [], ◌∷◌, map, filter, Option, None, refl, sym, ap, ◌∙◌}
use Rattle.std.specs.List.{filter_map, cons_option}
use Rattle.std.proofs.lemmas.List.Elements.{filter_agree}
use Rattle.acta_table.specs.declared.event.Op.{Op}
use Rattle.acta_table.specs.declared.event.Kept.{Kept}
use Rattle.acta_table.specs.declared.model.Kind.{Kind}
use Rattle.acta_table.specs.declared.model.Parts.{Parts}
use Rattle.acta_objects.specs.Objects.{first_state, state_after}
use Rattle.acta_axioms.specs.Operations.{Operation, operations, standing, is_of_others, is_in_view}
use Rattle.acta_axioms.specs.Values.{value, asked_of, do_conflict, conflicting}
use Rattle.acta_axioms.proofs.ValueGrowth.{filter-both}

held-shown : {X : Type 0} (holder : Operation → ℕ) (show : Operation → X) (test : X → Bool) (held : X → ℕ) → ((o : Operation) → held (show o) ≡ holder o) →
    (os : List Operation) → map holder (filter (λ o. test (show o)) os) ≡ map held (filter test (map show os))
held-shown holder show test held holds [] = refl
held-shown {X} holder show test held holds (o ∷ os) = of_test (test (show o)) (held-shown holder show test held holds os)
  where
    of_test : (b : Bool) → map holder (filter (λ q. test (show q)) os) ≡ map held (filter test (map show os)) →
        map holder (cond b (o ∷ filter (λ q. test (show q)) os) (filter (λ q. test (show q)) os)) ≡ map held (cond b (show o ∷ filter test (map show os)) (filter test (map show os)))
    of_test true later = λ i. sym (holds o) i ∷ later i
    of_test false later = later

-- the holders, from what the items show
pub holders-shown : {A X : Type 0} (m : Parts A) (h : List (Kept A)) (t object : ℕ) (op : Op) (show : Operation → X) (test : X → Bool) (held : X → ℕ) →
    ((o : Operation) → test (show o) ≡ (is_of_others m h t o.object (standing m h o) && ((o.object == object) && do_conflict m object o.op op))) →
    ((o : Operation) → held (show o) ≡ (standing m h o).holder) →
    map (λ o. (standing m h o).holder) (conflicting m h t object op) ≡ map held (filter test (map show (operations h)))
holders-shown m h t object op show test held tells holds =
    ap (map (λ (o : Operation). (standing m h o).holder))
    (sym (filter-both (λ o. is_of_others m h t o.object (standing m h o)) (λ o. (o.object == object) && do_conflict m object o.op op) (operations h))
    ∙ filter_agree (λ o. is_of_others m h t o.object (standing m h o) && ((o.object == object) && do_conflict m object o.op op)) (λ o. test (show o)) (λ o. sym (tells o)) (operations h))
    ∙ held-shown (λ o. (standing m h o).holder) show test held holds (operations h)

asked-shown : {X : Type 0} (seen : Operation → Bool) (asked : Operation → Option Op) (show : Operation → X) (ask : X → Option Op) →
    ((o : Operation) → ask (show o) ≡ (if seen o then asked o else None)) → (os : List Operation) → filter_map asked (filter seen os) ≡ filter_map ask (map show os)
asked-shown seen asked show ask tells [] = refl
asked-shown {X} seen asked show ask tells (o ∷ os) =
    of_test (seen o) (asked-shown seen asked show ask tells os) ∙ ap (λ p. cons_option p (filter_map ask (map show os))) (sym (tells o))
  where
    of_test : (b : Bool) → filter_map asked (filter seen os) ≡ filter_map ask (map show os) →
        filter_map asked (cond b (o ∷ filter seen os) (filter seen os)) ≡ cons_option (if b then asked o else None) (filter_map ask (map show os))
    of_test true later = ap (cons_option (asked o)) later
    of_test false later = later

-- the value of an object, from what the items show
pub value-shown : {A X : Type 0} (m : Parts A) (h : List (Kept A)) (object : ℕ) (kind : Kind) (show : Operation → X) (ask : X → Option Op) →
    ((o : Operation) → ask (show o) ≡ (if is_in_view (standing m h o) then asked_of object kind o else None)) →
    value m h object kind ≡ state_after (first_state kind) (filter_map ask (map show (operations h)))
value-shown m h object kind show ask tells =
    ap (state_after (first_state kind)) (asked-shown (λ o. is_in_view (standing m h o)) (asked_of object kind) show ask tells (operations h))
