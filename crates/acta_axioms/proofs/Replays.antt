-- The values of all objects after operations: operations that do not conflict commute from all values that a model's
-- objects can have, and the values are those defined by places.
use Rattle.std.proofs.Common.{◌≡◌, ℕ, ◌==◌, Bool, true, false, ◌&&◌, not, List, [], ◌∷◌, fold, Option, Some, None, refl, sym, ap, ◌∙◌, subst}
use Rattle.std.specs.Prelude.{if◌then◌else◌, option_map}
use Rattle.std.specs.List.{filter_map, cons_option}
use Rattle.std.specs.Option.{option_map_or}
use Rattle.std.proofs.lemmas.Bool.{true≢false, eqb-true, eq-eqb, not-true}
use Rattle.acta_table.specs.declared.event.Op.{Op}
use Rattle.acta_table.specs.declared.event.Ret.{Ret}
use Rattle.acta_table.specs.declared.model.Kind.{Kind}
use Rattle.acta_table.specs.declared.model.Kind.TheVariants.{Register as register_kind, Counter as counter_kind, Elements as elements_kind}
use Rattle.acta_table.specs.declared.model.Parts.{Parts}
use Rattle.acta_table.specs.Classes.{kind_at}
use Rattle.acta_objects.specs.declared.state.ObjectState.{ObjectState}
use Rattle.acta_objects.specs.declared.state.ObjectState.TheVariants.{Register, Counter, Elements}
use Rattle.acta_objects.specs.Objects.{suits, first_state, step, returned, state_after}
use Rattle.acta_objects.specs.Conflicts.{Commutes, conflicts, conflict_on}
use Rattle.acta_objects.specs.inside.RegisterLaws.{register_commutes}
use Rattle.acta_objects.specs.inside.CounterLaws.{counter_commutes}
use Rattle.acta_objects.specs.inside.SetLaws.{set_commutes}
use Rattle.acta_objects.proofs.OfKind.{IsOf, is_of-step, is_of-first, idle}
use Rattle.acta_table.specs.declared.event.Kept.{Kept}
use Rattle.acta_axioms.specs.Operations.{Operation, view_set}
use Rattle.acta_axioms.specs.Values.{asked_of, value, return_due}
use Rattle.acta_axioms.proofs.ValueGrowth.{eqb-turned}
use Rattle.acta_axioms.specs.Serial.{Values, first_values, values_after, returned_from}

-- there is a value exactly if there is an object
abbrev pub Fits : {A : Type 0} → Option Kind → Option (ObjectState A) → Type 0
Fits None None = Unit {0}
Fits (Some kind) (Some s) = IsOf kind s
Fits _ _ = ⊥

-- the same for all objects
abbrev pub AreValues : {A : Type 0} → Parts A → Values A → Type 0
AreValues m values = (object : ℕ) → Fits (kind_at m object) (values object)

fits-step : {A : Type 0} (kind : Option Kind) (s : Option (ObjectState A)) (op : Op) → Fits kind s → Fits kind (option_map (λ x. step x op) s)
fits-step None None op ok = tt
fits-step None (Some s) op ok = ok
fits-step (Some kind) None op ok = ok
fits-step (Some kind) (Some s) op ok = is_of-step kind s op ok

-- the initial values are such values, and so are those after an operation
pub values-first : {A : Type 0} (m : Parts A) → AreValues m (first_values m)
values-first {A} m object = of (kind_at m object)
  where
    of : (kind : Option Kind) → Fits {A = A} kind (option_map first_state kind)
    of None = tt
    of (Some kind) = is_of-first A kind

pub values-step : {A : Type 0} (m : Parts A) (values : Values A) (o : Operation) → AreValues m values → AreValues m (values_after values o)
values-step {A} m values o ok object = of (o.object == object)
  where
    of : (b : Bool) → Fits (kind_at m object) (if b then option_map (λ s. step s o.op) (values object) else values object)
    of true = fits-step (kind_at m object) (values object) o.op (ok object)
    of false = ok object

-- two operations on one object
pub record CommuteThere {A : Type 0} (s : Option (ObjectState A)) (p q : Op) : Type 0 where
  pub state : option_map (λ x. step x q) (option_map (λ x. step x p) s) ≡ option_map (λ x. step x p) (option_map (λ x. step x q) s)
  pub first : option_map (λ x. returned x p) s ≡ option_map (λ x. returned x p) (option_map (λ x. step x q) s)
  pub second : option_map (λ x. returned x q) (option_map (λ x. step x p) s) ≡ option_map (λ x. returned x q) s

commute-of : {A : Type 0} (kind : Kind) (s : ObjectState A) (p q : Op) → IsOf kind s → conflicts kind p q ≡ false → CommuteThere (Some s) p q
commute-of {A} (register_kind v) (Register x) p q ok free =
    let c = register_commutes p q free x tt in
    record { state = ap (λ y. Some (Register y)) c.state; first = ap Some c.first; second = ap Some c.second }
commute-of (register_kind v) (Counter x) p q ok free = absurd ok
commute-of (register_kind v) (Elements x) p q ok free = absurd ok
commute-of (counter_kind v) (Register x) p q ok free = absurd ok
commute-of (counter_kind v) (Counter x) p q ok free =
    let c = counter_commutes p q free x tt in
    record { state = ap (λ y. Some (Counter y)) c.state; first = ap Some c.first; second = ap Some c.second }
commute-of (counter_kind v) (Elements x) p q ok free = absurd ok
commute-of elements_kind (Register x) p q ok free = absurd ok
commute-of elements_kind (Counter x) p q ok free = absurd ok
commute-of elements_kind (Elements xs) p q ok free =
    let c = set_commutes p q free xs ok in
    record { state = ap (λ y. Some (Elements y)) c.state; first = ap Some c.first; second = ap Some c.second }

commute-there : {A : Type 0} (kind : Option Kind) (s : Option (ObjectState A)) (p q : Op) → Fits kind s → option_map_or (λ k. conflicts k p q) kind false ≡ false → CommuteThere s p q
commute-there None None p q ok free = record { state = refl; first = refl; second = refl }
commute-there None (Some s) p q ok free = absurd ok
commute-there (Some kind) None p q ok free = absurd ok
commute-there (Some kind) (Some s) p q ok free = commute-of kind s p q ok free

-- whether two operations are on different objects, or do not conflict
abbrev pub is_free : {A : Type 0} → Parts A → Operation → Operation → Bool
is_free m p q = not ((p.object == q.object) && conflict_on m q.object p.op q.op)

-- then they commute
pub commute-values : {A : Type 0} (m : Parts A) (p q : Operation) → is_free m p q ≡ true → (values : Values A) → AreValues m values → Commutes values_after returned_from values p q
commute-values {A} m p q free values ok = of (p.object == q.object) refl free
  where
    together : (a b : Bool) (s : Option (ObjectState A)) → (a ≡ true → b ≡ true → CommuteThere s p.op q.op) →
        (if b then option_map (λ x. step x q.op) (if a then option_map (λ x. step x p.op) s else s) else (if a then option_map (λ x. step x p.op) s else s))
        ≡ (if a then option_map (λ x. step x p.op) (if b then option_map (λ x. step x q.op) s else s) else (if b then option_map (λ x. step x q.op) s else s))
    together true true s c = (c refl refl).state
    together true false s c = refl
    together false true s c = refl
    together false false s c = refl

    if_p : Bool → Option Ret
    if_p b = option_map (λ x. returned x p.op) (if b then option_map (λ x. step x q.op) (values p.object) else values p.object)

    if_q : Bool → Option Ret
    if_q b = option_map (λ x. returned x q.op) (if b then option_map (λ x. step x p.op) (values q.object) else values q.object)

    of : (b : Bool) → (p.object == q.object) ≡ b → not (b && conflict_on m q.object p.op q.op) ≡ true → Commutes values_after returned_from values p q
    of true same e =
        let one : p.object ≡ q.object = eqb-true p.object q.object same in
        let at_q = commute-there (kind_at m q.object) (values q.object) p.op q.op (ok q.object) (not-true (conflict_on m q.object p.op q.op) e) in
        let at_p = subst (λ n. CommuteThere (values n) p.op q.op) (sym one) at_q in
        record {
          state = λ i object. together (p.object == object) (q.object == object) (values object) (λ a b. subst (λ n. CommuteThere (values n) p.op q.op) (eqb-true q.object object b) at_q) i;
          first = at_p.first ∙ ap if_p (sym (eqb-turned q.object p.object ∙ same));
          second = ap if_q same ∙ at_q.second;
        }
    of false apart e =
        record {
          state = λ i object. together (p.object == object) (q.object == object) (values object) (λ a b. absurd (true≢false (sym (eq-eqb p.object q.object (eqb-true p.object object a ∙ sym (eqb-true q.object object b))) ∙ apart))) i;
          first = ap if_p (sym (eqb-turned q.object p.object ∙ apart));
          second = ap if_q apart;
        }

-- the value of one object after an operation
abbrev after_at : {A : Type 0} → ℕ → Option (ObjectState A) → Operation → Option (ObjectState A)
after_at object s o = if o.object == object then option_map (λ x. step x o.op) s else s

at-object : {A : Type 0} (os : List Operation) (values : Values A) (object : ℕ) → fold values_after values os object ≡ fold (after_at object) (values object) os
at-object [] values object = refl
at-object (o ∷ os) values object = at-object os (values_after values o) object

none-there : {A : Type 0} (object : ℕ) (os : List Operation) → fold (after_at {A = A} object) None os ≡ None
none-there {A} object [] = refl
none-there {A} object (o ∷ os) = of (o.object == object) ∙ none-there object os
  where
    of : (b : Bool) → fold (after_at {A = A} object) (if b then None else None) os ≡ fold (after_at object) None os
    of true = refl
    of false = refl

asked-there : {A : Type 0} (object : ℕ) (kind : Kind) (s : ObjectState A) (os : List Operation) → IsOf kind s → fold (after_at object) (Some s) os ≡ Some (state_after s (filter_map (asked_of object kind) os))
asked-there object kind s [] ok = refl
asked-there {A} object kind s (o ∷ os) ok =
    of (o.object == object) (suits kind o.op) refl (asked-there object kind s os ok) (asked-there object kind (step s o.op) os (is_of-step kind s o.op ok))
  where
    of : (a b : Bool) → suits kind o.op ≡ b → fold (after_at object) (Some s) os ≡ Some (state_after s (filter_map (asked_of object kind) os))
        → fold (after_at object) (Some (step s o.op)) os ≡ Some (state_after (step s o.op) (filter_map (asked_of object kind) os))
        → fold (after_at object) (if a then Some (step s o.op) else Some s) os ≡ Some (state_after s (cons_option (if a && b then Some o.op else None) (filter_map (asked_of object kind) os)))
    of true true fits stays goes = goes
    of true false fits stays goes = ap (λ x. fold (after_at object) (Some x) os) (idle kind s o.op ok fits) ∙ stays
    of false b fits stays goes = stays

-- the values after the operations that are not aborted are those by places, and so are the returns due
pub due-replayed : {A : Type 0} (m : Parts A) (h : List (Kept A)) (o : Operation) → returned_from (fold values_after (first_values m) (view_set m h)) o ≡ return_due m h o.object o.op
due-replayed {A} m h o =
    ap (option_map (λ s. returned s o.op)) (at-object (view_set m h) (first_values m) o.object) ∙ of (kind_at m o.object)
  where
    of : (kind : Option Kind) → option_map (λ s. returned s o.op) (fold (after_at {A = A} o.object) (option_map first_state kind) (view_set m h)) ≡ option_map (λ k. returned (value m h o.object k) o.op) kind
    of None = ap (option_map (λ s. returned s o.op)) (none-there o.object (view_set m h))
    of (Some kind) = ap (option_map (λ s. returned s o.op)) (asked-there o.object kind (first_state kind) (view_set m h) (is_of-first A kind))
