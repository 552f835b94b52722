-- The answers of current values, and the initial values.
use Rattle.std.proofs.Common.{◌≡◌, ℕ, zero, suc, ◌==◌, ◌&&◌, Bool, true, false, cond, ◌+◌, ◌<◌, ◌≤◌, List, [], ◌∷◌, ◌++◌, length, get_or, take, Some, None, refl, sym, ap, ◌∙◌, subst, arith}
use Rattle.std.specs.Prelude.{option_map, slice_get}
use Rattle.std.specs.List.{AllZip, cons_option}
use Rattle.std.proofs.lemmas.List.{take_more}
use Rattle.std.proofs.lemmas.Option.{slice_get-get_or, slice_get_past}
use Rattle.acta_table.specs.declared.event.Op.{Op}
use Rattle.acta_table.specs.declared.model.Kind.{Kind}
use Rattle.acta_table.specs.declared.model.Kind.TheVariants.{Elements as elements_kind}
use Rattle.acta_objects.specs.declared.state.ObjectState.{ObjectState}
use Rattle.acta_objects.specs.Objects.{suits, first_state, step, state_after}
use Rattle.acta_objects.proofs.OfKind.{IsOf, is_of-step, is_of-first, idle}
use Rattle.acta_sets.specs.declared.held_op.HeldOp.{HeldOp}
use Rattle.acta_sets.specs.Operations.{is_live}
use Rattle.acta_values.specs.Live.{live_ops}
use Rattle.acta_values.specs.declared.live_value.LiveValue.{LiveValue}
use Rattle.acta_values.specs.declared.trail.Numbered.{Numbered}
use Rattle.acta_values.specs.LiveValues.{ops_of, IsAfter}
use Rattle.acta_values.specs.KeptValues.{numbered_from, numbered_live, AreAfter}

-- operations of other kinds have no effect on a value
state-equivalent : {A : Type 0} (kind : Kind) (object n : ℕ) (items : List HeldOp) (s : ObjectState A) → IsOf kind s → state_after s (ops_of (numbered_from object n items)) ≡ state_after s (live_ops kind items object)
state-equivalent kind object n [] s ok = refl
state-equivalent {A} kind object n (i ∷ items) s ok =
    at (i.ob.0 == object) (is_live i) (suits kind i.op) refl (state-equivalent kind object (n + 1) items s ok) (state-equivalent kind object (n + 1) items (step s i.op) (is_of-step kind s i.op ok))
  where
    at : (on live fits : Bool) → suits kind i.op ≡ fits → state_after s (ops_of (numbered_from object (n + 1) items)) ≡ state_after s (live_ops kind items object)
        → state_after (step s i.op) (ops_of (numbered_from object (n + 1) items)) ≡ state_after (step s i.op) (live_ops kind items object)
        → state_after s (ops_of (cons_option (option_map (λ op. record { number = n; item = op }) (cond (on && live) (Some i.op) None)) (numbered_from object (n + 1) items)))
        ≡ state_after s (cons_option (cond ((on && live) && fits) (Some i.op) None) (live_ops kind items object))
    at true true true is stays goes = goes
    at true true false is stays goes = ap (λ x. state_after x (ops_of (numbered_from object (n + 1) items))) (idle kind s i.op ok is) ∙ stays
    at true false fits is stays goes = stays
    at false live fits is stays goes = stays

-- the answer for an object that exists is the effect of its operations
pub read_there : {A R : Type 0} (kinds : List Kind) (items : List HeldOp) (values : List (LiveValue A)) (object : ℕ) (value : LiveValue A) (f : ObjectState A → R) (r : R)
    → AreAfter kinds items values → object < length values → value ≡ get_or values object value
    → ((kind : Kind) (ops : List (Numbered Op)) → IsAfter kind ops value → r ≡ f (state_after (first_state kind) (ops_of ops)))
    → Some r ≡ option_map (λ kind. f (state_after (first_state {A = A} kind) (live_ops kind items object))) (slice_get kinds object)
read_there {A = A} {R = R} kinds items values object value f r after within is says =
    let kind : Kind = get_or kinds object elements_kind in
    let there : slice_get kinds object ≡ Some kind = slice_get-get_or kinds object elements_kind (omega (arith, within, after.long)) in
    let here : slice_get values object ≡ Some value = slice_get-get_or values object value within ∙ ap (λ v. Some v) (sym is) in
    ap (λ (x : R). Some x) (says kind (numbered_live items object) (after.each object kind value there here) ∙ ap f (state-equivalent kind object 1 items (first_state kind) (is_of-first A kind)))
    ∙ ap (option_map (λ k. f (state_after (first_state {A = A} k) (live_ops k items object)))) (sym there)

-- a missing object has no answer
pub read_nothing : {A R : Type 0} (kinds : List Kind) (items : List HeldOp) (values : List (LiveValue A)) (object : ℕ) (f : Kind → R)
    → AreAfter kinds items values → length values ≤ object → None ≡ option_map f (slice_get kinds object)
read_nothing kinds items values object f after past = ap (option_map f) (sym (slice_get_past kinds object (omega (arith, past, after.long))))

-- ---- the first values

first_each : {A : Type 0} (kinds : List Kind) (values : List (LiveValue A)) → AllZip (λ kind v. IsAfter kind [] v) kinds values
    → (k : ℕ) (kind : Kind) (value : LiveValue A) → slice_get kinds k ≡ Some kind → slice_get values k ≡ Some value → IsAfter kind [] value
first_each [] values all k kind value kind_is value_is = cc
first_each (q ∷ kinds) [] all k kind value kind_is value_is = absurd all
first_each {A = A} (q ∷ kinds) (v ∷ values) all zero kind value kind_is value_is =
    let same_kind : q ≡ kind = cc in
    let same_value : v ≡ value = cc in
    subst (λ (w : LiveValue A). IsAfter kind [] w) same_value (subst (λ (k : Kind). IsAfter k [] v) same_kind all.0)
first_each (q ∷ kinds) (v ∷ values) all (suc k) kind value kind_is value_is = first_each kinds values all.1 k kind value kind_is value_is

first_long : {A : Type 0} (kinds : List Kind) (values : List (LiveValue A)) → AllZip (λ kind v. IsAfter kind [] v) kinds values → length values ≡ length kinds
first_long [] [] all = refl
first_long [] (v ∷ values) all = absurd all
first_long (q ∷ kinds) [] all = absurd all
first_long (q ∷ kinds) (v ∷ values) all = let later = first_long kinds values all.1 in omega (arith, later)

pub first_after : {A : Type 0} (kinds : List Kind) (values : List (LiveValue A)) → AllZip (λ kind v. IsAfter kind [] v) kinds values → AreAfter kinds [] values
first_after kinds values all = record {
  long = first_long kinds values all;
  few = omega arith;
  each = first_each kinds values all;
}

-- one more of each
pub zip_more : {X Y : Type 0} (R : X → Y → Type 0) (xs : List X) (ys : List Y) (i : ℕ) (x : X) (y : Y) → i < length xs → x ≡ get_or xs i x → AllZip R (take i xs) ys → R x y → AllZip R (take (i + 1) xs) (ys ++ y ∷ [])
zip_more R xs ys i x y within is all more =
    subst (λ (zs : List _). AllZip R zs (ys ++ y ∷ [])) (sym (take_more xs i x within) ∙ refl) (zip_push R (take i xs) ys (get_or xs i x) y all (subst (λ z. R z y) is more))
  where
    zip_push : {X Y : Type 0} (R : X → Y → Type 0) (xs : List X) (ys : List Y) (x : X) (y : Y) → AllZip R xs ys → R x y → AllZip R (xs ++ x ∷ []) (ys ++ y ∷ [])
    zip_push R [] [] x y all more = (more, tt)
    zip_push R [] (z ∷ ys) x y all more = absurd all
    zip_push R (z ∷ xs) [] x y all more = absurd all
    zip_push R (z ∷ xs) (w ∷ ys) x y all more = (all.0, zip_push R xs ys x y all.1 more)
