-- The operations that count on an object, with their numbers.
use Rattle.std.proofs.Common.{◌≡◌, ◌≢◌, ℕ, zero, suc, ◌+◌, ◌<◌, ◌≤◌, true, ◌&&◌, cond, List, [], ◌∷◌, ◌++◌, length, set, Option, Some, None, refl, ap, ◌∙◌, subst, arith, eq-eqb, ne_eqb}
use Rattle.std.specs.Prelude.{option_map, slice_get}
use Rattle.std.specs.List.{cons_option}
use Rattle.acta_table.specs.declared.answer.Fate.TheVariants.{InProgress}
use Rattle.acta_table.specs.declared.event.ObjId.{ObjId}
use Rattle.acta_table.specs.declared.event.Op.{Op}
use Rattle.acta_table.specs.declared.event.TxnId.{TxnId}
use Rattle.acta_sets.specs.declared.held_op.HeldOp.{HeldOp}
use Rattle.acta_sets.specs.Operations.{added, is_live}
use Rattle.acta_values.specs.KeptValues.{stays_on, numbered_on, numbered_from, numbered_live}
use Rattle.acta_values.specs.declared.trail.Numbered.{Numbered}
use Rattle.acta_values.specs.Trails.{AreBelow, AreAbove}

-- ---- numbers and lengths

pub above_from : (object n m : ℕ) (items : List HeldOp) → m < n → AreAbove m (numbered_from object n items)
above_from object n m [] less = tt
above_from object n m (i ∷ items) less = at (stays_on object i) (above_from object (n + 1) m items (omega arith))
  where
    at : (r : Option Op) → AreAbove m (numbered_from object (n + 1) items)
        → AreAbove m (cons_option (option_map (λ op. record { number = n; item = op }) r) (numbered_from object (n + 1) items))
    at None later = later
    at (Some op) later = (less, later)

pub below_from : (object n m : ℕ) (items : List HeldOp) → n + length items ≤ m → AreBelow m (numbered_from object n items)
below_from object n m [] most = tt
below_from object n m (i ∷ items) most = at (stays_on object i) (below_from object (n + 1) m items (omega (arith, most)))
  where
    first : n < m
    first = omega (arith, most)

    at : (r : Option Op) → AreBelow m (numbered_from object (n + 1) items)
        → AreBelow m (cons_option (option_map (λ op. record { number = n; item = op }) r) (numbered_from object (n + 1) items))
    at None later = later
    at (Some op) later = (first, later)

pub length_from : (object n : ℕ) (items : List HeldOp) → length (numbered_from object n items) ≤ length items
length_from object n [] = omega arith
length_from object n (i ∷ items) = at (stays_on object i) (length_from object (n + 1) items)
  where
    at : (r : Option Op) → length (numbered_from object (n + 1) items) ≤ length items
        → length (cons_option (option_map (λ op. record { number = n; item = op }) r) (numbered_from object (n + 1) items)) ≤ length (i ∷ items)
    at None later = omega (arith, later)
    at (Some op) later = omega (arith, later)

-- ---- one more

cons_append : {X : Type 0} (r : Option X) (xs ys : List X) → cons_option r (xs ++ ys) ≡ cons_option r xs ++ ys
cons_append None xs ys = refl
cons_append (Some x) xs ys = refl

append_nothing : {X : Type 0} (xs : List X) → xs ++ [] ≡ xs
append_nothing [] = refl
append_nothing (x ∷ xs) = ap (λ (ys : List _). x ∷ ys) (append_nothing xs)

numbered_push : (object n : ℕ) (items : List HeldOp) (i : HeldOp) → numbered_from object n (items ++ i ∷ []) ≡ numbered_from object n items ++ cons_option (numbered_on object (n + length items) i) []
numbered_push object n [] i = ap (λ m. cons_option (numbered_on object m i) []) (omega arith)
numbered_push object n (j ∷ items) i =
    ap (λ (ops : List (Numbered Op)). cons_option (numbered_on object n j) ops) (numbered_push object (n + 1) items i ∙ ap (λ m. numbered_from object (n + 1) items ++ cons_option (numbered_on object m i) []) next)
    ∙ cons_append (numbered_on object n j) (numbered_from object (n + 1) items) (cons_option (numbered_on object (n + length (j ∷ items)) i) [])
  where
    next : (n + 1) + length items ≡ n + length (j ∷ items)
    next = omega arith

-- it counts for its object
live_same : (i : HeldOp) → is_live i ≡ true → stays_on i.ob.0 i ≡ Some i.op
live_same i live = λ k. cond ((eq-eqb i.ob.0 i.ob.0 refl k) && live k) (Some i.op) None

live_other : (object : ℕ) (i : HeldOp) → i.ob.0 ≢ object → stays_on object i ≡ None
live_other object i other = ap (λ b. cond (b && is_live i) (Some i.op) None) (ne_eqb _ _ other)

pub live_at : (object : ℕ) (i : HeldOp) → i.ob.0 ≡ object → is_live i ≡ true → stays_on object i ≡ Some i.op
live_at object i same live = subst (λ k. stays_on k i ≡ Some i.op) same (live_same i live)

pub live_off : (object : ℕ) (i : HeldOp) → i.ob.0 ≢ object → stays_on object i ≡ None
live_off = live_other

pub added_same : (object number : ℕ) (items : List HeldOp) (t : TxnId) (ob : ObjId) (op : Op) → ob.0 ≡ object → number ≡ length items + 1 → numbered_live (added items t ob op) object ≡ numbered_live items object ++ (record { number = number; item = op }) ∷ []
added_same object number items t ob op same next =
    numbered_push object 1 items (record { ob = ob; op = op; holder = t; fate = InProgress })
    ∙ (λ k. numbered_live items object ++ cons_option (option_map (λ p. record { number = at k; item = p }) (live_at object (record { ob = ob; op = op; holder = t; fate = InProgress }) same refl k)) [])
  where
    at : 1 + length items ≡ number
    at = omega (arith, next)

pub added_other : (object : ℕ) (items : List HeldOp) (t : TxnId) (ob : ObjId) (op : Op) → ob.0 ≢ object → numbered_live (added items t ob op) object ≡ numbered_live items object
added_other object items t ob op other =
    numbered_push object 1 items (record { ob = ob; op = op; holder = t; fate = InProgress })
    ∙ ap (λ r. numbered_live items object ++ cons_option (option_map (λ p. record { number = 1 + length items; item = p }) r) []) (live_off object (record { ob = ob; op = op; holder = t; fate = InProgress }) other)
    ∙ append_nothing (numbered_live items object)

-- ---- a list where one is another

pub set_same : {X : Type 0} (xs : List X) (i : ℕ) (a v : X) → slice_get (set xs i a) i ≡ Some v → a ≡ v
set_same [] i a v is = cc
set_same (x ∷ xs) zero a v is = cc
set_same (x ∷ xs) (suc i) a v is = set_same xs i a v is

pub set_other : {X : Type 0} (xs : List X) (i k : ℕ) (a : X) → k ≢ i → slice_get (set xs i a) k ≡ slice_get xs k
set_other [] i k a other = refl
set_other (x ∷ xs) zero zero a other = absurd (other refl)
set_other (x ∷ xs) zero (suc k) a other = refl
set_other (x ∷ xs) (suc i) zero a other = refl
set_other (x ∷ xs) (suc i) (suc k) a other = set_other xs i k a (λ e. other (ap suc e))
