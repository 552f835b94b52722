-- The effect of operations on a counter: the sum of the amounts, which stays small.
use Rattle.std.proofs.Common.{◌≡◌, ℕ, ◌+◌, ◌≤◌, List, [], ◌∷◌, ◌++◌, length, fold, refl, ap, ◌∙◌, subst, arith, w32, w64}
use Rattle.std.specs.Prelude.{ℤ, ◌+ℤ◌, ◌-ℤ◌, FitsSigned}
use Rattle.std.specs.List.{AllByRecursion}
use Rattle.std.proofs.lemmas.Int.{ints}
use Rattle.acta_table.specs.declared.event.Op.{Op}
use Rattle.acta_table.specs.declared.event.Op.TheVariants.{Add}
use Rattle.acta_objects.specs.Objects.{counter_step}
use Rattle.acta_objects.specs.Limits.{AmountFits}
use Rattle.acta_objects.proofs.Near.{IsNear}
use Rattle.acta_values.specs.declared.trail.Numbered.{Numbered}
use Rattle.acta_values.specs.LiveValues.{ops_of, amount}

-- the sum after operations
abbrev pub sum_after : ℤ → List (Numbered Op) → ℤ
sum_after v ops = fold counter_step v (ops_of ops)

step_adds : (v : ℤ) (op : Op) → counter_step v op ≡ v +ℤ amount op
step_adds v (Add n) = refl
step_adds v _ = omega (arith, ints)

pub sum_push : (v : ℤ) (ops : List (Numbered Op)) (o : Numbered Op) → sum_after v (ops ++ o ∷ []) ≡ counter_step (sum_after v ops) o.item
sum_push v [] o = refl
sum_push v (p ∷ ops) o = sum_push (counter_step v p.item) ops o

-- a larger initial sum gives a final sum larger by the same amount
sum_shifted : (v a : ℤ) (ops : List (Numbered Op)) → sum_after (v +ℤ a) ops ≡ sum_after v ops +ℤ a
sum_shifted v a [] = refl
sum_shifted v a (o ∷ ops) =
    ap (λ z. sum_after z ops) shifted ∙ sum_shifted (counter_step v o.item) a ops
  where
    shifted : counter_step (v +ℤ a) o.item ≡ counter_step v o.item +ℤ a
    shifted = let p = step_adds (v +ℤ a) o.item in let q = step_adds v o.item in omega (arith, ints, p, q)

-- an operation among the others adds its amount
pub sum_among : (v : ℤ) (front : List (Numbered Op)) (o : Numbered Op) (back : List (Numbered Op)) → sum_after v (front ++ o ∷ back) ≡ sum_after v (front ++ back) +ℤ amount o.item
sum_among v [] o back = ap (λ z. sum_after z back) (step_adds v o.item) ∙ sum_shifted v (amount o.item) back
sum_among v (p ∷ front) o back = sum_among (counter_step v p.item) front o back

near_step : (m : ℕ) (v : ℤ) (op : Op) → IsNear m v → AmountFits op → IsNear (m + 1) (counter_step v op)
near_step m v (Add n) near fits = record { low = omega (arith, ints, near.low, fits); high = omega (arith, ints, near.high, fits) }
near_step m v _ near fits = record { low = omega (arith, ints, near.low); high = omega (arith, ints, near.high) }

near_from : (m : ℕ) (v : ℤ) (ops : List (Numbered Op)) → IsNear m v → AllByRecursion (λ o. AmountFits o.item) ops → IsNear (m + length ops) (sum_after v ops)
near_from m v [] near fits = subst (λ k. IsNear k v) (omega arith) near
near_from m v (o ∷ ops) near fits =
    subst (λ k. IsNear k (sum_after v (o ∷ ops))) (omega arith) (near_from (m + 1) (counter_step v o.item) ops (near_step m v o.item near fits.0) fits.1)

near_first : (v : ℤ) → FitsSigned w32 v → IsNear 1 v
near_first v fits = record { low = omega (arith, ints, fits); high = omega (arith, ints, fits) }

-- the sum is near zero
pub sum_near : (v : ℤ) (ops : List (Numbered Op)) → FitsSigned w32 v → AllByRecursion (λ o. AmountFits o.item) ops → IsNear (length ops + 1) (sum_after v ops)
sum_near v ops first fits = subst (λ k. IsNear k (sum_after v ops)) (omega arith) (near_from 1 v ops (near_first v first) fits)

-- a sum near zero fits 64 bits
pub near_fits : (m : ℕ) (v : ℤ) → m ≤ 65538 → IsNear m v → FitsSigned w64 v
near_fits m v few near = omega (arith, ints, few, near.low, near.high)

pub near_more : (m : ℕ) (v : ℤ) (op : Op) → IsNear m v → AmountFits op → IsNear (m + 1) (counter_step v op)
near_more = near_step

pub near_less : (m : ℕ) (v : ℤ) (op : Op) → IsNear m v → AmountFits op → IsNear (m + 1) (v -ℤ amount op)
near_less m v (Add n) near fits = record { low = omega (arith, ints, near.low, fits); high = omega (arith, ints, near.high, fits) }
near_less m v _ near fits = record { low = omega (arith, ints, near.low); high = omega (arith, ints, near.high) }
