-- The table of conflicts on counters agrees with the definition of conflict.
use Rattle.std.specs.Prelude.{◌≡◌, refl, true, false, not, ℤ, pos, ◌+ℤ◌}
use Rattle.std.proofs.Common.{sym, ap, ◌∙◌, arith}
use Rattle.std.proofs.lemmas.Int.{ints}
use Rattle.std.proofs.lemmas.Bool.{true≢false}
use Rattle.std.proofs.lemmas.Bool.Decides.{Decides-int_eq}
use Rattle.std.specs.Ordering.{int_eq}
use Rattle.acta_table.specs.declared.event.Op.{Op}
use Rattle.acta_table.specs.declared.event.Op.TheVariants.{Read, Write, Get, Add, Insert, Remove, Has, Size}
use Rattle.acta_table.specs.declared.event.Ret.TheVariants.{Value}
use Rattle.acta_objects.specs.Objects.{is_counter_op, counter_step, counter_return}
use Rattle.acta_objects.specs.Conflicts.{Commutes, Conflict, IsNumber, counter_conflicts}
use Rattle.acta_objects.specs.inside.RegisterLaws.{true_from_not, number_in}

-- adding this changes nothing
add_nothing : (v n : ℤ) → n ≡ pos 0 → v ≡ v +ℤ n
add_nothing v n e = omega (arith, ints)

-- sums in either order
sums_commute : (v n m : ℤ) → (v +ℤ n) +ℤ m ≡ (v +ℤ m) +ℤ n
sums_commute v n m = omega (arith, ints)

-- what is added to nothing, where that is nothing again
nothing_added : (n : ℤ) → pos 0 ≡ pos 0 +ℤ n → n ≡ pos 0
nothing_added n e = omega (arith, ints)

is_nothing : (n : ℤ) → not (int_eq n (pos 0)) ≡ false → n ≡ pos 0
is_nothing n e = (Decides-int_eq n (pos 0)).0 (true_from_not (int_eq n (pos 0)) e)

-- if the table says no, the order makes no difference
pub counter_commutes : (p q : Op) → counter_conflicts p q ≡ false → (v : ℤ) → IsNumber v → Commutes counter_step counter_return v p q
counter_commutes Get (Add n) e v ok =
    record { state = refl; first = ap Value (add_nothing v n (is_nothing n e)); second = refl }
counter_commutes (Add n) Get e v ok =
    record { state = refl; first = refl; second = ap Value (sym (add_nothing v n (is_nothing n e))) }
counter_commutes (Add n) (Add m) e v ok = record { state = sums_commute v n m; first = refl; second = refl }
counter_commutes _ _ e v ok = record { state = refl; first = refl; second = refl }

-- a number that is no zero is not zero
no_zero : (n : ℤ) → not (int_eq n (pos 0)) ≡ true → n ≡ pos 0 → ⊥
no_zero n e z = true≢false (sym e ∙ ap not ((Decides-int_eq n (pos 0)).1 z))

-- if it says yes, the order makes a difference from zero
pub counter_differs : (p q : Op) → counter_conflicts p q ≡ true → Conflict IsNumber counter_step counter_return p q
counter_differs Get (Add n) e =
    record { from = pos 0; is_state = tt; differs = λ c. no_zero n e (nothing_added n (ap number_in c.first)) }
counter_differs (Add n) Get e =
    record { from = pos 0; is_state = tt; differs = λ c. no_zero n e (nothing_added n (sym (ap number_in c.second))) }
counter_differs _ _ e = absurd (true≢false (sym e))

-- an operation that does not belong to counters conflicts with nothing
idle_right : (p q : Op) → is_counter_op q ≡ false → counter_conflicts p q ≡ false
idle_right Get (Add n) e = absurd (true≢false e)
idle_right (Add n) Get e = absurd (true≢false e)
idle_right _ _ e = refl

pub counter_symmetric : (p q : Op) → counter_conflicts p q ≡ counter_conflicts q p
counter_symmetric Get (Add n) = refl
counter_symmetric (Add n) Get = refl
counter_symmetric Read q = sym (idle_right q Read refl)
counter_symmetric (Write w) q = sym (idle_right q (Write w) refl)
counter_symmetric (Insert x) q = sym (idle_right q (Insert x) refl)
counter_symmetric (Remove x) q = sym (idle_right q (Remove x) refl)
counter_symmetric (Has x) q = sym (idle_right q (Has x) refl)
counter_symmetric Size q = sym (idle_right q Size refl)
counter_symmetric _ _ = refl
