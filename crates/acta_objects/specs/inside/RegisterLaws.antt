-- The table of conflicts on registers agrees with the definition of conflict.
use Rattle.std.specs.Prelude.{◌≡◌, refl, Bool, true, false, not, ℤ, pos, ◌+ℤ◌, ◌-ℤ◌}
use Rattle.std.proofs.Common.{sym, ap, ◌∙◌}
use Rattle.std.proofs.Math.IntN.{+ℤ_comm, +ℤ_idl, +ℤ-neg_ℤ_cancel}
use Rattle.std.proofs.lemmas.Bool.{true≢false}
use Rattle.std.proofs.lemmas.Cmp.{int_eq_equiv}
use Rattle.std.proofs.lemmas.Bool.Decides.{Decides-int_eq}
use Rattle.std.specs.Ordering.{int_eq}
use Rattle.acta_table.specs.declared.event.Op.{Op}
use Rattle.acta_table.specs.declared.event.Op.TheVariants.{Read, Write, Get, Add, Insert, Remove, Has, Size}
use Rattle.acta_table.specs.declared.event.Ret.{Ret}
use Rattle.acta_table.specs.declared.event.Ret.TheVariants.{Value}
use Rattle.acta_objects.specs.Objects.{is_register_op, register_step, register_return}
use Rattle.acta_objects.specs.Conflicts.{Commutes, Conflict, IsNumber, register_conflicts}

-- a test that is not false
pub true_from_not : (b : Bool) → not b ≡ false → b ≡ true
true_from_not true e = refl
true_from_not false e = absurd (true≢false e)

-- the number returned, if there is one
abbrev pub number_in : Ret → ℤ
number_in (Value v) = v
number_in _ = pos 0

-- no number is its successor
apart : (w : ℤ) → w +ℤ pos 1 ≡ w → ⊥
apart w e =
    let one : pos 1 ≡ pos 0 =
    sym (+ℤ-neg_ℤ_cancel (pos 1) w) ∙ ap (λ z. z -ℤ w) (+ℤ_comm (pos 1) w ∙ e ∙ sym (+ℤ_idl w)) ∙ +ℤ-neg_ℤ_cancel (pos 0) w in
    true≢false (sym (ap (λ z. int_eq z (pos 0)) one))

-- if the table says no, the order makes no difference
pub register_commutes : (p q : Op) → register_conflicts p q ≡ false → (v : ℤ) → IsNumber v → Commutes register_step register_return v p q
register_commutes Read (Write w) e v ok = absurd (true≢false e)
register_commutes (Write w) Read e v ok = absurd (true≢false e)
register_commutes (Write w) (Write u) e v ok =
    record { state = sym ((Decides-int_eq w u).0 (true_from_not (int_eq w u) e)); first = refl; second = refl }
register_commutes _ _ e v ok = record { state = refl; first = refl; second = refl }

-- if it says yes, the order makes a difference from some state
pub register_differs : (p q : Op) → register_conflicts p q ≡ true → Conflict IsNumber register_step register_return p q
register_differs Read (Write w) e =
    record { from = w +ℤ pos 1; is_state = tt; differs = λ c. apart w (ap number_in c.first) }
register_differs (Write w) Read e =
    record { from = w +ℤ pos 1; is_state = tt; differs = λ c. apart w (sym (ap number_in c.second)) }
register_differs (Write w) (Write u) e =
    record { from = pos 0; is_state = tt; differs = λ c. true≢false (sym e ∙ ap not ((Decides-int_eq w u).1 (sym c.state))) }
register_differs _ _ e = absurd (true≢false (sym e))

-- an operation that does not belong to registers conflicts with nothing
idle_right : (p q : Op) → is_register_op q ≡ false → register_conflicts p q ≡ false
idle_right Read (Write w) e = absurd (true≢false e)
idle_right (Write u) Read e = absurd (true≢false e)
idle_right (Write u) (Write w) e = absurd (true≢false e)
idle_right _ _ e = refl

pub register_symmetric : (p q : Op) → register_conflicts p q ≡ register_conflicts q p
register_symmetric Read (Write w) = refl
register_symmetric (Write w) Read = refl
register_symmetric (Write w) (Write u) = ap not (int_eq_equiv.symm w u)
register_symmetric Get q = sym (idle_right q Get refl)
register_symmetric (Add n) q = sym (idle_right q (Add n) refl)
register_symmetric (Insert x) q = sym (idle_right q (Insert x) refl)
register_symmetric (Remove x) q = sym (idle_right q (Remove x) refl)
register_symmetric (Has x) q = sym (idle_right q (Has x) refl)
register_symmetric Size q = sym (idle_right q Size refl)
register_symmetric _ _ = refl
