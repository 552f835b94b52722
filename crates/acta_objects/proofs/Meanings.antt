-- A table of conflicts agrees with the definition of conflict if it satisfies both laws.
use Rattle.std.proofs.Common.{◌≡◌, refl, Bool, true, false, ◌↔◌}
use Rattle.std.specs.Prelude.{IsTrue}
use Rattle.acta_objects.specs.Conflicts.{Commutes, Conflict}

module _ {S O R : Type 0} (IsState : S → Type 0) (step : S → O → S) (returned : S → O → R) (table : O → O → Bool) where
  pub is_meant : ((p q : O) → table p q ≡ false → (v : S) → IsState v → Commutes step returned v p q)
      → ((p q : O) → table p q ≡ true → Conflict IsState step returned p q)
      → (p q : O) → IsTrue (table p q) ↔ Conflict IsState step returned p q
  is_meant commutes differs p q = (differs p q, λ h. at (table p q) refl h)
    where
      at : (t : Bool) → table p q ≡ t → Conflict IsState step returned p q → IsTrue t
      at true e h = refl
      at false e h = absurd (h.differs (commutes p q e h.from h.is_state))
