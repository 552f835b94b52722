-- Cursors whose machine is at the place.
use Rattle.std.proofs.Common.{◌≡◌, ℕ, ap, ◌∙◌}
use Rattle.acta_debug.specs.Cursors.{CursorState, arrived}
use Rattle.acta_debug.specs.Sessions.{Session, moved_to}

-- the debugger of a settled cursor is at the place
pub settled : {A : Type 0} (d : Session A) (at : ℕ) (c : CursorState A) (s : Session A) → record { session = moved_to d at; reached = d.at } ≡ c → c ≡ arrived s → d ≡ s
settled {A} d at c s view is =
    let all : record { session = moved_to d at; reached = d.at } ≡ arrived s = view ∙ is in
    λ i. record {
      model = ap (λ (c : CursorState A). c.session.model) all i;
      history = ap (λ (c : CursorState A). c.session.history) all i;
      at = ap (λ (c : CursorState A). c.reached) all i;
      breaks = ap (λ (c : CursorState A). c.session.breaks) all i;
    }

-- a cursor at the place of its debugger is settled
pub at_place : {A : Type 0} (d : Session A) (at : ℕ) (s : Session A) → at ≡ d.at → d ≡ s → record { session = moved_to d at; reached = d.at } ≡ arrived s
at_place d at s is same = (λ i. record { session = moved_to d (is i); reached = d.at }) ∙ ap arrived same
