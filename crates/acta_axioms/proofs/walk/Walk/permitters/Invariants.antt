use Rattle.std.proofs.Common.{◌≡◌, ℕ, ◌&&◌, ◌==◌, take}
use Rattle.std.specs.List.{list_any}
use Rattle.acta_axioms.specs.Permits.{is_permitted}
use Rattle.acta_axioms.proofs.walk.Walk.permitters.Given as goal

-- those found so far are the transactions seen whose permits are in force
abbrev pub invariant-loop-s : goal.invariant-loop-s
invariant-loop-s g l =
    (u : ℕ) → list_any (λ s. s.0 == u) l.found.items ≡ list_any (λ s. (s.0 == u) && is_permitted l.self.front s.0 l.t.0 l.object.0) (take l.s-index l.s-items)
