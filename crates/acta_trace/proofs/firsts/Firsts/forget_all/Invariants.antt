use Rattle.std.proofs.Common.{◌≡◌, ◌&&◌, ℕ, get_or}
use Rattle.std.specs.Prelude.{None, nat_lt, nat_le}
use Rattle.acta_trace.specs.inside.Firsts.{forgotten}
use Rattle.acta_trace.proofs.firsts.Firsts.forget_all.Given as goal

-- what is forgotten so far
abbrev pub invariant-loop-number : goal.invariant-loop-number
invariant-loop-number g l =
    (n : ℕ) → get_or l.self.places.items n None ≡ forgotten (λ m. nat_lt l.first m && nat_le m l.number) l.initial.self.places.items l.place n
