use Rattle.std.proofs.Common.{◌≡◌, ◌<◌, ◌≤◌, ℕ, true}
use Rattle.acta_order.specs.Orders.{is_in}
use Rattle.acta_order.proofs.path.Path.first_open.Given as goal

-- those that were passed are placed
abbrev pub invariant-loop-j : goal.invariant-loop-j
invariant-loop-j g l = (k : ℕ) → l.from ≤ k → k < l.j → is_in l.self.stack k ≡ true
