use Rattle.std.proofs.Common.{◌≡◌, ◌+◌, ◌++◌, drop, map}
use Rattle.acta_table.specs.Numbered.{numbers_from}
use Rattle.acta_axioms.specs.Walks.{held_ops}
use Rattle.acta_axioms.specs.inside.Walking.{is_sought, numbers_of}
use Rattle.acta_axioms.proofs.walk.Walk.seek.Given as goal

-- the numbers so far and those of the rest are those of all
abbrev pub invariant-loop-item : goal.invariant-loop-item
invariant-loop-item g l =
    record {
      next : l.number ≡ l.item-index + 1;
      reported : l.numbers.items ++ map (λ n. record { 0 = n }) (numbers_from (is_sought l.self.model l.self.front l.t.0 l.sought) l.number (drop l.item-index (held_ops l.self.model l.self.front))) ≡ numbers_of (is_sought l.self.model l.self.front l.t.0 l.sought) (held_ops l.self.model l.self.front);
    }
