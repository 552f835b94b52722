use Rattle.std.specs.Prelude.{◌≡◌, ◌≤◌, ℕ, length}
use Rattle.acta_sets.specs.inside.Granted.{is_granted}
use Rattle.acta_sets.proofs.granted.grow_to.Given as goal

-- the new sets make no difference
abbrev pub invariant-loop : goal.invariant-loop
invariant-loop g l = record {
  same : (v object partner : ℕ) → is_granted l.table.items v object partner ≡ is_granted l.initial.table.items v object partner;
  long : length l.table.items ≡ l.counter;
  few : length l.initial.table.items ≤ 65536 → length l.table.items ≤ 65536;
}
