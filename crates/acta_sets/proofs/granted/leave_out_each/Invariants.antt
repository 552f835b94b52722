use Rattle.std.specs.Prelude.{◌≡◌, ◌≤◌, ◌&&◌, ◌==◌, not, ℕ, map, length}
use Rattle.std.specs.Map.Iter.{deref}
use Rattle.acta_sets.specs.declared.grant.Grant.{Grant}
use Rattle.acta_sets.specs.Permits.{has_grant}
use Rattle.acta_sets.specs.inside.Granted.{is_granted}
use Rattle.acta_sets.proofs.granted.leave_out_each.Given as goal

-- the counterparts of the grants so far are removed
abbrev pub invariant-loop-grant : goal.invariant-loop-grant
invariant-loop-grant g l = record {
  left : (v object partner : ℕ) →
      is_granted l.table.items v object partner ≡ (is_granted l.initial.table.items v object partner && not ((l.t.0 == partner) && has_grant (map (deref {X = Grant}) l.yielded) object v));
  few : length l.initial.table.items ≤ 65536 → length l.table.items ≤ 65536;
}
