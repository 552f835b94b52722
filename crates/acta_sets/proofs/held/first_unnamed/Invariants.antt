use Rattle.std.proofs.Common.{◌≡◌, drop}
use Rattle.std.specs.Prelude.{find, not}
use Rattle.acta_table.specs.Sets.{is_named}
use Rattle.acta_sets.proofs.held.first_unnamed.Given as goal

abbrev pub invariant-loop-op : goal.invariant-loop-op
invariant-loop-op g l = find (λ n. not (is_named l.ops n)) (drop l.op-index l.list) ≡ find (λ n. not (is_named l.ops n)) l.list
