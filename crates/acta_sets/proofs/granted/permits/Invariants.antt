use Rattle.std.specs.Prelude.{◌≡◌, ◌&&◌, ℕ, nat_lt}
use Rattle.std.specs.List.Sorted.{IsStrictlySortedBy}
use Rattle.acta_sets.specs.Permits.{is_listed, permit_cmp}
use Rattle.acta_sets.specs.inside.Granted.{is_granted}
use Rattle.acta_sets.proofs.PermitLists.{AreBelow}
use Rattle.acta_sets.proofs.granted.permits.Given as goal

-- the permits of the transactions so far, in order
abbrev pub invariant-loop-to : goal.invariant-loop-to
invariant-loop-to g l = record {
  listed : (h t object : ℕ) → is_listed l.permits.items h t object ≡ (nat_lt t l.to && is_granted l.table.items t object h);
  ascending : IsStrictlySortedBy permit_cmp l.permits.items;
  below : AreBelow l.to l.permits.items;
}
