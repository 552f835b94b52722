use Rattle.std.proofs.Common.{◌≡◌, ◌≤◌, ◌+◌, ◌*◌, drop, length, min}
use Rattle.std.specs.HashMap.{spare}
use Rattle.acta_sets.specs.Operations.{transferred_op}
use Rattle.acta_sets.specs.inside.Held.{changed_each}
use Rattle.acta_sets.specs.inside.Filing.{AreFiledBut}
use Rattle.acta_sets.proofs.changing.transfer_batches.Given as goal

-- changing the rest from here gives the final list, and the counts are right except for the batch
abbrev pub invariant-loop-number : goal.invariant-loop-number
invariant-loop-number g l =
    record {
      reported : changed_each (transferred_op l.fn.t.0 l.fn.u) l.items.items (drop l.number-index l.numbers) ≡ changed_each (transferred_op l.fn.t.0 l.fn.u) l.fn.items.items l.numbers;
      long : length l.items.items ≡ length l.fn.items.items;
      short : l.batch.length ≤ l.number-index;
      filed : AreFiledBut l.batch l.fn.t.0 l.fn.u.0 l.items.items l.counts;
      room : 2 * length l.numbers + 2 * min l.batch.length 1 ≤ spare l.counts.others + 2 * l.number-index;
    }
