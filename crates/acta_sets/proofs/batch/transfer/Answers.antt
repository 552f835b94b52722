use Rattle.std.specs.Prelude.{◌≡◌, true, false}
use Rattle.std.proofs.Common.{rules}
use Rattle.acta_sets.specs.Operations.{is_held}
use Rattle.acta_sets.specs.inside.Filing.{count}
use Rattle.acta_sets.proofs.Filed.{transfer_other, transfer_joined, transfer_settled}
use Rattle.acta_sets.proofs.batch.transfer.Goals as goal

pub returns-then-not-is_held-clause-filed : goal.returns-then-not-is_held-clause-filed
returns-then-not-is_held-clause-filed g c = λ q n e.
    let other : is_held c.args.t.0 c.args.item ≡ false = search rules in
    transfer_other q c.args.t.0 c.args.u c.args.batch c.args.item (count c.args.counts.now q) n other e

pub returns-then-are_equivalent-clause-filed : goal.returns-then-are_equivalent-clause-filed
returns-then-are_equivalent-clause-filed g c = λ q n e.
    let held : is_held c.args.t.0 c.args.item ≡ true = search rules in
    let ob : c.args.batch.item.ob.0 ≡ c.args.item.ob.0 = search rules in
    let same : c.are_equivalent.result ≡ true = search rules in
    transfer_joined q c.args.t.0 c.args.u c.args.batch c.args.item (count c.args.counts.now q) n held ob (c.are_equivalent.ensures.coarse same) (c.are_equivalent.ensures.fine same) e

pub returns-clause-filed : goal.returns-clause-filed
returns-clause-filed g c = λ q n e.
    let held : is_held c.args.t.0 c.args.item ≡ true = search rules in
    transfer_settled q c.args.t.0 c.args.u c.args.batch c.args.item (count c.args.counts.now q) (count c.settle.new.counts q) n c.requires.other held (c.settle.ensures.counted q) e
