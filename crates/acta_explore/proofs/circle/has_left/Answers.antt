use Rattle.std.proofs.Common.{sym, ◌∙◌, drop, length}
use Rattle.acta_explore.specs.Deadlocks.{is_left}
use Rattle.acta_explore.proofs.Circling.{any-zip-short}
use Rattle.acta_explore.proofs.Looping.{not-less}
use Rattle.acta_explore.proofs.circle.has_left.Goals as goal

pub returns-in_default : goal.returns-in_default
returns-in_default g c =
    let n = c.loop-line.line in
    sym (c.loop-line.invariant ∙ any-zip-short (is_left c.args.is_new c.args.seat c.args.txn.0) (drop n c.args.lines.now) c.args.done.now n (not-less n (length c.args.done.now) (sym c.in_default.ensures.lookup.0)))
