use Rattle.std.proofs.Common.{true≢false, sym}
use Rattle.acta_image.proofs.RowFormats.{rows-sorted}
use Rattle.acta_image.proofs.rows.edges.Goals as goal

pub unreachable-requires : goal.unreachable-requires
unreachable-requires g c =
    let sorted = rows-sorted c.args.which c.args.size c.in_ok-count.count c.in_ok-count.rest.now c.in_ok-edges.edges.items c.in_ok-edges.rest.now c.in_ok-edges.ensures in
    true≢false (sym (c.in-None.ensures.known.1 sorted))
