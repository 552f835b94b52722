use Rattle.std.proofs.Common.{List, length, ap, arith}
use Rattle.std.proofs.Math.Facts.{Fits-of_lt}
use Rattle.acta_table.specs.declared.start_edges.StartEdge.{StartEdge}
use Rattle.acta_image.proofs.RowFormats.{sorted-few}
use Rattle.acta_image.proofs.writing.push_edges.Goals as goal

pub overflow_cast-edges : goal.overflow_cast-edges
overflow_cast-edges g c =
    let few = sorted-few c.args.edges.now c.as_slice-edges.ensures.ascending in
    let same = ap (λ (es : List StartEdge). length es) c.as_slice-edges.ensures.items in
    Fits-of_lt (omega (arith, few, same))
