use Rattle.std.proofs.Common.{ap, ◌∙◌, List, ◌-◌, ◌+◌}
use Rattle.std.proofs.lemmas.Result.{err_from_is_err_and}
use Rattle.acta_table.specs.declared.start_edges.StartEdge.{StartEdge}
use Rattle.acta_image.specs.Reading.{read_rows}
use Rattle.acta_image.proofs.Loops.{on_front, rows-on, rows-end, rows-done}
use Rattle.acta_image.proofs.rows.rows.Goals as goal

pub returns-in_err-edge : goal.returns-in_err-edge
returns-in_err-edge g c =
    let p = err_from_is_err_and c.from_residual.result c.from_residual.ensures.1 in
    rw (p.1, p.2) (rows-end c.args.which c.args.size c.loop.least c.loop.edges.items c.args.count c.loop.counter c.loop.rest.now (read_rows c.args.which c.args.size 0 c.args.count c.args.bytes.now) c.loop.invariant c.in_err-edge.field-0.0 c.loop-test.true c.in_err-edge.ensures.field)

pub loop-preserved : goal.loop-preserved
loop-preserved g c =
    let total = read_rows c.args.which c.args.size 0 c.args.count c.args.bytes.now in
    let next = c.rank_of-least.result + 1 in
    ap (λ (l : List StartEdge). on_front l (read_rows c.args.which c.args.size next (c.args.count - (c.loop.counter + 1)) c.in_ok-edge.behind.now)) c.in_ok-push.ensures.items
    ∙ rows-on c.args.which c.args.size c.loop.least c.loop.edges.items c.args.count c.loop.counter c.loop.rest.now total c.loop.invariant c.in_ok-edge.edge c.in_ok-edge.behind.now next c.loop-test.true c.in_ok-edge.ensures.field (ap (λ n. n + 1) c.rank_of-least.ensures)

pub returns : goal.returns
returns g c =
    rows-done c.args.which c.args.size c.loop.least c.loop.edges.items c.args.count c.loop.counter c.loop.rest.now (read_rows c.args.which c.args.size 0 c.args.count c.args.bytes.now) c.loop.invariant c.loop-test.false
