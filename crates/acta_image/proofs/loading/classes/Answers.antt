use Rattle.std.proofs.Common.{ap, ◌∙◌, List, sym, ◌-◌, ◌+◌, Ok}
use Rattle.std.proofs.lemmas.Result.{err_from_is_err_and}
use Rattle.acta_table.specs.declared.model.Class.{Class}
use Rattle.acta_image.specs.Reading.{read_class, read_items}
use Rattle.acta_image.proofs.Loops.{on_front, items-on, items-end, items-done}
use Rattle.acta_image.proofs.loading.classes.Goals as goal

pub returns-in_err-class : goal.returns-in_err-class
returns-in_err-class g c =
    let p = err_from_is_err_and c.from_residual.result c.from_residual.ensures.1 in
    rw (p.1, p.2) (items-end (read_class c.args.version c.args.size) c.loop.classes.items c.args.count c.loop.counter c.loop.rest.now (read_items (read_class c.args.version c.args.size) c.args.count c.args.bytes.now) c.loop.invariant c.in_err-class.field-0.0 c.loop-test.true c.in_err-class.ensures)

pub loop-preserved : goal.loop-preserved
loop-preserved g c =
    let total = read_items (read_class c.args.version c.args.size) c.args.count c.args.bytes.now in
    let rest = read_items (read_class c.args.version c.args.size) (c.args.count - (c.loop.counter + 1)) c.in_ok-class.behind.now in
    ap (λ (l : List (Class g.row.A.Denot)). on_front l rest) c.in_ok-push.ensures.items
    ∙ items-on (read_class c.args.version c.args.size) c.loop.classes.items c.args.count c.loop.counter c.loop.rest.now total c.loop.invariant c.in_ok-class.class c.in_ok-class.behind.now c.loop-test.true c.in_ok-class.ensures

pub returns : goal.returns
returns g c =
    items-done (read_class c.args.version c.args.size) c.loop.classes.items c.args.count c.loop.counter c.loop.rest.now (read_items (read_class c.args.version c.args.size) c.args.count c.args.bytes.now) c.loop.invariant c.loop-test.false
    ∙ ap (λ (l : List (Class g.row.A.Denot)). Ok (l, c.loop.rest.now)) (sym c.of.ensures)
