use Rattle.std.proofs.Common.{set, ap, ◌∙◌, sym, Option, Some, arith, is_none}
use Rattle.acta_explore.specs.declared.point.Done.{Done}
use Rattle.acta_explore.specs.Programs.{done_by}
use Rattle.acta_explore.proofs.Looping.{noted-set, noted-some, noted-past, none-off, some-on}
use Rattle.acta_explore.proofs.plan.note.Goals as goal

pub returns-then-line-len : goal.returns-then-line-len
returns-then-line-len g c = noted-past c.args.step.now.line (done_by c.args.step.now) c.args.done.now.items (omega arith)

pub returns-then-is_some : goal.returns-then-is_some
returns-then-is_some g c =
    noted-some c.args.step.now.line (done_by c.args.step.now) c.args.done.now.items c.index.result.now (omega arith)
    (ap (λ (o : Option Done). is_none o) (sym c.index.ensures) ∙ some-on c.index.result.now (sym c.is_some.ensures ∙ c.if-is_some.true))

pub returns : goal.returns
returns g c =
    ap (λ (d : Done). set c.args.done.now.items c.args.step.now.line (Some d)) c.done.ensures
    ∙ noted-set c.args.step.now.line (done_by c.args.step.now) c.args.done.now.items c.index.result.now (omega arith)
    (ap (λ (o : Option Done). is_none o) (sym c.index.ensures) ∙ none-off c.index.result.now (sym c.is_some.ensures ∙ c.if-is_some.false))
