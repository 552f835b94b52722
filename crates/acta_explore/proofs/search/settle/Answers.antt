use Rattle.std.proofs.lemmas.Result.{on_ok_weaker}
use Rattle.acta_explore.specs.inside.Merging.{points_of}
use Rattle.acta_explore.proofs.Expanding.{settled-put}
use Rattle.acta_explore.proofs.search.settle.Goals as goal

pub returns-clause-ended : goal.returns-clause-ended
returns-clause-ended g c =
    on_ok_weaker c.put_end.result
    (settled-put c.args.plan.now c.args.point.now c.in_ok-copy.field-0 c.in_ok-expand.field-0 (points_of c.args.ends.now.entries) (points_of c.put_end.new.ends.entries) c.in_ok-expand.ensures.has_step c.if-branch.false c.in_ok-copy.ensures)
    c.put_end.ensures.put
