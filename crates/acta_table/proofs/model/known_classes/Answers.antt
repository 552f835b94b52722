use Rattle.std.proofs.Common.{arith}
use Rattle.std.proofs.lemmas.List.Elements.{AllWithin-more}
use Rattle.acta_table.specs.Typed.{HasSets}
use Rattle.acta_table.proofs.Held.{holds_at}
use Rattle.acta_table.proofs.model.known_classes.Goals as goal

pub loop-class-preserved : goal.loop-class-preserved
loop-class-preserved g c =
    AllWithin-more (λ class. HasSets {A = g.row.A.Denot} class) c.args.classes.now 0 c.loop-class.class-index c.loop-class.invariant
    (holds_at (λ class. HasSets {A = g.row.A.Denot} class) c.args.classes.now c.loop-class.class-index c.class-item.result (omega arith) c.class-item.is c.lemma_invariant.ensures)

pub returns : goal.returns
returns g c = λ k d within. c.loop-class.invariant k d (omega arith) (omega arith)
