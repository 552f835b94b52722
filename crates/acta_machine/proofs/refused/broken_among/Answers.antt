use Rattle.std.proofs.Common.{sym, subst}
use Rattle.acta_table.specs.declared.event.Event.{Event}
use Rattle.acta_machine.specs.declared.refused.Refused.{Refused}
use Rattle.acta_machine.specs.inside.Refused.{IsRefusedBy}
use Rattle.acta_machine.proofs.refused.broken_among.Goals as goal

pub returns-then-is_same : goal.returns-then-is_same
returns-then-is_same g c =
    λ m s all.
    subst (λ (e : Event g.row.A.Denot). IsRefusedBy m s e c.one-item.result.broken) (c.is_same.ensures.0 c.if-is_same.true)
    (subst (λ (one : Refused g.row.A.Denot). IsRefusedBy m s one.event one.broken) (sym c.one-item.is) (all c.loop-one.one-index c.one-item.result c.loop-one-test.true))
