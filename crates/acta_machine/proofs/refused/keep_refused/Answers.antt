use Rattle.std.proofs.Common.{sym, subst}
use Rattle.acta_table.specs.declared.event.Event.{Event}
use Rattle.acta_machine.specs.inside.Refused.{IsRefusedBy}
use Rattle.acta_machine.proofs.refused.keep_refused.Goals as goal

pub returns-in-Ok : goal.returns-in-Ok
returns-in-Ok g c =
    λ m s all so.
    c.put_refused.ensures m s all (subst (λ (e : Event g.row.A.Denot). IsRefusedBy m s e c.args.broken) (sym c.in-Ok.ensures) so)
