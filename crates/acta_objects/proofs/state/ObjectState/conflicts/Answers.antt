use Rattle.acta_objects.specs.Objects.{register_step, register_return, counter_step, counter_return, set_step, set_return}
use Rattle.acta_objects.specs.Conflicts.{IsNumber, IsSet, register_conflicts, counter_conflicts, set_conflicts}
use Rattle.acta_objects.specs.inside.RegisterLaws.{register_commutes, register_differs}
use Rattle.acta_objects.specs.inside.CounterLaws.{counter_commutes, counter_differs}
use Rattle.acta_objects.specs.inside.SetLaws.{set_commutes, set_differs}
use Rattle.acta_objects.proofs.Meanings.{is_meant}
use Rattle.acta_objects.proofs.state.ObjectState.conflicts.Goals as goal

pub returns-in-Register-clause-meaning : goal.returns-in-Register-clause-meaning
returns-in-Register-clause-meaning g c =
    rw (c.conflicts.ensures, c.in-Register.is) (is_meant IsNumber register_step register_return register_conflicts register_commutes register_differs c.args.p.now c.args.q.now)

pub returns-in-Counter-clause-meaning : goal.returns-in-Counter-clause-meaning
returns-in-Counter-clause-meaning g c =
    rw (c.conflicts-in-Counter.ensures, c.in-Counter.is) (is_meant IsNumber counter_step counter_return counter_conflicts counter_commutes counter_differs c.args.p.now c.args.q.now)

pub returns-in-Elements-clause-meaning : goal.returns-in-Elements-clause-meaning
returns-in-Elements-clause-meaning g c =
    rw (c.conflicts-in-Elements.ensures, c.in-Elements.is) (is_meant IsSet set_step set_return set_conflicts set_commutes set_differs c.args.p.now c.args.q.now)
