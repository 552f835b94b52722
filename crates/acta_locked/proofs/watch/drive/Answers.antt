use Rattle.acta_locked.proofs.watch.drive.Goals as goal

pub returns-clause-blocked : goal.returns-clause-blocked
returns-clause-blocked g c = λ e has. let h = c.in_ok-watched.ensures.blocked e has in cc
