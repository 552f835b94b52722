use Rattle.std.proofs.Common.{sym, ◌∙◌}
use Rattle.std.proofs.lemmas.Bool.{true≢false}
use Rattle.std.proofs.lemmas.Result.{MatchResult-weaker}
use Rattle.acta_locked.proofs.watch.drive_watched.Goals as goal

pub returns-clause-driven : goal.returns-clause-driven
returns-clause-driven g c = MatchResult-weaker c.watch_run.result c.watch_run.ensures (λ w it. it.driven) (λ e _. tt)

pub returns-clause-turns : goal.returns-clause-turns
returns-clause-turns g c = MatchResult-weaker c.watch_run.result c.watch_run.ensures (λ w it. it.many) (λ e _. tt)

pub returns-clause-fronts : goal.returns-clause-fronts
returns-clause-fronts g c = MatchResult-weaker c.watch_run.result c.watch_run.ensures (λ w it. it.fronts) (λ e _. tt)

pub returns-clause-only : goal.returns-clause-only
returns-clause-only g c = MatchResult-weaker c.watch_run.result c.watch_run.ensures (λ w _. tt) (λ e may yes. absurd (true≢false (sym yes ∙ may.0)))

pub returns-clause-let_on : goal.returns-clause-let_on
returns-clause-let_on g c = MatchResult-weaker c.watch_run.result c.watch_run.ensures (λ w it. it.let_on) (λ e _. tt)

pub returns-clause-why : goal.returns-clause-why
returns-clause-why g c = MatchResult-weaker c.watch_run.result c.watch_run.ensures (λ w _. tt) (λ e may. may.1)
