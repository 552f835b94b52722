use Rattle.std.proofs.Common.{◌≡◌, Option, Some, None, refl, ap, ◌∙◌}
use Rattle.acta_table.specs.declared.answer.Rule.TheVariants.{NotInProgress}
use Rattle.acta_table.specs.declared.answer.Status.{Status}
use Rattle.acta_table.specs.declared.answer.Status.TheVariants.{Committed}
use Rattle.acta_table.specs.declared.event.TxnId.{TxnId}
use Rattle.acta_table.specs.WellFormed.{bad_number}
use Rattle.acta_deps.specs.Deps.{status_of}
use Rattle.acta_machine.specs.Summary.{Summary, terminated, inherited, fated}
use Rattle.acta_sets.specs.Permits.{without_permits}
use Rattle.acta_machine.specs.Changes.{settled}
use Rattle.acta_machine.specs.Rules.{not_in_progress}
use Rattle.acta_machine.specs.inside.Abstraction.{abstraction}
use Rattle.acta_machine.proofs.Broken.{good_number, in_progress}
use Rattle.acta_machine.proofs.machine_state.MachineState.commit.Goals as goal

pub committed-requires-clause-low : goal.committed-requires-clause-low
unfolding bad_number
committed-requires-clause-low g c = (good_number c.args.t.0 c.requires.number).0

pub committed-requires-clause-high : goal.committed-requires-clause-high
unfolding bad_number
committed-requires-clause-high g c = (good_number c.args.t.0 c.requires.number).1

pub committed-requires-clause-stands : goal.committed-requires-clause-stands
unfolding not_in_progress
committed-requires-clause-stands g c =
    ap (λ b. status_of b.deps c.args.t.0) c.settle.ensures.others
    ∙ in_progress (abstraction c.args.self.now) NotInProgress c.args.t.0 c.requires.stands

-- transferring t's operations and ending t commute
terminated-settled : (s : Summary) (t : TxnId) (x : Status) (heir : Option TxnId) → terminated (settled s t heir) t x ≡ settled (terminated s t x) t heir
unfolding terminated inherited fated
terminated-settled s t x None = refl
terminated-settled s t x (Some heir) = refl

pub returns-clause-shows : goal.returns-clause-shows
unfolding terminated
returns-clause-shows g c =
    c.drop_permits.ensures.shows
    ∙ (λ i. record (abstraction c.settle.new.self) { status = c.committed.ensures.status i; edges = c.committed.ensures.edges i; permits = without_permits (abstraction c.settle.new.self).permits c.args.t.0 })
    ∙ ap (λ s. terminated s c.args.t Committed) c.in_ok-settle.ensures.shows
    ∙ terminated-settled (abstraction c.args.self.now) c.args.t Committed _
