-- The verdict on a history that a machine kept.
use Rattle.std.proofs.Common.{◌≡◌, List, [], None, sym, ap, ◌∙◌}
use Rattle.acta_table.specs.declared.event.Event.{Event}
use Rattle.acta_table.specs.declared.model.Parts.{Parts}
use Rattle.acta_table.specs.Faults.{lowest_fault}
use Rattle.acta_judge.specs.Verdicts.{verdict}
use Rattle.acta_judge.proofs.Meeting.{met-verdict}
use Rattle.acta_machine.specs.Places.{FollowsPlaces}
use Rattle.acta_machine.specs.Table.{State, debts_in, run_state}
use Rattle.acta_machine.proofs.Exactness.{owed-places}
use Rattle.acta_machine.proofs.Runs.{follows-run, model-run}

-- the verdict on a machine's history has no fault, and the machine's debts
pub judged : {A : Type 0} (s : State A) → FollowsPlaces s → verdict s.model s.kept ≡ record { faults = []; owed = debts_in s }
judged s follows =
    met-verdict s.model s.kept follows.meets
    ∙ ap (λ debts. record { faults = []; owed = debts }) (sym (owed-places s.model s.kept follows.shows follows.orderly))

pub run-verdict : {A : Type 0} (m : Parts A) (es : List (Event A)) → lowest_fault m ≡ None → verdict m (run_state m es).kept ≡ record { faults = []; owed = debts_in (run_state m es) }
run-verdict m es faultless =
    ap (λ n. verdict n (run_state m es).kept) (sym (model-run m es)) ∙ judged (run_state m es) (follows-run m es faultless)
