-- Predicates on the statuses of transactions.
use Rattle.std.specs.Prelude.{ℕ, Bool, true, false, ◌||◌, ◌==◌, if◌then◌else◌}
use Rattle.acta_table.specs.declared.answer.Status.{Status}
use Rattle.acta_table.specs.declared.answer.Status.TheVariants.{NotBegun, InProgress, Committed, Aborted, Joined}

-- begun, whether or not it has ended since
abbrev pub has_begun : Status → Bool
has_begun NotBegun = false
has_begun _ = true

-- not yet begun
abbrev pub is_new : Status → Bool
is_new NotBegun = true
is_new _ = false

-- begun and not ended
abbrev pub is_in_progress : Status → Bool
is_in_progress InProgress = true
is_in_progress _ = false

-- ended in any way: committed, aborted or joined to another
abbrev pub has_ended : Status → Bool
has_ended NotBegun = false
has_ended InProgress = false
has_ended _ = true

-- the three ways to end
abbrev pub has_committed : Status → Bool
has_committed Committed = true
has_committed _ = false

abbrev pub has_aborted : Status → Bool
has_aborted Aborted = true
has_aborted _ = false

abbrev pub has_joined : Status → Bool
has_joined Joined = true
has_joined _ = false

-- committed or aborted; a transaction that joined another is neither
abbrev pub is_decided : Status → Bool
is_decided s = has_committed s || has_aborted s

-- not begun or in progress: it may still commit or abort
abbrev pub may_end : Status → Bool
may_end NotBegun = true
may_end InProgress = true
may_end _ = false

-- the statuses, with the status of t changed
abbrev pub with_status : (ℕ → Status) → ℕ → Status → ℕ → Status
with_status status t s u = if u == t then s else status u
