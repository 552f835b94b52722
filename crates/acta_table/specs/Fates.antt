-- The fates of operations.
use Rattle.std.specs.Prelude.{Bool, true, false}
use Rattle.acta_table.specs.declared.answer.Fate.{Fate}
use Rattle.acta_table.specs.declared.answer.Fate.TheVariants.{InProgress, Committed, Aborted}

-- still in progress
abbrev pub is_open : Fate → Bool
is_open InProgress = true
is_open _ = false

-- committed
abbrev pub is_committed : Fate → Bool
is_committed Committed = true
is_committed _ = false

-- aborted
abbrev pub is_aborted : Fate → Bool
is_aborted Aborted = true
is_aborted _ = false
