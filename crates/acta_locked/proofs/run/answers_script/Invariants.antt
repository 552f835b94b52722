use Rattle.std.proofs.Common.{◌≡◌, take}
use Rattle.acta_locked.specs.Books.{events_of}
use Rattle.acta_locked.proofs.run.answers_script.Given as goal

-- the events so far are those of the script so far
abbrev pub invariant-loop-k : goal.invariant-loop-k
invariant-loop-k g l = events_of (take l.k l.entries) ≡ take l.k l.script
