use Rattle.std.proofs.Common.{◌≡◌, ◌+◌, ◌<◌, ◌≤◌, ℕ, get_or, length, vec_len, vec_capacity}
use Rattle.acta_locked.proofs.run.Run.workers.Given as goal

-- each thread has one part of the ledger, there is room for all, and they are of the seats from 1, in order
abbrev pub invariant-loop-k : goal.invariant-loop-k
invariant-loop-k g l = record {
  parts : l.rest.parts + l.k ≡ length g.J.Job.scripts + 1;
  none : l.rest.amount ≡ 0;
  started : vec_len l.running ≡ l.k;
  room : length g.J.Job.scripts ≤ vec_capacity l.running;
  seats : (k : ℕ) (r : _) → k < l.k → (get_or l.running.items k r).promise.0 ≡ k + 1;
}
