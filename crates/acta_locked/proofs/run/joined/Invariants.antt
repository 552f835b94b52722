use Rattle.std.proofs.Common.{◌≡◌, ◌+◌, ◌<◌, ◌≤◌, ℕ, None, get_or, length, vec_len, vec_capacity}
use Rattle.std.specs.Prelude.{IfSome, sum_by}
use Rattle.std.specs.Vec.Iter.{into_iter_items, into_iter_len}
use Rattle.acta_locked.specs.Drives.{EachLetOn}
use Rattle.acta_locked.specs.inside.Outcomes.{MayEnd}
use Rattle.acta_locked.proofs.run.joined.Given as goal

-- the parts so far, their count, room for the rest, which follow in order of their seats, and the properties of the reports
-- and of the fault
abbrev pub invariant-loop-one : goal.invariant-loop-one
invariant-loop-one g l = record {
  parts : l.all.parts + into_iter_len l.one-iterator ≡ l.fn.rest.parts + vec_len l.fn.running;
  counted : l.fault ≡ None → l.all.amount ≡ sum_by (λ report. length report.entries) l.reports.items;
  all : vec_len l.reports + into_iter_len l.one-iterator ≤ vec_len l.fn.running;
  room : vec_len l.fn.running ≤ vec_capacity l.reports;
  rest : (k : ℕ) (r : _) → k < into_iter_len l.one-iterator
      → (get_or (into_iter_items l.one-iterator) k r).promise.0 + into_iter_len l.one-iterator ≡ vec_len l.fn.running + k + 1;
  let_on : EachLetOn g.J.Job.may_pass g.J.Job.may_go_on l.reports.items;
  fault : IfSome l.fault (MayEnd g.J.Job.may_stop g.J.Job.scripts);
}
