use Rattle.std.proofs.Common.{rules, arith, ◌≡◌, ◌+◌, ◌-◌, suc, List, [], length, get_or, ap, ap₂, sym, subst, vec_len, ◌∙◌}
use Rattle.std.specs.Prelude.{Option, Some, None, IfSome, Result, sum_by}
use Rattle.std.specs.Option.{option_or}
use Rattle.std.specs.Vec.Iter.{into_iter_len}
use Rattle.std.proofs.lemmas.List.Sums.{sum_by_push}
use Rattle.std.specs.declared.thread.PromisedHandle.{PromisedHandle}
use Rattle.acta_locked.specs.declared.run.Done.{Done}
use Rattle.acta_locked.specs.declared.run.Task.{Task}
use Rattle.acta_locked.specs.declared.worker.Report.{Report}
use Rattle.acta_locked.specs.declared.worker.WorkError.{WorkError}
use Rattle.acta_locked.specs.Drives.{EachLetOn}
use Rattle.acta_locked.specs.Gates.{LetOn}
use Rattle.acta_locked.specs.inside.Outcomes.{IsOutcome, MayEnd}
use Rattle.acta_locked.proofs.Handing.{failed, none-counted, none-let_on}
use Rattle.acta_locked.proofs.Working.{all-push}
use Rattle.acta_locked.proofs.run.joined.Goals as goal

-- the fault that was met first stays
or-holds : {E : Type 0} (P : E → Type 0) (old : Option E) (e : E) → IfSome old P → P e → IfSome (option_or old (Some e)) P
or-holds P None e held may = may
or-holds P (Some x) e held may = held

or-some : {E : Type 0} (old : Option E) (e : E) → option_or old (Some e) ≡ None → ⊥
or-some None e none = search rules
or-some (Some x) e none = search rules

pub loop-one-init : goal.loop-one-init
loop-one-init g c =
    let none = c.requires.empty in
    let nothing : length c.args.reports.items ≡ 0 = search rules in
    record {
      parts = search rules;
      counted = λ _. c.requires.none ∙ none-counted c.args.reports.items nothing;
      all = search rules;
      room = search rules;
      rest = λ k r below. let h = c.requires.seats k r in grind rules;
      let_on = none-let_on g.J.Job.may_pass g.J.Job.may_go_on c.args.reports.items nothing;
      fault = tt;
    }

pub loop-one-preserved-in-Ok-push : goal.loop-one-preserved-in-Ok-push
loop-one-preserved-in-Ok-push g c =
    let i = c.loop-one.invariant in
    let pushed = c.in-Ok-push.ensures in
    let merged = c.merge.ensures in
    let done = c.join-share.result in
    let part : done.share.parts ≡ 1 = done.one_part in
    let report = c.in-Ok.report in
    let amount : length report.entries ≡ done.share.amount = done.counted report c.in-Ok.is in
    let step : into_iter_len c.next.new.self + 1 ≡ into_iter_len c.loop-one.one-iterator = c.in-Some.ensures.steps.1 in
    let entries = λ (r : Report g.row.A.Denot). length r.entries in
    let P = g.J.Job.may_pass in
    let Q = g.J.Job.may_go_on in
    let mine = subst (λ r. IsOutcome g.J.Job.may_stop P Q c.in-Some.one.promise.0 (get_or g.J.Job.scripts (c.in-Some.one.promise.0 - 1) []) r) c.in-Ok.is c.join-share.ensures in
    let through : LetOn (P report.seat) (Q report.seat) 1 report.entries = subst (λ s. LetOn (P s) (Q s) 1 report.entries) (sym mine.0.seat_is) mine.1 in
    record {
      parts = (let a = i.parts in let b = merged.parts in omega (arith, a, b, part, step));
      counted = λ none. merged.amount ∙ ap₂ (λ x y. x + y) (i.counted none) (sym amount)
          ∙ sym (sum_by_push entries c.loop-one.reports.items report) ∙ ap (sum_by entries) (sym pushed.items);
      all = (let a = i.all in let b = pushed.len in omega (arith, a, b, step));
      room = (let a = i.room in let b = pushed.capacity in omega (arith, a, b));
      rest = λ k r below.
          let next = subst (λ (l : List (PromisedHandle (Done g.row.A.Denot g.row.J.Denot g.J.Job) Task)). (get_or l (suc k) r).promise.0 + into_iter_len c.loop-one.one-iterator ≡ vec_len c.args.running + suc k + 1)
          c.in-Some.ensures.steps.0 (i.rest (suc k) r (omega (arith, step, below))) in
          omega (arith, next, step);
      let_on = subst (EachLetOn P Q) (sym pushed.items) (all-push (λ (r : Report g.row.A.Denot). LetOn (P r.seat) (Q r.seat) 1 r.entries) c.loop-one.reports.items report i.let_on through);
      fault = i.fault;
    }

pub loop-one-preserved : goal.loop-one-preserved
loop-one-preserved g c =
    let i = c.loop-one.invariant in
    let merged = c.merge.ensures in
    let one = c.in-Some.one in
    let part : c.join-share.result.share.parts ≡ 1 = c.join-share.result.one_part in
    let left = into_iter_len c.loop-one.one-iterator in
    let step : into_iter_len c.next.new.self + 1 ≡ left = c.in-Some.ensures.steps.1 in
    let place : one.promise.0 + left ≡ vec_len c.args.running + 0 + 1 = let h = i.rest 0 one in grind rules in
    let all = i.all in
    let few = c.requires.few in
    let Out : Result (Report g.row.A.Denot) WorkError → Type 0 = λ r. IsOutcome g.J.Job.may_stop g.J.Job.may_pass g.J.Job.may_go_on one.promise.0 (get_or g.J.Job.scripts (one.promise.0 - 1) []) r in
    let may = failed g.J.Job.may_stop g.J.Job.may_pass g.J.Job.may_go_on g.J.Job.scripts one.promise.0 c.in-Err.error c.into.result
    (omega (arith, place, all, step)) (omega (arith, place, few, step)) (subst Out c.in-Err.is c.join-share.ensures) c.into.ensures in
    record {
      parts = (let a = i.parts in let b = merged.parts in omega (arith, a, b, part, step));
      counted = λ none. absurd (or-some c.loop-one.fault c.into.result (sym c.or-fault.ensures ∙ none));
      all = omega (arith, all, step);
      room = i.room;
      rest = λ k r below. let h = i.rest (k + 1) r in grind rules;
      let_on = i.let_on;
      fault = subst (λ f. IfSome f (MayEnd g.J.Job.may_stop g.J.Job.scripts)) (sym c.or-fault.ensures) (or-holds (MayEnd g.J.Job.may_stop g.J.Job.scripts) c.loop-one.fault c.into.result i.fault may);
    }
