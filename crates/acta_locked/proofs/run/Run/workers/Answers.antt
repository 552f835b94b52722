use Rattle.std.proofs.Common.{rules, arith, below_more, ◌≡◌, ◌+◌, ℕ, get_or, ap, refl, vec_len, ◌∙◌}
use Rattle.acta_locked.proofs.run.Run.workers.Goals as goal

pub loop-k-preserved : goal.loop-k-preserved
loop-k-preserved g c =
    let i = c.loop-k.invariant in
    let n = vec_len c.loop-k.running in
    let pushed = c.in-Ok-push.ensures in
    let started = i.started in
    let Fits : ℕ → Type 0 = λ k. (r : _) → (get_or c.push.new.self.items k r).promise.0 ≡ k + 1 in
    let seat : c.in-Ok.one.promise.0 ≡ n + 1 = ap (λ t. t.0) c.in-Ok.ensures.ok ∙ omega (arith, started) in
    let here : Fits n = λ r. ap (λ one. one.promise.0) (pushed.by_index.1 r refl) ∙ seat in
    record {
      parts = search rules;
      none = search rules;
      started = search rules;
      room = search rules;
      seats = λ k r below. below_more Fits n (λ j low r. ap (λ one. one.promise.0) (pushed.by_index.0 j r low) ∙ i.seats j r (omega (arith, low, started))) here k (omega (arith, below, started)) r;
    }
