use Rattle.std.proofs.Common.{arith, ◌≡◌, ℕ, ◌+◌, ◌<◌, ◌≤◌, ◌∙◌, List, [], get_or, sym, ap, subst, inl, inr}
use Rattle.std.proofs.lemmas.Bool.{true≢false, cases_lt}
use Rattle.acta_axioms.specs.Serial.{Values}
use Rattle.acta_order.specs.declared.item.Item.{Item}
use Rattle.acta_order.specs.Earlier.{limit}
use Rattle.acta_order.specs.Search.{IsPassed, Plays, Replaying, at, values_of}
use Rattle.acta_order.proofs.Playing.{played-some}
use Rattle.acta_order.proofs.search.next_fitting.Goals.{else-not-has-via-then-not-has+then-of-low+in_ok-play+else-is_none, else-not-has-via-then-not-has+else-of-low, else-not-has-via-else-not-has}
use Rattle.acta_order.proofs.search.next_fitting.Goals as goal

passed-more : {A : Type 0} (v : Values A) (g : ℕ → List Item) (lim : ℕ → ℕ) (ts stack : List ℕ) (low from c : ℕ) → ((j : ℕ) → from ≤ j → j < c → IsPassed v g lim ts stack low j) → IsPassed v g lim ts stack low c → (j : ℕ) → from ≤ j → j < c + 1 → IsPassed v g lim ts stack low j
passed-more v g lim ts stack low from c before here j high below =
    elim (cases_lt j c) [
      | inl lt ↦ before j high lt
      | inr ge ↦ subst (IsPassed v g lim ts stack low) (let same : c ≡ j = omega (arith, ge, below) in same) here
    ]

pub loop-c-preserved : goal.loop-c-preserved
loop-c-preserved g c =
    let v = values_of {A = g.row.A.Denot} c.args.replay.now in
    let G : ℕ → List Item = λ t. get_or c.args.groups.now t [] in
    let L = limit c.args.earlier.now in
    let ts = c.args.ts.now in
    let more = passed-more v G L ts c.args.path.now.stack c.args.low c.args.from c.loop-c.c c.loop-c.invariant.passed in
    elim c.else-not-has.branch [
      | else-not-has-via-then-not-has+then-of-low+in_ok-play+else-is_none w ↦
          let stuck = played-some g.row.A.Denot c.loop-c.replay w.play.new.self w.of-then-of-low.result.now w.in_ok-play.field-0 w.if-is_none.ensures w.in_ok-play.ensures in
          let group : w.of-then-of-low.result.now ≡ G (at ts c.loop-c.c) = w.of-then-of-low.ensures ∙ ap G c.at-t.ensures in
          record {
            replay = w.replay-is ∙ stuck.0 ∙ c.loop-c.invariant.replay;
            passed = more
                (λ out free plays.
                stuck.1 (subst (λ (b : Replaying). Plays (values_of {A = g.row.A.Denot} b) w.of-then-of-low.result.now) (sym c.loop-c.invariant.replay) (subst (Plays v) (sym group) plays)));
          }
      | else-not-has-via-then-not-has+else-of-low w ↦
          let limit_is = w.of.ensures ∙ ap L c.at-t.ensures in
          record {
            replay = w.replay-is ∙ c.loop-c.invariant.replay;
            passed = more (λ out free plays. absurd (omega (arith, w.if-of-low.false, limit_is, free)));
          }
      | else-not-has-via-else-not-has w ↦
          record {
            replay = w.replay-is ∙ c.loop-c.invariant.replay;
            passed = more (λ out free plays. true≢false (w.if-not-has.ensures ∙ out));
          }
    ]
