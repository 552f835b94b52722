use Rattle.std.proofs.Common.{◌≡◌, ℕ, ◌+◌, cond, false, sym, ap, ◌∙◌, arith}
use Rattle.std.specs.Prelude.{slice_get}
use Rattle.std.specs.Option.{option_map_or}
use Rattle.acta_ends.specs.EndLines.{is_kept, kept_lines}
use Rattle.acta_ends.proofs.KeptEnds.{counted}
use Rattle.acta_ends.proofs.Sections.{turn}
use Rattle.acta_ends.proofs.ends.ends_lines.Goals as goal
use Rattle.acta_ends.proofs.ends.ends_lines.Goals.{then-branch, else-branch}

pub loop-place-preserved : goal.loop-place-preserved
loop-place-preserved g c =
    let ends = c.args.explored.now.ends in
    let place = c.loop-place.place in
    let test = is_kept c.args.lines.now c.args.condition.now in
    let kept = c.in_ok-push_kept_at.field-0 in
    let lines = kept_lines c.args.model.now c.args.lines.now c.args.numbers.now c.args.condition.now in
    let one_more : ◌≡◌ {A = ℕ} c.if-branch.count (c.loop-place.count + cond kept 1 0) =
    elim c.if-branch.branch [
      | then-branch w ↦ w.count-is ∙ ap (λ b. c.loop-place.count + cond b 1 0) (sym w.if-branch.true)
      | else-branch w ↦
          let none : ◌≡◌ {A = ℕ} (cond kept 1 0) 0 = ap (λ b. cond b 1 0) w.if-branch.false in
          omega (arith, w.count-is, none)
    ]
    in
    record {
      written = turn lines ends place (place + 1) c.loop-place.text.items c.push_kept_at.new.text.items _ c.loop-place.invariant.written c.in_ok-push_kept_at.ensures.text;
      counted =
          one_more
          ∙ ap (λ b. c.loop-place.count + cond b 1 0) c.in_ok-push_kept_at.ensures.kept
          ∙ ap (λ n. n + cond (option_map_or test (slice_get ends place) false) 1 0) c.loop-place.invariant.counted
          ∙ sym (counted test ends place);
      few = elim c.if-branch.branch [ then-branch w ↦ omega (arith, w.count-is) | else-branch w ↦ omega (arith, w.count-is) ];
    }
