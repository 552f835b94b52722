use Rattle.std.proofs.Common.{◌++◌, [], ◌∷◌, flat_map, append-nil, append_assoc, refl, ap, ◌∙◌}
use Rattle.std.proofs.lemmas.Grind.{flat_map-append}
use Rattle.acta_judge.specs.inside.Parts.{at_end, faults_ahead, faults_left}
use Rattle.acta_judge.proofs.Advancing.{end-advanced, faults-rest}
use Rattle.acta_judge.proofs.parts.cut.Goals as goal

pub loop-init : goal.loop-init
loop-init g c =
    record {
      whole = refl;
      reported = ap (λ ps. flat_map (faults_ahead c.args.size) ps ++ faults_left c.args.walk.now) c.new-parts.ensures.items;
    }

pub loop-preserved : goal.loop-preserved
loop-preserved g c =
    let reported = faults_ahead c.args.size in
    let w = c.loop.walk in
    let parts = c.loop.parts.items in
    let part = c.in_ok-copy.field-0 in
    let skipped = c.in_ok-skip.ensures in
    record {
      whole = ap at_end skipped ∙ end-advanced c.args.size w ∙ c.loop.invariant.whole;
      reported =
          ap (λ ps. flat_map reported ps ++ faults_left c.skip.new.walk) c.in_ok-push.ensures.items
          ∙ ap (λ fs. fs ++ faults_left c.skip.new.walk) (flat_map-append reported parts (part ∷ []))
          ∙ append_assoc (flat_map reported parts) (reported part ++ []) (faults_left c.skip.new.walk)
          ∙ ap (λ fs. flat_map reported parts ++ fs)
          (ap (λ fs. fs ++ faults_left c.skip.new.walk) (append-nil (reported part)) ∙ (λ i. reported (c.in_ok-copy.ensures i) ++ faults_left (skipped i)) ∙ faults-rest c.args.size w)
          ∙ c.loop.invariant.reported;
    }
