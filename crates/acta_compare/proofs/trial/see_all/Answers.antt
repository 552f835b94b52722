use Rattle.std.proofs.Common.{sym, ◌∙◌}
use Rattle.acta_words.specs.inside.LinesToCome.{lines_to_come}
use Rattle.acta_compare.proofs.Trying.{seen-one, state-one}
use Rattle.acta_compare.proofs.trial.see_all.Goals as goal

pub loop-line-preserved : goal.loop-line-preserved
loop-line-preserved g c =
    let s = c.loop-line.machine in
    let t = c.see.new.machine in
    let lines = lines_to_come c.loop-line.lines in
    let rest = lines_to_come c.next.new.self in
    let line = c.in-Some.line.now in
    record {
      seen = seen-one s t c.loop-line.seen.items c.push.new.self.items _ lines rest line c.in-Some-2.one c.in-Some.ensures.steps (sym c.in_ok-one.ensures.seen ∙ c.in-Some-2.is) c.in_ok-one.ensures.machine c.in_ok-push.ensures.items c.loop-line.invariant.seen;
      state = state-one s t _ lines rest line c.in-Some.ensures.steps c.in_ok-one.ensures.machine c.loop-line.invariant.state;
    }
