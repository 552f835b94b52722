use Rattle.std.proofs.Common.{rules, ◌≡◌, ◌++◌, length, drop}
use Rattle.acta_locked.proofs.Watching.{fronts-add}
use Rattle.acta_locked.proofs.run.Run.judge.Goals as goal

pub loop-turn-preserved : goal.loop-turn-preserved
loop-turn-preserved g c =
    let i = c.loop-turn.invariant in
    let m = g.J.Job.model in
    let seen = c.loop-turn.history.items in
    let copy = c.in_ok-copy.copy.items in
    let goes_on : copy ≡ seen ++ drop (length seen) copy = rw (c.as_slice-in-loop-turn.ensures.value, c.as_slice-in-loop-turn-2.ensures.value) at (c.begins.ensures c.if-not-begins.false) in
    let counted : c.len-length.result ≡ length copy = search rules in
    record {
      many = search rules;
      room = search rules;
      are = fronts-add m seen copy (drop (length seen) copy) c.loop-turn.fronts.items c.push.new.self.items c.len-length.result c.in-Ok.verdict i.are goes_on (search rules) (search rules) counted c.in-Ok-push.ensures.items;
    }
