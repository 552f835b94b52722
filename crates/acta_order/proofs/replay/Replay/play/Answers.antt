use Rattle.std.proofs.Common.{arith, List, length, take, ◌∙◌, refl, sym, ap}
use Rattle.std.proofs.lemmas.List.{length-append, length-take}
use Rattle.std.proofs.lemmas.Bool.{true≢false}
use Rattle.acta_order.specs.declared.item.Item.{Item}
use Rattle.acta_order.specs.Search.{Replaying}
use Rattle.acta_order.proofs.Playing.{play-all, play-back, play-differs, play-done, play-more}
use Rattle.acta_order.proofs.replay.Replay.play.Goals as goal

pub returns-then-not-is_same : goal.returns-then-not-is_same
returns-then-not-is_same g c = (
  play-back c.args.self.now c.loop-place.self c.cut.new.self c.args.group.now c.loop-place.place c.len-len.result c.loop-place.invariant.kinds c.loop-place.invariant.done c.len-len.ensures.is c.cut.ensures,
  play-differs g.row.A.Denot c.args.self.now c.loop-place.self c.args.group.now c.loop-place.place _ c.due-would.result c.loop-place-test.true c.requires.sound c.loop-place.invariant.kinds c.loop-place.invariant.done c.loop-place.invariant.plays c.due-would.ensures
      (λ same. true≢false (sym (c.if-not-is_same.ensures.1 same))),
)

pub add-requires : goal.add-requires
add-requires g c =
    let done = ap (λ (xs : List Item). length xs) c.loop-place.invariant.done ∙ length-append c.args.self.now.done (take c.loop-place.place c.args.group.now) in
    let part = length-take c.loop-place.place c.args.group.now in
    omega (arith, done, part, c.loop-place-test.true, c.requires.room)

pub loop-place-preserved : goal.loop-place-preserved
loop-place-preserved g c = record {
  kinds = ap (λ (b : Replaying). b.kinds) c.in_ok-add.ensures ∙ c.loop-place.invariant.kinds;
  done = play-done c.args.self.now c.loop-place.self c.add.new.self c.args.group.now c.loop-place.place _ c.loop-place-test.true c.loop-place.invariant.done c.in_ok-add.ensures;
  plays =
      play-more g.row.A.Denot c.args.self.now c.loop-place.self c.args.group.now c.loop-place.place _ c.loop-place-test.true c.requires.sound c.loop-place.invariant.kinds c.loop-place.invariant.done
      (sym c.due-would.ensures ∙ c.if-not-is_same.ensures.0 refl) c.loop-place.invariant.plays;
}

pub returns : goal.returns
returns g c = play-all g.row.A.Denot c.args.self.now c.loop-place.self c.args.group.now c.loop-place.place c.loop-place-test.false c.loop-place.invariant.kinds c.loop-place.invariant.done c.loop-place.invariant.plays
