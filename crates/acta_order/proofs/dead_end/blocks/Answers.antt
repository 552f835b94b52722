use Rattle.std.proofs.Common.{arith, Vec, ◌≡◌, ℕ, ◌+◌, ◌∙◌, List, [], ◌∷◌, ◌++◌, get_or, Option, refl, sym, ap, subst}
use Rattle.std.specs.Prelude.{All, IfSome, IsSome}
use Rattle.std.proofs.lemmas.Bool.{true≢false}
use Rattle.std.proofs.lemmas.List.Elements.{All-push, All-same}
use Rattle.acta_order.specs.declared.dead_end.Block.{Block}
use Rattle.acta_order.specs.declared.item.Item.{Item}
use Rattle.acta_order.specs.Blocks.{IsBlocked, IsBlockedAt, IsFree}
use Rattle.acta_order.specs.Earlier.{limit}
use Rattle.acta_order.specs.Search.{Replaying, at, values_of}
use Rattle.acta_order.proofs.Blocking.{AreBlockedBelow, blocked-more, blocked-same}
use Rattle.acta_order.proofs.Placed.{at-in}
use Rattle.acta_order.proofs.dead_end.blocks.Goals.{then-not-has+then-of-low+in_ok-block+in-Some+in_ok-push-in-Some, else-not-has, else-not-has-via-then-not-has+else-of-low, else-not-has-via-else-not-has}
use Rattle.acta_order.proofs.dead_end.blocks.Goals as goal

pub block_of-requires-clause-low : goal.block_of-requires-clause-low
block_of-requires-clause-low g c = let low = c.requires.low (at c.args.ts.now c.loop-c.c) (at-in c.args.ts.now c.loop-c.c (omega (arith, c.loop-c-test.true))) in omega (arith, low, c.at-t.ensures)

pub loop-c-preserved : goal.loop-c-preserved
loop-c-preserved g c =
    let v = values_of {A = g.row.A.Denot} c.args.replay.now in
    let G : ℕ → List Item = λ t. get_or c.args.groups.now t [] in
    let L = limit c.args.earlier.now in
    let ts = c.args.ts.now in
    let stack = c.args.path.now.stack in
    let low = c.first_open-low.result in
    let here = c.loop-c.c in
    let is_here = IsBlockedAt v G L ts stack low in
    elim c.if-not-has.branch [
      | then-not-has+then-of-low+in_ok-block+in-Some+in_ok-push-in-Some w ↦
          let b = w.in-Some.block in
          let group : w.of-then-of-low.result.now ≡ G (at ts here) = w.of-then-of-low.ensures ∙ ap G c.at-t.ensures in
          let limit_is = w.of.ensures ∙ ap L c.at-t.ensures in
          let same : w.block_of.new.replay ≡ c.loop-c.replay = (subst (λ (o : Option Block). IsSome o → w.block_of.new.replay ≡ c.loop-c.replay) w.in-Some.is w.in_ok-block.ensures.same) refl in
          let found : IsBlocked (values_of {A = g.row.A.Denot} c.loop-c.replay) w.of-then-of-low.result.now c.at-t.result b =
          subst (λ (o : Option Block). IfSome o (IsBlocked (values_of {A = g.row.A.Denot} c.loop-c.replay) w.of-then-of-low.result.now c.at-t.result)) w.in-Some.is w.in_ok-block.ensures.block in
          let blocked : IsBlocked v (G (at ts here)) (at ts here) b =
          subst (λ (x : Replaying). IsBlocked (values_of {A = g.row.A.Denot} x) (G (at ts here)) (at ts here) b) c.loop-c.invariant.replay
          (subst (λ (is : List Item). IsBlocked (values_of {A = g.row.A.Denot} c.loop-c.replay) is (at ts here) b) group
          (subst (λ t. IsBlocked (values_of {A = g.row.A.Denot} c.loop-c.replay) w.of-then-of-low.result.now t b) c.at-t.ensures found)) in
          let free : IsFree L ts stack low here = record { within = omega (arith, c.loop-c-test.true); open_there = sym w.if-not-has.ensures; free = omega (arith, w.if-of-low.true, limit_is) } in
          let grown = ap (λ (bs : Vec Block g.row.A.Denot). bs.items) w.blocks-is ∙ w.in_ok-push-in-Some.ensures.items in
          record {
            replay = w.replay-is ∙ same ∙ c.loop-c.invariant.replay;
            blocks_are = All-same is_here c.if-not-has.blocks.items (c.loop-c.blocks.items ++ b ∷ []) grown (All-push is_here c.loop-c.blocks.items b c.loop-c.invariant.blocks_are (record { pos = here; free = free; blocked = blocked }));
            each = blocked-more L ts stack low here c.loop-c.blocks.items c.if-not-has.blocks.items b c.loop-c.invariant.each grown blocked.txn;
          }
      | else-not-has w ↦
          let kept : (IsFree L ts stack low here → ⊥) → AreBlockedBelow L ts stack low c.if-not-has.blocks.items (here + 1) =
          λ not. subst (λ (bs : Vec Block g.row.A.Denot). AreBlockedBelow L ts stack low bs.items (here + 1)) (sym w.blocks-is) (blocked-same L ts stack low here c.loop-c.blocks.items c.loop-c.invariant.each not) in
          let before = subst (λ (bs : Vec Block g.row.A.Denot). All is_here bs.items) (sym w.blocks-is) c.loop-c.invariant.blocks_are in
          elim w.else-not-has.branch [
            | else-not-has-via-then-not-has+else-of-low u ↦
                let limit_is = u.of.ensures ∙ ap L c.at-t.ensures in
                record {
                  replay = w.replay-is ∙ c.loop-c.invariant.replay;
                  blocks_are = before;
                  each = kept (λ free. let early = free.free in absurd (omega (arith, u.if-of-low.false, limit_is, early)));
                }
            | else-not-has-via-else-not-has u ↦
                record {
                  replay = w.replay-is ∙ c.loop-c.invariant.replay;
                  blocks_are = before;
                  each = kept (λ free. true≢false (u.if-not-has.ensures ∙ free.open_there));
                }
          ]
    ]
