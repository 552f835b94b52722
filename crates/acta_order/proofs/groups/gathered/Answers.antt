use Rattle.std.proofs.Common.{arith, ◌≡◌, ℕ, ◌+◌, ◌≤◌, length, get_or, refl, sym, ap, ◌∙◌, subst, List}
use Rattle.acta_table.specs.declared.event.Kept.{Kept}
use Rattle.acta_table.specs.declared.model.Parts.{Parts}
use Rattle.acta_sets.specs.declared.held_op.HeldOp.{HeldOp}
use Rattle.acta_axioms.specs.Walks.{held_ops}
use Rattle.acta_order.specs.declared.item.Item.{Item}
use Rattle.acta_order.proofs.Gathering.{AreGathered, gathered-next, gathered-open, gathered-there, gathered-idle, gathered-whole}
use Rattle.acta_order.proofs.groups.gathered.Goals.{in-Operate, in-Some+in-Committed+in_ok-put, in-Some+in_default-fate, in_default-get, in_default}
use Rattle.acta_order.proofs.groups.gathered.Goals as goal

same-gathered : {A : Type 0} {m : Parts A} {h front : List (Kept A)} {n k : ℕ} {gs hs : List (List Item)} → n ≡ k → gs ≡ hs → AreGathered m h front n gs → AreGathered m h front k hs
same-gathered {A} {m} {h} {front} {n} {k} {gs} {hs} e f is = subst (λ x. AreGathered m h front x hs) e (subst (λ xs. AreGathered m h front n xs) f is)

pub loop-k-preserved : goal.loop-k-preserved
loop-k-preserved g c =
    let m = c.args.walk.now.model in
    let kept = c.front-kept.result.now in
    let held : c.operations-held.result.now ≡ held_ops m kept = c.operations-held.ensures.operations ∙ ap (held_ops m) (sym c.front-kept.ensures.front) in
    elim c.match-k.branch [
      | in-Operate w ↦
          elim w.match-get.branch [
            | in-Some+in-Committed+in_ok-put u ↦
                record {
                  gathered =
                      same-gathered (sym w.number-is) (sym (w.groups-is ∙ u.groups-is))
                      (gathered-next m kept c.loop-k.k-index c.k-item.result w.in-Operate.field-0 w.in-Operate.ob w.in-Operate.op c.loop-k.number (c.loop-k.number + 1) u.in-Some.found.now c.loop-k.groups u.put.new.self refl c.loop-k-test.true c.k-item.is w.in-Operate.is
                      (u.in-Some.ensures.lookup.1 ∙ ap (λ (xs : List HeldOp). get_or xs c.loop-k.number u.in-Some.found.now) held) u.in-Committed.is c.loop-k.invariant.gathered u.in_ok-put.ensures.ok);
                  low = let e = w.number-is in omega (arith, e, c.loop-k.invariant.low);
                }
            | in-Some+in_default-fate u ↦
                record {
                  gathered =
                      same-gathered (sym w.number-is) (sym (w.groups-is ∙ u.groups-is))
                      (gathered-open m kept c.loop-k.k-index c.k-item.result w.in-Operate.field-0 w.in-Operate.ob w.in-Operate.op c.loop-k.number u.in-Some.found.now c.loop-k.groups c.loop-k-test.true c.k-item.is w.in-Operate.is
                      (u.in-Some.ensures.lookup.1 ∙ ap (λ (xs : List HeldOp). get_or xs c.loop-k.number u.in-Some.found.now) held) u.in_default-fate.not-Committed c.loop-k.invariant.gathered);
                  low = let e = w.number-is in omega (arith, e, c.loop-k.invariant.low);
                }
            | in_default-get u ↦
                let past : length (held_ops m kept) ≤ c.loop-k.number = rw (← held) u.in_default-get.ensures.lookup.3 in
                absurd (gathered-there m kept c.loop-k.k-index c.k-item.result w.in-Operate.field-0 w.in-Operate.ob w.in-Operate.op c.loop-k.number c.loop-k-test.true c.k-item.is w.in-Operate.is c.loop-k.invariant.gathered.counted past)
          ]
      | in_default w ↦
          record {
            gathered =
                same-gathered (sym w.number-is) (sym w.groups-is)
                (gathered-idle m kept c.loop-k.k-index c.k-item.result c.loop-k.number c.loop-k.groups c.loop-k-test.true c.k-item.is w.in_default.not-Operate c.loop-k.invariant.gathered);
            low = let e = w.number-is in omega (arith, e, c.loop-k.invariant.low);
          }
    ]

pub returns : goal.returns
returns g c = λ t.
    gathered-whole c.args.walk.now.model c.front-kept.result.now c.args.walk.now.front c.loop-k.k-index c.loop-k.number c.loop-k.groups c.loop-k-test.false c.front-kept.ensures.front c.loop-k.invariant.gathered t
