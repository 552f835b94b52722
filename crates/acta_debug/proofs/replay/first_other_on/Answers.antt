use Rattle.std.proofs.Common.{◌≡◌, ◌+◌, ◌∙◌, ap, arith, length, refl, subst, sym, take}
use Rattle.std.proofs.lemmas.List.{length-take-le, take_all}
use Rattle.acta_table.specs.declared.answer.Answer.TheVariants.{Admitted}
use Rattle.acta_machine.specs.Table.{State, answer_to}
use Rattle.acta_debug.specs.Histories.{IsFirstOther, IsHistory, state_at}
use Rattle.acta_debug.proofs.Replaying.{HasKept, first-other, kept-one, state-next, taken, with_kept}
use Rattle.acta_debug.proofs.replay.first_other_on.Goals as goal

pub returns-then-not-is_admitted-clause-other : goal.returns-then-not-is_admitted-clause-other
returns-then-not-is_admitted-clause-other g c =
    let m = c.args.recording.now.model in
    let h = c.args.items.now in
    let i = c.loop-item.item-index in
    let k = c.item-item.result in
    let inv = c.loop-item.invariant in
    let wrong : ¬ (answer_to (with_kept m (take i h)) k.event ≡ Admitted (i + 1) k.ret) = λ due.
    let yes = c.is_admitted.ensures.1
    (c.in_ok-answer.ensures.answer ∙ ap (λ (s : State g.row.A.Denot). answer_to s k.event) inv.kept ∙ due ∙ ap (λ n. Admitted n k.ret) (sym inv.place)) in
    let no = c.if-not-is_admitted.true in
    cc in
    subst (λ n. IsFirstOther m h n) (sym inv.place) (first-other m h i k c.loop-item-test.true (taken h i k c.loop-item-test.true c.item-item.is) inv.so_far wrong)

pub returns-then-not-is_admitted-clause-taken : goal.returns-then-not-is_admitted-clause-taken
returns-then-not-is_admitted-clause-taken g c =
    let items = c.args.items.now in
    let at = c.loop-item.item-index in
    let so = c.loop-item.invariant in
    subst (λ n. c.take.new.self ≡ state_at c.args.recording.now.model items n) (sym so.place)
    (state-next c.args.recording.now.model items at c.item-item.result c.loop-item.recording c.take.new.self (record { kept = so.kept; so_far = so.so_far })
    (taken items at c.item-item.result c.loop-item-test.true c.item-item.is) c.in_ok-answer.ensures.ok)

pub loop-item-preserved : goal.loop-item-preserved
loop-item-preserved g c =
    let m = c.args.recording.now.model in
    let h = c.args.items.now in
    let i = c.loop-item.item-index in
    let k = c.item-item.result in
    let t = c.take.new.self in
    let inv = c.loop-item.invariant in
    let before : HasKept m (take i h) c.loop-item.recording = record { kept = inv.kept; so_far = inv.so_far } in
    let admitted : answer_to c.loop-item.recording k.event ≡ Admitted c.loop-item.place k.ret = sym c.in_ok-answer.ensures.answer ∙ c.is_admitted.ensures.0 c.if-not-is_admitted.false in
    let has = kept-one m h i k c.loop-item.recording t before (taken h i k c.loop-item-test.true c.item-item.is) c.loop-item.place admitted c.in_ok-answer.ensures.ok in
    let size : length t.kept ≡ i + 1 = ap (λ (s : State g.row.A.Denot). length s.kept) has.kept ∙ length-take-le (i + 1) h (omega arith) in
    let reported = ap length (c.history.ensures.history ∙ ap (λ (s : State g.row.A.Denot). s.kept) c.machine.ensures) in
    let few = c.history.ensures.within in
    let same = ap (λ (s : State g.row.A.Denot). length s.kept) c.machine.ensures in
    record {
      place = omega (arith, reported, size);
      few = omega (arith, few, same, size);
      kept = has.kept;
      so_far = has.so_far;
    }

pub returns-clause-history : goal.returns-clause-history
returns-clause-history g c =
    subst (λ h. IsHistory c.args.recording.now.model h) (take_all c.loop-item.item-index c.args.items.now c.loop-item-test.false) c.loop-item.invariant.so_far

pub returns-clause-kept : goal.returns-clause-kept
returns-clause-kept g c =
    c.loop-item.invariant.kept ∙ ap (with_kept c.args.recording.now.model) (take_all c.loop-item.item-index c.args.items.now c.loop-item-test.false)

pub loop-item-init : goal.loop-item-init
loop-item-init g c = record { place = refl; few = omega arith; kept = c.requires; so_far = refl }
