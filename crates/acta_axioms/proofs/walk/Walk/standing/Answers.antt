use Rattle.std.proofs.Common.{◌≡◌, ◌<◌, ◌+◌, ◌++◌, ◌∷◌, [], min, length, get_or, take, option_map, sym, ap, arith, ◌∙◌}
use Rattle.std.proofs.lemmas.List.{take_more, take_min}
use Rattle.acta_axioms.specs.Operations.{number_after, standing_of}
use Rattle.acta_axioms.specs.inside.Holding.{followed_on, next_number}
use Rattle.acta_axioms.specs.inside.TxnRecords.{heir_before, txn_record}
use Rattle.acta_axioms.specs.inside.Walking.{standing_in}
use Rattle.acta_axioms.proofs.Bringing.{standing-more, number-more, number-low}
use Rattle.acta_axioms.proofs.TxnRecords.{heir-before}
use Rattle.acta_axioms.proofs.walk.Walk.standing.Goals as goal

pub loop-i-preserved : goal.loop-i-preserved
loop-i-preserved g c =
    let m = c.args.self.now.model in
    let h = c.args.self.now.front in
    let i = c.loop-i.i in
    let d = c.index-front-i.result in
    let k = get_or c.front-front.result.now i d in
    let inv = c.loop-i.invariant in
    let front : c.front-front.result.now ≡ h = c.front-front.ensures.front in
    let long : length c.front-front.result.now ≡ length h = ap length front in
    let end : c.min-end.result ≡ min c.args.n (length c.front-front.result.now) = c.min-end.ensures in
    let within : i < length h = omega (arith, c.loop-i-test.true, end, long) in
    let here : k ≡ get_or h i d = ap (λ ks. get_or ks i d) front in
    let longer : take i h ++ k ∷ [] ≡ take (i + 1) h = ap (λ q. take i h ++ q ∷ []) here ∙ sym (take_more h i d within) in
    let left : c.heir_after-heir.result ≡ heir_before c.self.inside.model.now i c.as_slice.result.now k.event = c.heir_after-heir.ensures in
    let heir = left ∙ (λ x. heir_before (ap (λ w. w.model) c.self.view_is x) i (c.as_slice.ensures.value x) k.event)
    ∙ heir-before m h c.self.inside.lines.items i k.event (omega (arith, within)) (λ t. c.self.invariant.lines_are t ∙ ap (λ w. txn_record w.front t) c.self.view_is) in
    let held : c.followed_on-held.result ≡ followed_on c.heir_after-heir.result k.event c.args.op.0 c.loop-i.number c.loop-i.held = c.followed_on-held.ensures in
    let number : c.next_number-number.result ≡ next_number k.event c.loop-i.number = c.next_number-number.ensures in
    record {
      held = ap (option_map standing_in) (held ∙ (λ x. followed_on (heir x) k.event c.args.op.0 (inv.number x) c.loop-i.held))
          ∙ standing-more m (take i h) k c.args.op.0 c.loop-i.held inv.held ∙ ap (λ g. standing_of m g c.args.op.0) longer;
      number = number ∙ ap (next_number k.event) inv.number ∙ number-more (take i h) k ∙ ap number_after longer;
      low = omega (arith, number-low k.event c.loop-i.number, number, inv.low);
    }

pub returns : goal.returns
returns g c =
    let h = c.args.self.now.front in
    let long : length c.front-front.result.now ≡ length h = ap length c.front-front.ensures.front in
    let end : c.min-end.result ≡ min c.args.n (length c.front-front.result.now) = c.min-end.ensures in
    let all : c.loop-i.i ≡ min c.args.n (length h) = omega (arith, c.loop-i-test.false, c.loop-i.auto.i-end, end, long) in
    c.loop-i.invariant.held ∙ ap (λ g. standing_of c.args.self.now.model g c.args.op.0) (ap (λ n. take n h) all ∙ take_min c.args.n h)
