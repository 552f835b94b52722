use Rattle.std.proofs.Common.{arith, ◌≡◌, ℕ, List, [], length, get_or, map, None, Option, sym, ap, ◌∙◌, subst}
use Rattle.std.specs.Prelude.{option_map, IfSome}
use Rattle.std.proofs.lemmas.List.Elements.{All-weaker}
use Rattle.acta_values.specs.KeptValues.{kinds_of}
use Rattle.acta_order.specs.declared.item.Item.{Item}
use Rattle.acta_order.specs.Answers.{IsDeadEnd}
use Rattle.acta_order.specs.Blocks.{IsStuck}
use Rattle.acta_order.specs.Earlier.{Counted, limit}
use Rattle.acta_order.specs.Orders.{is_in, AreDistinct, IsSerial, IsFault, numbers_of}
use Rattle.acta_order.specs.Paths.{Steps}
use Rattle.acta_order.specs.Search.{at, placed, values_at, AreSound, IsFoundOrder, IsFound}
use Rattle.acta_order.proofs.Placed.{AreWithin, is_in-reverse, distinct-reverse, placed-map}
use Rattle.acta_order.proofs.Committing.{before-of, turn-of}
use Rattle.acta_order.proofs.Playing.{sound-placed}
use Rattle.acta_order.proofs.Room.{groups-few}
use Rattle.acta_order.proofs.Answering.{answer-none, answer-found, answer-fault, passed-on, taken-committed}
use Rattle.acta_order.proofs.DeadEnds.{dead-end-of, impossible-unsound, unsound-of}
use Rattle.acta_order.proofs.order.serial_order_of.Goals as goal

pub returns-in-Some-clause-answer : goal.returns-in-Some-clause-answer
returns-in-Some-clause-answer g c =
    let ts = c.taken-ts.result.now in
    let G : ℕ → List Item = λ t. get_or c.in_ok-groups.groups t [] in
    let those = taken-committed c.args.kept.now ts c.in_ok-commits.commits.stack c.taken-ts.ensures c.in_ok-commits.ensures.commits.each in (
      impossible-unsound c.args.orders c.args.model.now c.args.kept.now G ts c.in-Some.number c.in_ok-groups.ensures those c.in-Some.ensures,
      unsound-of c.args.model.now c.args.kept.now G ts c.in-Some.number c.in_ok-groups.ensures those c.in-Some.ensures,
    )

pub search-requires-clause-distinct : goal.search-requires-clause-distinct
search-requires-clause-distinct g c = subst AreDistinct (sym c.taken-ts.ensures) (distinct-reverse c.in_ok-commits.commits.stack c.first_open-known.ensures.distinct)

pub search-requires-clause-in_turn : goal.search-requires-clause-in_turn
search-requires-clause-in_turn g c = turn-of c.committed.new.earlier c.args.kept.now c.in_ok-commits.commits.stack c.taken-ts.result.now c.in_ok-commits.ensures.commits c.taken-ts.ensures

pub committed-requires-clause-fresh : goal.committed-requires-clause-fresh
committed-requires-clause-fresh g c = ap (λ (e : Counted). e.counts) c.in_ok-earlier.ensures

pub listed-requires-clause-within : goal.listed-requires-clause-within
listed-requires-clause-within g c = λ j is.
    let size : c.in-Some-2.path.size ≡ length c.taken-ts.result.now = subst (λ (o : Option Steps). IfSome o (λ path. path.size ≡ length c.taken-ts.result.now)) c.in-Some-2.is c.in_ok-path.ensures.size in
    let there = c.first_open-known-in-Some-2.ensures.within j (sym (ap (λ (xs : List ℕ). is_in xs j) c.taken.ensures ∙ is_in-reverse c.in-Some-2.path.stack j) ∙ is) in
    omega (arith, there, size)

pub listed-requires-clause-low : goal.listed-requires-clause-low
listed-requires-clause-low g c = λ t is.
    let there = c.first_open-known.ensures.within t (sym (ap (λ (xs : List ℕ). is_in xs t) c.taken-ts.ensures ∙ is_in-reverse c.in_ok-commits.commits.stack t) ∙ is) in
    omega (arith, there, c.in_ok-commits.ensures.size)

pub dead_ends-requires-clause-low : goal.dead_ends-requires-clause-low
dead_ends-requires-clause-low g c = λ t is.
    let there = c.first_open-known.ensures.within t (sym (ap (λ (xs : List ℕ). is_in xs t) c.taken-ts.ensures ∙ is_in-reverse c.in_ok-commits.commits.stack t) ∙ is) in
    omega (arith, there, c.in_ok-commits.ensures.size)

pub returns-in-Some-2-clause-answer : goal.returns-in-Some-2-clause-answer
returns-in-Some-2-clause-answer g c =
    let ts = c.taken-ts.result.now in
    let G : ℕ → List Item = λ t. get_or c.in_ok-groups.groups t [] in
    let L = limit c.committed.new.earlier in
    let kinds = kinds_of c.args.model.now.objects in
    let stack = c.in-Some-2.path.stack in
    let found : IsFoundOrder (values_at {A = g.row.A.Denot} kinds []) G L ts (placed ts stack) =
    subst (λ (o : Option Steps). IsFound (values_at {A = g.row.A.Denot} kinds []) G L ts (option_map (λ path. path.stack) o)) c.in-Some-2.is c.in_ok-path.ensures.found in
    let size : c.in-Some-2.path.size ≡ length ts = subst (λ (o : Option Steps). IfSome o (λ path. path.size ≡ length ts)) c.in-Some-2.is c.in_ok-path.ensures.size in
    let within : AreWithin stack (length ts) = λ j is. let there = c.first_open-known-in-Some-2.ensures.within j is in omega (arith, there, size) in
    let sound : AreSound kinds G ts = c.in_default.ensures in
    let listed : placed ts stack ≡ numbers_of c.of.result =
    placed-map ts stack ∙ ap (map (at ts)) (sym c.taken.ensures) ∙ sym c.in_ok-listed-in-Some-2.ensures ∙ ap numbers_of (sym c.of.ensures) in
    let answer = answer-found c.args.orders c.args.model.now c.args.kept.now G L ts (placed ts stack) c.in_ok-groups.ensures
    (taken-committed c.args.kept.now ts c.in_ok-commits.commits.stack c.taken-ts.ensures c.in_ok-commits.ensures.commits.each)
    (before-of c.args.orders c.args.kept.now c.committed.new.earlier c.in_ok-commits.commits.stack ts c.in_ok-commits.ensures.commits (c.in_ok-commits.ensures.orders ∙ ap (λ (e : Counted). e.orders) c.in_ok-earlier.ensures) c.taken-ts.ensures)
    (λ d. c.taken-ts.ensures ∙ c.in_ok-commits.ensures.commits.in_order d) found (sound-placed kinds G ts stack sound within) in
    subst (λ (order : List ℕ). IsSerial c.args.orders c.args.model.now c.args.kept.now order) listed answer

pub returns-clause-answer : goal.returns-clause-answer
returns-clause-answer g c =
    let ts = c.taken-ts.result.now in
    let G : ℕ → List Item = λ t. get_or c.in_ok-groups.groups t [] in
    let L = limit c.committed.new.earlier in
    let m = c.args.model.now in
    let h = c.args.kept.now in
    let kinds = kinds_of m.objects in
    let none : IsFound (values_at {A = g.row.A.Denot} kinds []) G L ts None =
    subst (λ (o : Option Steps). IsFound (values_at {A = g.row.A.Denot} kinds []) G L ts (option_map (λ path. path.stack) o)) c.in-None.is c.in_ok-path.ensures.found in
    let those = taken-committed h ts c.in_ok-commits.commits.stack c.taken-ts.ensures c.in_ok-commits.ensures.commits.each in
    let before = before-of c.args.orders h c.committed.new.earlier c.in_ok-commits.commits.stack ts c.in_ok-commits.ensures.commits (c.in_ok-commits.ensures.orders ∙ ap (λ (e : Counted). e.orders) c.in_ok-earlier.ensures) c.taken-ts.ensures in
    let distinct : AreDistinct ts = subst AreDistinct (sym c.taken-ts.ensures) (distinct-reverse c.in_ok-commits.commits.stack c.first_open-known.ensures.distinct) in (
      answer-none c.args.orders m h G L ts c.in_ok-groups.ensures those before none,
      All-weaker (IsStuck (values_at {A = g.row.A.Denot} kinds []) G L ts) (IsDeadEnd c.args.orders m h) (dead-end-of c.args.orders m h G L ts c.in_ok-groups.ensures those before distinct c.in_default.ensures) c.in_ok-ends-in-None.ends c.in_ok-ends-in-None.ensures,
    )

pub search-requires-clause-few : goal.search-requires-clause-few
search-requires-clause-few g c = groups-few c.args.model.now c.args.kept.now (λ t. get_or c.in_ok-groups.groups t []) c.in_ok-groups.ensures c.if-kept-gt-MOST_EVENTS.false

pub returns-in_err-path-clause-fault : goal.returns-in_err-path-clause-fault
returns-in_err-path-clause-fault g c =
    let ts = c.taken-ts.result.now in
    let G : ℕ → List Item = λ t. get_or c.in_ok-groups.groups t [] in
    let L = limit c.committed.new.earlier in
    let kinds = kinds_of c.args.model.now.objects in
    let distinct : AreDistinct ts = subst AreDistinct (sym c.taken-ts.ensures) (distinct-reverse c.in_ok-commits.commits.stack c.first_open-known.ensures.distinct) in
    let sound : AreSound kinds G ts = c.in_default.ensures in
    passed-on c.from_residual-in_err-path.result c.in_err-path.field-0.0 (IsFault c.args.orders c.args.model.now c.args.kept.now c.args.most_states)
    (answer-fault c.args.orders c.args.model.now c.args.kept.now G L ts c.args.most_states c.in_err-path.field-0.0 c.in_ok-groups.ensures
    (taken-committed c.args.kept.now ts c.in_ok-commits.commits.stack c.taken-ts.ensures c.in_ok-commits.ensures.commits.each)
    (before-of c.args.orders c.args.kept.now c.committed.new.earlier c.in_ok-commits.commits.stack ts c.in_ok-commits.ensures.commits (c.in_ok-commits.ensures.orders ∙ ap (λ (e : Counted). e.orders) c.in_ok-earlier.ensures) c.taken-ts.ensures)
    distinct sound c.in_err-path.ensures.fault) c.from_residual-in_err-path.ensures.1
