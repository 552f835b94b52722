use Rattle.std.proofs.Common.{arith, ◌≡◌, ℕ, ◌+◌, ◌-◌, ◌<◌, List, [], length, get_or, take, true, Option, sym, ap, ◌∙◌, subst}
use Rattle.std.specs.List.{flat_map, list_all}
use Rattle.acta_table.specs.declared.model.Kind.{Kind}
use Rattle.acta_values.specs.KeptValues.{kinds_of}
use Rattle.acta_order.specs.declared.item.Item.{Item}
use Rattle.acta_order.specs.Earlier.{limit}
use Rattle.acta_order.specs.Paths.{Steps}
use Rattle.acta_order.specs.Search.{IsNext, at, placed, values_at, values_of, is_sound}
use Rattle.acta_axioms.specs.Serial.{Values}
use Rattle.acta_order.specs.Memos.{IsKept, IsFoundOrOver, IsOver}
use Rattle.acta_order.proofs.Placed.{within-top, AreWithin}
use Rattle.acta_order.proofs.Searching.{IsSearching, is-open, search-first, search-found, search-placed, search-none, search-over, search-back, dead-none, dead-kept, done-last, done-long}
use Rattle.acta_order.proofs.Searching.{search-room, search-reached}
use Rattle.acta_order.proofs.Visiting.{AreVisited, visited-first, visited-push, visited-pop, visited-many}
use Rattle.acta_order.proofs.search.search.Goals as goal

pub loop-states-init : goal.loop-states-init
loop-states-init g c = record {
  searching =
      search-first g.row.A.Denot (kinds_of c.args.model.now.objects) (λ t. get_or c.args.groups.now t []) (limit c.args.earlier.now) c.args.ts.now c.in_ok-path.path.stack c.in_ok-replay.replay (ap (λ (p : Steps). p.stack) c.in_ok-path.ensures)
      (c.in_ok-replay.ensures ∙ ap (λ objects. record { kinds = kinds_of objects; done = [] }) c.objects.ensures.objects);
  dead = dead-none g.row.A.Denot _ _ (limit c.args.earlier.now) c.args.ts.now c.new-memo.result c.new-memo.ensures;
  visited = visited-first (values_at {A = g.row.A.Denot} (kinds_of c.args.model.now.objects) []) (λ t. get_or c.args.groups.now t []) (limit c.args.earlier.now) c.args.ts.now c.in_ok-path.path.stack (ap (λ (p : Steps). p.stack) c.in_ok-path.ensures);
  size = ap (λ (p : Steps). p.size) c.in_ok-path.ensures;
}

pub next_new-requires-clause-room : goal.next_new-requires-clause-room
next_new-requires-clause-room g c =
    let e = c.first_open-low.ensures in
    search-room g.row.A.Denot (kinds_of c.args.model.now.objects) (λ t. get_or c.args.groups.now t []) (limit c.args.earlier.now) c.args.ts.now c.loop-states.path.stack c.loop-states.replay c.loop-states.low c.loop-states.next c.first_open-low.result c.loop-states.invariant.searching
    (is-open (limit c.args.earlier.now) c.args.ts.now c.loop-states.path.stack c.loop-states.path.size c.loop-states.low c.first_open-low.result c.loop-states.invariant.size c.requires.distinct c.requires.in_turn e.passed e.distinct e.within e.open) c.requires.few

pub returns-then-low-ts-clause-found : goal.returns-then-low-ts-clause-found
returns-then-low-ts-clause-found g c =
    let e = c.first_open-low.ensures in
    search-found g.row.A.Denot (kinds_of c.args.model.now.objects) (λ t. get_or c.args.groups.now t []) (limit c.args.earlier.now) c.args.ts.now c.loop-states.path.stack c.loop-states.replay c.loop-states.low c.loop-states.next c.first_open-low.result c.loop-states.invariant.searching
    (is-open (limit c.args.earlier.now) c.args.ts.now c.loop-states.path.stack c.loop-states.path.size c.loop-states.low c.first_open-low.result c.loop-states.invariant.size c.requires.distinct c.requires.in_turn e.passed e.distinct e.within e.open) c.if-low-ts.true

pub next_new-requires-clause-sound : goal.next_new-requires-clause-sound
next_new-requires-clause-sound g c = λ j within.
    subst (λ (ks : List Kind). list_all (is_sound ks) (get_or c.args.groups.now (at c.args.ts.now j) []) ≡ true) (sym c.loop-states.invariant.searching.kinds_are) (c.requires.sound j within)

pub returns-in_default-clause-found : goal.returns-in_default-clause-found
returns-in_default-clause-found g c =
    let e = c.first_open-low.ensures in
    let kinds = kinds_of c.args.model.now.objects in
    let ts = c.args.ts.now in
    let G : ℕ → List Item = λ t. get_or c.args.groups.now t [] in
    let L = limit c.args.earlier.now in
    let o = is-open L ts c.loop-states.path.stack c.loop-states.path.size c.loop-states.low c.first_open-low.result c.loop-states.invariant.size c.requires.distinct c.requires.in_turn e.passed e.distinct e.within e.open in
    let s = c.loop-states.invariant.searching in
    let found : Option ℕ → Type 0 = λ x. IsFoundOrOver g.row.A.Denot c.loop-states.memo c.loop-states.replay c.next_new.new.replay G L ts c.loop-states.path.stack c.first_open-low.result c.larger-from.result x in
    let over : IsOver g.row.A.Denot c.loop-states.memo c.loop-states.replay c.next_new.new.replay G L ts c.loop-states.path.stack c.first_open-low.result c.larger-from.result = subst found c.in-None.is c.in_ok-c.ensures in
    search-none g.row.A.Denot kinds G L ts c.loop-states.path.stack
    (search-over g.row.A.Denot kinds G L ts c.loop-states.path.stack c.loop-states.replay c.next_new.new.replay c.loop-states.memo c.loop-states.low c.loop-states.next c.first_open-low.result c.larger-from.result s o c.requires.sound c.larger-from.ensures c.if-low-ts.false c.loop-states.invariant.dead over)
    c.in_default.ensures.none

pub overflow_sub-len : goal.overflow_sub-len
overflow_sub-len g c =
    let e = c.first_open-low.ensures in
    let kinds = kinds_of c.args.model.now.objects in
    let ts = c.args.ts.now in
    let G : ℕ → List Item = λ t. get_or c.args.groups.now t [] in
    let L = limit c.args.earlier.now in
    let o = is-open L ts c.loop-states.path.stack c.loop-states.path.size c.loop-states.low c.first_open-low.result c.loop-states.invariant.size c.requires.distinct c.requires.in_turn e.passed e.distinct e.within e.open in
    let s = c.loop-states.invariant.searching in
    let found : Option ℕ → Type 0 = λ x. IsFoundOrOver g.row.A.Denot c.loop-states.memo c.loop-states.replay c.next_new.new.replay G L ts c.loop-states.path.stack c.first_open-low.result c.larger-from.result x in
    let over : IsOver g.row.A.Denot c.loop-states.memo c.loop-states.replay c.next_new.new.replay G L ts c.loop-states.path.stack c.first_open-low.result c.larger-from.result = subst found c.in-None.is c.in_ok-c.ensures in
    let last = done-last g.row.A.Denot kinds G L ts c.loop-states.path.stack c.pop.new.self.stack c.loop-states.replay c.next_new.new.replay c.loop-states.low c.loop-states.next c.in-Some-pop.c s over.replay c.in-Some-pop.ensures.none in
    let long = done-long (flat_map G (placed ts c.pop.new.self.stack)) (G (at ts c.in-Some-pop.c)) c.next_new.new.replay.done last in
    let own : length c.of-len.result.now ≡ length (G (at ts c.in-Some-pop.c)) = ap length c.of-len.ensures ∙ ap (λ t. length (G t)) c.at.ensures in
    omega (arith, long, own, c.len.ensures.is)

pub overflow_add-next : goal.overflow_add-next
overflow_add-next g c =
    let e = c.first_open-low.ensures in
    let o = is-open (limit c.args.earlier.now) c.args.ts.now c.loop-states.path.stack c.loop-states.path.size c.loop-states.low c.first_open-low.result c.loop-states.invariant.size c.requires.distinct c.requires.in_turn e.passed e.distinct e.within e.open in
    let there : c.in-Some-pop.c < length c.args.ts.now = within-top c.in-Some-pop.c c.pop.new.self.stack (length c.args.ts.now) (subst (λ (s : List ℕ). AreWithin s (length c.args.ts.now)) c.in-Some-pop.ensures.none o.within) in
    omega (arith, there)

pub loop-states-preserved-in-Some : goal.loop-states-preserved-in-Some
loop-states-preserved-in-Some g c =
    let e = c.first_open-low.ensures in
    let kinds = kinds_of c.args.model.now.objects in
    let ts = c.args.ts.now in
    let G : ℕ → List Item = λ t. get_or c.args.groups.now t [] in
    let L = limit c.args.earlier.now in
    let o = is-open L ts c.loop-states.path.stack c.loop-states.path.size c.loop-states.low c.first_open-low.result c.loop-states.invariant.size c.requires.distinct c.requires.in_turn e.passed e.distinct e.within e.open in
    let s = c.loop-states.invariant.searching in
    let found : Option ℕ → Type 0 = λ x. IsFoundOrOver g.row.A.Denot c.loop-states.memo c.loop-states.replay c.next_new.new.replay G L ts c.loop-states.path.stack c.first_open-low.result c.larger-from.result x in
    let v : Values g.row.A.Denot = values_at kinds [] in
    let next : IsNext g.row.A.Denot c.loop-states.replay c.next_new.new.replay G L ts c.loop-states.path.stack c.first_open-low.result c.larger-from.result c.in-Some.c = subst found c.in-Some.is c.in_ok-c.ensures in
    let more = search-placed g.row.A.Denot kinds G L ts c.loop-states.path.stack c.push.new.self.stack c.loop-states.replay c.next_new.new.replay c.loop-states.low c.loop-states.next c.first_open-low.result c.larger-from.result c.in-Some.c s o c.if-low-ts.false c.requires.sound c.larger-from.ensures
    next (ap (λ (p : Steps). p.stack) c.in_ok-push-in-Some.ensures) in
    let low = next.from_on in
    record {
      searching = more;
      dead = c.loop-states.invariant.dead;
      visited =
          subst (λ (x : List ℕ). AreVisited v G L ts x 0 (c.loop-states.states + 1)) (ap (λ (p : Steps). p.stack) (sym c.in_ok-push-in-Some.ensures))
          (visited-push v G L ts c.loop-states.path.stack c.loop-states.next c.loop-states.states c.in-Some.c (omega (arith, low, c.larger-from.ensures))
          (search-reached g.row.A.Denot kinds G L ts c.loop-states.path.stack c.next_new.new.replay c.first_open-low.result 0 0 c.in-Some.c
          (subst (λ (x : List ℕ). IsSearching g.row.A.Denot kinds G L ts x c.next_new.new.replay c.first_open-low.result 0) (ap (λ (p : Steps). p.stack) c.in_ok-push-in-Some.ensures) more) o.distinct_stack o.within next.high next.open_there)
          c.loop-states.invariant.visited);
      size = ap (λ (p : Steps). p.size) c.in_ok-push-in-Some.ensures ∙ c.loop-states.invariant.size;
    }

pub loop-states-preserved : goal.loop-states-preserved
loop-states-preserved g c =
    let e = c.first_open-low.ensures in
    let kinds = kinds_of c.args.model.now.objects in
    let ts = c.args.ts.now in
    let G : ℕ → List Item = λ t. get_or c.args.groups.now t [] in
    let L = limit c.args.earlier.now in
    let o = is-open L ts c.loop-states.path.stack c.loop-states.path.size c.loop-states.low c.first_open-low.result c.loop-states.invariant.size c.requires.distinct c.requires.in_turn e.passed e.distinct e.within e.open in
    let s = c.loop-states.invariant.searching in
    let found : Option ℕ → Type 0 = λ x. IsFoundOrOver g.row.A.Denot c.loop-states.memo c.loop-states.replay c.next_new.new.replay G L ts c.loop-states.path.stack c.first_open-low.result c.larger-from.result x in
    let v : Values g.row.A.Denot = values_at kinds [] in
    let over : IsOver g.row.A.Denot c.loop-states.memo c.loop-states.replay c.next_new.new.replay G L ts c.loop-states.path.stack c.first_open-low.result c.larger-from.result = subst found c.in-None.is c.in_ok-c.ensures in
    let stuck = search-over g.row.A.Denot kinds G L ts c.loop-states.path.stack c.loop-states.replay c.next_new.new.replay c.loop-states.memo c.loop-states.low c.loop-states.next c.first_open-low.result c.larger-from.result s o c.requires.sound c.larger-from.ensures c.if-low-ts.false c.loop-states.invariant.dead over in
    let own : length c.of-len.result.now ≡ length (G (at ts c.in-Some-pop.c)) = ap length c.of-len.ensures ∙ ap (λ t. length (G t)) c.at.ensures in
    let cut : c.len.result - length c.of-len.result.now ≡ length c.next_new.new.replay.done - length (G (at ts c.in-Some-pop.c)) = (λ i. c.len.ensures.is i - own i) in
    record {
      searching =
          subst (λ n. IsSearching g.row.A.Denot kinds G L ts c.pop.new.self.stack c.cut.new.self n (c.in-Some-pop.c + 1)) (sym c.smaller-low.ensures)
          (search-back g.row.A.Denot kinds G L ts c.loop-states.path.stack c.pop.new.self.stack c.loop-states.replay c.next_new.new.replay c.cut.new.self c.loop-states.low c.loop-states.next c.first_open-low.result c.in-Some-pop.c s o over.replay stuck c.in-Some-pop.ensures.none
          (c.cut.ensures ∙ ap (λ k. record c.next_new.new.replay { done = take k c.next_new.new.replay.done }) cut));
      dead = dead-kept g.row.A.Denot kinds G L ts c.loop-states.path.stack c.loop-states.replay c.next_new.new.replay c.loop-states.memo c.remember.new.memo c.loop-states.low c.loop-states.next c.first_open-low.result s o c.requires.sound c.loop-states.invariant.dead over.replay stuck
          (subst (λ n. IsKept (values_at {A = g.row.A.Denot} c.next_new.new.replay.kinds []) n c.loop-states.memo c.remember.new.memo c.loop-states.path.stack (values_of {A = g.row.A.Denot} c.next_new.new.replay)) c.loop-states.invariant.size c.in_ok-remember-in-None.ensures);
      visited = visited-pop v G L ts c.loop-states.path.stack c.pop.new.self.stack c.loop-states.next c.loop-states.states c.in-Some-pop.c c.in-Some-pop.ensures.none c.loop-states.invariant.visited;
      size = c.in-Some-pop.ensures.size ∙ c.loop-states.invariant.size;
    }

pub returns-clause-fault : goal.returns-clause-fault
returns-clause-fault g c = visited-many (values_at {A = g.row.A.Denot} (kinds_of c.args.model.now.objects) []) (λ t. get_or c.args.groups.now t []) (limit c.args.earlier.now) c.args.ts.now c.loop-states.path.stack c.loop-states.next c.loop-states.states c.args.most_states c.loop-states-test.false c.loop-states.invariant.visited
