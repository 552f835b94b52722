use Rattle.std.proofs.Common.{rules, arith, ap, refl, inl, inr, ◌≡◌, ◌+◌, ◌++◌, ◌∷◌, [], List, sym, subst, ◌∙◌, ◌≤◌, length, map}
use Rattle.std.specs.Prelude.{Ok, Err}
use Rattle.acta_table.specs.declared.event.Event.{Event}
use Rattle.acta_locked.specs.declared.book.Entry.{Entry}
use Rattle.acta_locked.specs.declared.book.TakeError.TheVariants as refusal
use Rattle.std.specs.List.{AllByRecursion}
use Rattle.acta_locked.specs.Desks.{IsHandedIn}
use Rattle.acta_locked.specs.Gates.{LetOn}
use Rattle.acta_locked.proofs.Working.{gave_up-is, stopped, stopped-unanswered, stopped-answered, seats-push, made-push, made-all}
use Rattle.acta_locked.proofs.Working.{are-let_on, gave-push, grown-many, let_on-push, stop-at}
use Rattle.acta_locked.proofs.worker.work.Goals as goal

pub returns-in-Err-BookFull-clause-before : goal.returns-in-Err-BookFull-clause-before
returns-in-Err-BookFull-clause-before g c =
    let i = c.loop-k.invariant in
    stopped-unanswered g.D.Desk.seat_in g.D.Desk.event_in (g.D.Desk.answered c.args.desk.now) c.seat-seat.result (g.D.Desk.seat_of c.args.desk.now) c.args.script.now c.as_slice-events.result.now c.loop-k.k c.loop-k.entries.items
    i.opened c.as_slice-events.ensures i.seats i.made _ (g.met.D.Desk.further _ _ _ _ _ i.answered c.in-Err-BookFull.ensures.none)

pub returns-in-Err-Memory-clause-before : goal.returns-in-Err-Memory-clause-before
returns-in-Err-Memory-clause-before g c =
    let i = c.loop-k.invariant in
    stopped-unanswered g.D.Desk.seat_in g.D.Desk.event_in (g.D.Desk.answered c.args.desk.now) c.seat-seat.result (g.D.Desk.seat_of c.args.desk.now) c.args.script.now c.as_slice-events.result.now c.loop-k.k c.loop-k.entries.items
    i.opened c.as_slice-events.ensures i.seats i.made _ (g.met.D.Desk.further _ _ _ _ _ i.answered c.in-Err-Memory.ensures.none)

pub returns-then-not-after-clause-before : goal.returns-then-not-after-clause-before
returns-then-not-after-clause-before g c =
    let i = c.loop-k.invariant in
    let reported = c.in-Ok-hand.ensures in
    stopped-answered g.D.Desk.seat_in g.D.Desk.event_in (g.D.Desk.answered c.args.desk.now) c.seat-seat.result (g.D.Desk.seat_of c.args.desk.now) c.args.script.now c.as_slice-events.result.now c.loop-k.k c.loop-k.entries.items
    i.opened c.as_slice-events.ensures i.seats i.made _ c.in-Ok-hand.entry c.index-events-k.result (g.met.D.Desk.further _ _ _ _ _ i.answered reported.answered) (reported.seat ∙ i.same_seat) (reported.event ∙ c.in-Ok.ensures) c.index-events-k.is c.loop-k-test.true

pub returns-then-is_err-2-clause-before : goal.returns-then-is_err-2-clause-before
returns-then-is_err-2-clause-before g c =
    let i = c.loop-k.invariant in
    let reported = c.in-Ok-hand.ensures in
    stopped-answered g.D.Desk.seat_in g.D.Desk.event_in (g.D.Desk.answered c.args.desk.now) c.seat-seat.result (g.D.Desk.seat_of c.args.desk.now) c.args.script.now c.as_slice-events.result.now c.loop-k.k c.loop-k.entries.items
    i.opened c.as_slice-events.ensures i.seats i.made _ c.in-Ok-hand.entry c.index-events-k.result (g.met.D.Desk.further _ _ _ _ _ i.answered reported.answered) (reported.seat ∙ i.same_seat) (reported.event ∙ c.in-Ok.ensures) c.index-events-k.is c.loop-k-test.true

pub loop-k-preserved : goal.loop-k-preserved
loop-k-preserved g c =
    let es = c.loop-k.entries.items in
    let push : c.push.new.self.items ≡ es ++ c.in-Ok-hand.entry ∷ [] = search rules in
    record {
      same_seat = search rules;
      opened = search rules;
      seats = seats-push g.D.Desk.seat_in c.seat-seat.result es c.push.new.self.items c.in-Ok-hand.entry push c.loop-k.invariant.seats (c.in-Ok-hand.ensures.seat ∙ c.loop-k.invariant.same_seat);
      made = made-push g.D.Desk.event_in c.as_slice-events.result.now c.loop-k.k es c.push.new.self.items c.in-Ok-hand.entry c.index-events-k.result push c.loop-k.invariant.made (c.in-Ok-hand.ensures.event ∙ c.in-Ok.ensures) c.index-events-k.is (search rules);
      answered = subst (λ (l : List (Entry g.row.A.Denot)). g.D.Desk.answered c.args.desk.now l c.hand.new.self) (sym push) (g.met.D.Desk.further _ _ _ _ _ c.loop-k.invariant.answered c.in-Ok-hand.ensures.answered);
      many = grown-many c.loop-k.k es c.push.new.self.items c.in-Ok-hand.entry push c.loop-k.invariant.many;
      let_on = subst (λ l. LetOn (g.G.Gate.may_pass c.args.gate.now c.seat-seat.result) (g.G.Gate.may_go_on c.args.gate.now c.seat-seat.result) 1 l) (sym push) (let_on-push (g.G.Gate.may_pass c.args.gate.now c.seat-seat.result) (g.G.Gate.may_go_on c.args.gate.now c.seat-seat.result) 1 (c.loop-k.k + 1) es c.in-Ok-hand.entry c.loop-k.invariant.let_on (let m = c.loop-k.invariant.many in omega (arith, m)) (c.if-not-before.ensures.passes refl) (c.if-not-after.ensures.goes_on refl));
      gave = gave-push g.D.Desk.gave g.met.D.Desk.onward c.args.desk.now c.loop-k.desk c.hand.new.self es c.push.new.self.items c.in-Ok-hand.entry push c.loop-k.invariant.gave c.in-Ok-hand.ensures.gave;
    }

pub returns-clause-report : goal.returns-clause-report
returns-clause-report g c =
    let i = c.loop-k.invariant in
    let of = c.of-entries.ensures in
    let past : length c.as_slice-events.result.now ≤ c.loop-k.k = search rules in
    record {
      seat_is = sym i.opened;
      entries = subst (λ (l : List (Entry g.row.A.Denot)). IsHandedIn g.D.Desk.seat_in g.D.Desk.event_in (g.D.Desk.seat_of c.args.desk.now) c.args.script.now l) (sym of) (record {
        seats = subst (λ n. AllByRecursion (λ (e : Entry g.row.A.Denot). g.D.Desk.seat_in e ≡ n) c.loop-k.entries.items) (sym i.opened) i.seats;
        events = made-all g.D.Desk.event_in c.as_slice-events.result.now c.loop-k.k c.loop-k.entries.items past i.made ∙ c.as_slice-events.ensures;
      });
    }

pub returns-then-not-before-clause-stopped : goal.returns-then-not-before-clause-stopped
returns-then-not-before-clause-stopped g c = λ seat gave.
    let long = ap (λ (l : List (Event g.row.A.Denot)). length l) c.as_slice-events.ensures in
    let at : c.seat-seat.result ≡ seat = gave_up-is _ _ gave in
    (c.loop-k.k + 1, omega arith, omega (arith, long, c.loop-k-test.true), subst (λ n. g.G.Gate.may_stop c.args.gate.now n (c.loop-k.k + 1)) at (c.if-not-before.ensures.stops refl))

pub returns-then-not-after-clause-stopped : goal.returns-then-not-after-clause-stopped
returns-then-not-after-clause-stopped g c = λ seat gave.
    let long = ap (λ (l : List (Event g.row.A.Denot)). length l) c.as_slice-events.ensures in
    let at : c.seat-seat.result ≡ seat = gave_up-is _ _ gave in
    (c.loop-k.k + 1, omega arith, omega (arith, long, c.loop-k-test.true), subst (λ n. g.G.Gate.may_stop c.args.gate.now n (c.loop-k.k + 1)) at (c.if-not-after.ensures.stops refl))

pub returns-in_default-clause-before : goal.returns-in_default-clause-before
returns-in_default-clause-before g c =
    let i = c.loop-k.invariant in
    stopped g.D.Desk.seat_in g.D.Desk.event_in (g.D.Desk.answered c.args.desk.now) c.seat-seat.result (g.D.Desk.seat_of c.args.desk.now) c.args.script.now c.as_slice-events.result.now c.loop-k.k c.loop-k.entries.items
    i.opened c.as_slice-events.ensures i.seats i.made _ i.answered

pub returns-then-not-before-clause-before : goal.returns-then-not-before-clause-before
returns-then-not-before-clause-before g c =
    let i = c.loop-k.invariant in
    stopped g.D.Desk.seat_in g.D.Desk.event_in (g.D.Desk.answered c.args.desk.now) c.seat-seat.result (g.D.Desk.seat_of c.args.desk.now) c.args.script.now c.as_slice-events.result.now c.loop-k.k c.loop-k.entries.items
    i.opened c.as_slice-events.ensures i.seats i.made _ i.answered

pub returns-in_default-clause-why : goal.returns-in_default-clause-why
returns-in_default-clause-why g c =
    let i = c.loop-k.invariant in
    let P = g.G.Gate.may_pass c.args.gate.now in
    let Q = g.G.Gate.may_go_on c.args.gate.now in
    let es = c.loop-k.entries.items in
    (es, are-let_on g.D.Desk.seat_in g.D.Desk.event_in P Q c.seat-seat.result (g.D.Desk.seat_of c.args.desk.now) c.args.script.now c.as_slice-events.result.now c.loop-k.k es i.opened c.as_slice-events.ensures i.seats i.made i.many i.let_on, inl i.gave)

pub returns-then-not-before-clause-why : goal.returns-then-not-before-clause-why
returns-then-not-before-clause-why g c =
    let i = c.loop-k.invariant in
    let P = g.G.Gate.may_pass c.args.gate.now in
    let Q = g.G.Gate.may_go_on c.args.gate.now in
    let es = c.loop-k.entries.items in
    (es, are-let_on g.D.Desk.seat_in g.D.Desk.event_in P Q c.seat-seat.result (g.D.Desk.seat_of c.args.desk.now) c.args.script.now c.as_slice-events.result.now c.loop-k.k es i.opened c.as_slice-events.ensures i.seats i.made i.many i.let_on, inl i.gave, stop-at (g.G.Gate.may_stop c.args.gate.now) c.seat-seat.result (g.D.Desk.seat_of c.args.desk.now) c.loop-k.k es i.opened i.many (c.if-not-before.ensures.stops refl))

pub returns-in-Err-BookFull-clause-why : goal.returns-in-Err-BookFull-clause-why
returns-in-Err-BookFull-clause-why g c =
    let i = c.loop-k.invariant in
    let P = g.G.Gate.may_pass c.args.gate.now in
    let Q = g.G.Gate.may_go_on c.args.gate.now in
    let es = c.loop-k.entries.items in
    (es, are-let_on g.D.Desk.seat_in g.D.Desk.event_in P Q c.seat-seat.result (g.D.Desk.seat_of c.args.desk.now) c.args.script.now c.as_slice-events.result.now c.loop-k.k es i.opened c.as_slice-events.ensures i.seats i.made i.many i.let_on, g.met.D.Desk.onward _ _ _ _ _ i.gave (subst (λ e. g.D.Desk.gave c.loop-k.desk (Err e ∷ []) c.hand.new.self) (let at : c.in-Err-BookFull.field-0 ≡ refusal.BookFull = search rules in at) c.in-Err-BookFull.ensures.gave))

pub returns-in-Err-Memory-clause-why : goal.returns-in-Err-Memory-clause-why
returns-in-Err-Memory-clause-why g c =
    let i = c.loop-k.invariant in
    let P = g.G.Gate.may_pass c.args.gate.now in
    let Q = g.G.Gate.may_go_on c.args.gate.now in
    let es = c.loop-k.entries.items in
    (es, are-let_on g.D.Desk.seat_in g.D.Desk.event_in P Q c.seat-seat.result (g.D.Desk.seat_of c.args.desk.now) c.args.script.now c.as_slice-events.result.now c.loop-k.k es i.opened c.as_slice-events.ensures i.seats i.made i.many i.let_on, inr (g.met.D.Desk.onward _ _ _ _ _ i.gave (subst (λ e. g.D.Desk.gave c.loop-k.desk (Err e ∷ []) c.hand.new.self) (let at : c.in-Err-Memory.field-0 ≡ refusal.Memory = search rules in at) c.in-Err-Memory.ensures.gave)))

pub returns-then-not-after-clause-why : goal.returns-then-not-after-clause-why
returns-then-not-after-clause-why g c =
    let i = c.loop-k.invariant in
    let P = g.G.Gate.may_pass c.args.gate.now in
    let Q = g.G.Gate.may_go_on c.args.gate.now in
    let es = c.loop-k.entries.items in
    (es, are-let_on g.D.Desk.seat_in g.D.Desk.event_in P Q c.seat-seat.result (g.D.Desk.seat_of c.args.desk.now) c.args.script.now c.as_slice-events.result.now c.loop-k.k es i.opened c.as_slice-events.ensures i.seats i.made i.many i.let_on, inr (c.in-Ok-hand.entry, gave-push g.D.Desk.gave g.met.D.Desk.onward c.args.desk.now c.loop-k.desk c.hand.new.self es (es ++ c.in-Ok-hand.entry ∷ []) c.in-Ok-hand.entry refl i.gave c.in-Ok-hand.ensures.gave), stop-at (g.G.Gate.may_stop c.args.gate.now) c.seat-seat.result (g.D.Desk.seat_of c.args.desk.now) c.loop-k.k es i.opened i.many (c.if-not-after.ensures.stops refl))

pub returns-then-is_err-2-clause-why : goal.returns-then-is_err-2-clause-why
returns-then-is_err-2-clause-why g c =
    let i = c.loop-k.invariant in
    let P = g.G.Gate.may_pass c.args.gate.now in
    let Q = g.G.Gate.may_go_on c.args.gate.now in
    let es = c.loop-k.entries.items in
    let e = c.in-Ok-hand.entry in
    let reported = c.in-Ok-hand.ensures in
    let grown = es ++ e ∷ [] in
    let seats = seats-push g.D.Desk.seat_in c.seat-seat.result es grown e refl i.seats (reported.seat ∙ i.same_seat) in
    let made = made-push g.D.Desk.event_in c.as_slice-events.result.now c.loop-k.k es grown e c.index-events-k.result refl i.made (reported.event ∙ c.in-Ok.ensures) c.index-events-k.is c.loop-k-test.true in
    let let_on = let_on-push (P c.seat-seat.result) (Q c.seat-seat.result) 1 (c.loop-k.k + 1) es e i.let_on (let m = i.many in omega (arith, m)) (c.if-not-before.ensures.passes refl) (c.if-not-after.ensures.goes_on refl) in (
      grown,
      are-let_on g.D.Desk.seat_in g.D.Desk.event_in P Q c.seat-seat.result (g.D.Desk.seat_of c.args.desk.now) c.args.script.now c.as_slice-events.result.now (c.loop-k.k + 1) grown i.opened c.as_slice-events.ensures seats made (grown-many c.loop-k.k es grown e refl i.many) let_on,
      inl (gave-push g.D.Desk.gave g.met.D.Desk.onward c.args.desk.now c.loop-k.desk c.hand.new.self es (es ++ c.in-Ok-hand.entry ∷ []) c.in-Ok-hand.entry refl i.gave c.in-Ok-hand.ensures.gave),
    )

pub returns-clause-let_on : goal.returns-clause-let_on
returns-clause-let_on g c =
    let i = c.loop-k.invariant in
    let P = g.G.Gate.may_pass c.args.gate.now in
    let Q = g.G.Gate.may_go_on c.args.gate.now in
    let es = c.loop-k.entries.items in
    subst (λ l. LetOn (P (g.D.Desk.seat_of c.args.desk.now)) (Q (g.D.Desk.seat_of c.args.desk.now)) 1 l) (sym c.of-entries.ensures) (subst (λ n. LetOn (P n) (Q n) 1 es) (sym i.opened) i.let_on)

pub returns-clause-gave : goal.returns-clause-gave
returns-clause-gave g c =
    let i = c.loop-k.invariant in
    let P = g.G.Gate.may_pass c.args.gate.now in
    let Q = g.G.Gate.may_go_on c.args.gate.now in
    let es = c.loop-k.entries.items in
    subst (λ (l : List (Entry g.row.A.Denot)). g.D.Desk.gave c.args.desk.now (map Ok l) c.loop-k.desk) (sym c.of-entries.ensures) i.gave
