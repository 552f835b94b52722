use Rattle.std.proofs.Common.{◌≡◌, ◌∷◌, ◌+◌, ◌<◌, ◌∙◌, ap, sym, drop, get_or, length, map, arith, ℕ, List}
use Rattle.std.proofs.lemmas.List.{drop-map, drop_more}
use Rattle.std.specs.Vec.Iter.{into_iter_items}
use Rattle.acta_io.specs.declared.input.NonBlankLine.{NonBlankLine}
use Rattle.acta_prose.proofs.Noted.{ended, one_more, stopped}
use Rattle.acta_prose.proofs.run_trace.RunTrace.take_up_to.Goals as goal

-- the number of the line at this place, and those of the rest
numbers : (lines : List NonBlankLine) (at : ℕ) (line : NonBlankLine) → at < length lines → line ≡ get_or lines at line
    → drop at (map (λ (one : NonBlankLine). one.line) lines) ≡ line.line ∷ drop (at + 1) (map (λ (one : NonBlankLine). one.line) lines)
numbers lines at line few is =
    let number = λ (one : NonBlankLine). one.line in
    drop-map number at lines
    ∙ ap (map number) (drop_more lines at line few ∙ ap (λ (one : NonBlankLine). one ∷ drop (at + 1) lines) (sym is))
    ∙ ap (λ (others : List ℕ). number line ∷ others) (sym (drop-map number (at + 1) lines))

pub loop-event-preserved : goal.loop-event-preserved
loop-event-preserved g c =
    let line = c.in-Some-get.line.now in
    let found = c.in-Some-get.ensures.lookup.3 in
    let steps = c.in-Some.ensures.steps in
    let long = c.loop-event.invariant.long in
    let shorter = ap length steps.0 in
    let less = steps.1 in
    record {
      run =
          one_more c.args.last c.loop-event.self c.take.new.self _ line.line c.in-Some.event _ _ _ _ (numbers c.args.lines.now c.loop-event.next line found.0 (found.1 line)) steps.0
          (sym c.if-branch.false ∙ c.in_ok-is_past.ensures) c.in_ok-take.ensures c.loop-event.invariant.run;
      long = omega (arith, long, shorter, less);
    }

pub returns-then-branch : goal.returns-then-branch
returns-then-branch g c =
    let line = c.in-Some-get.line.now in
    let found = c.in-Some-get.ensures.lookup.3 in
    stopped c.args.last c.loop-event.self _ line.line c.in-Some.event _ _ _ _ (numbers c.args.lines.now c.loop-event.next line found.0 (found.1 line)) c.in-Some.ensures.steps.0
    (sym c.if-branch.true ∙ c.in_ok-is_past.ensures) c.loop-event.invariant.run

pub returns : goal.returns
returns g c =
    let long = c.loop-event.invariant.long in
    let none = c.in-None.ensures.steps.0 in
    ended c.args.last c.loop-event.self _ _ (into_iter_items c.loop-event.event-iterator) c.loop-event.invariant.run (omega (arith, long, none))
