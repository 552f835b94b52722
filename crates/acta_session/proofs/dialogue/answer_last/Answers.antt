use Rattle.std.proofs.Common.{◌∷◌, [], List, ℕ, true, false, ap, subst, sym}
use Rattle.acta_session.specs.Dialogues.{HasBegun, IsShownFor, ending}
use Rattle.acta_session.specs.Shells.{after_line}
use Rattle.acta_session.specs.inside.Talks.{HasTalked}
use Rattle.acta_session.proofs.Turns.{begun-of, last-some, moment, talked-both, talked-last}
use Rattle.acta_session.proofs.dialogue.answer_last.Goals as goal

pub returns-in-Ok-true-clause-done : goal.returns-in-Ok-true-clause-done
returns-in-Ok-true-clause-done g c = λ done.
    let shows = IsShownFor g.W.Words.says g.W.Words.says_ends c.args.prompt.now in
    let since = g.C.Console.since c.args.console.now in
    let d = c.answer.new.console in
    let s = c.args.shell.now in
    let t = c.answer.new.shell in
    let line = c.args.line.now in
    let rest = ending (after_line s line) in
    let shown = c.in-Ok-true.ensures.shown in
    subst (λ (due : List (List ℕ)). HasTalked shows since d (moment s due [] true) t [] [] true) (sym (last-some s line c.if-is_empty.ensures))
    (talked-last shows g.C.Console.since g.met.C.Console.further c.args.console.now d s t line shown.0 [] rest true c.in-Ok-true.field-0 true
    shown.1 shown.2 c.in-Ok-true.ensures.session c.in-Ok-true.ensures.over c.in-Ok-true.field-0-test)

pub returns-in-Ok-false-clause-done : goal.returns-in-Ok-false-clause-done
returns-in-Ok-false-clause-done g c = λ done.
    let shows = IsShownFor g.W.Words.says g.W.Words.says_ends c.args.prompt.now in
    let since = g.C.Console.since c.args.console.now in
    let d = c.answer.new.console in
    let e = c.answer_end-in-Ok-false.new.console in
    let s = c.args.shell.now in
    let t = c.answer.new.shell in
    let u = c.answer_end-in-Ok-false.new.shell in
    let line = c.args.line.now in
    let rest = ending (after_line s line) in
    let shown = c.in-Ok-false.ensures.shown in
    let one =
    talked-last shows g.C.Console.since g.met.C.Console.further c.args.console.now d s t line shown.0 [] rest true c.in-Ok-false.field-0 false
    shown.1 shown.2 c.in-Ok-false.ensures.session c.in-Ok-false.ensures.over c.in-Ok-false.field-0-test in
    subst (λ (due : List (List ℕ)). HasTalked shows since e (moment s due [] true) u [] [] true) (sym (last-some s line c.if-is_empty.ensures))
    (talked-both shows g.C.Console.since g.met.C.Console.further c.args.console.now d e (moment s (line ∷ rest) [] true) (moment t (ending t) [] true) t u
    rest [] [] [] true true one (ap (λ after. moment t (ending after) [] true) (sym c.in-Ok-false.ensures.session)) (c.answer_end-in-Ok-false.ensures.done done))

-- memory ran out at the end of the input: the last line was answered
pub returns-in-Ok-false-clause-partly : goal.returns-in-Ok-false-clause-partly
returns-in-Ok-false-clause-partly g c = λ short.
    let shows = IsShownFor g.W.Words.says g.W.Words.says_ends c.args.prompt.now in
    let since = g.C.Console.since c.args.console.now in
    let d = c.answer.new.console in
    let e = c.answer_end-in-Ok-false.new.console in
    let s = c.args.shell.now in
    let t = c.answer.new.shell in
    let line = c.args.line.now in
    let rest = ending (after_line s line) in
    let shown = c.in-Ok-false.ensures.shown in
    let one =
    talked-last shows g.C.Console.since g.met.C.Console.further c.args.console.now d s t line shown.0 [] rest true c.in-Ok-false.field-0 false
    shown.1 shown.2 c.in-Ok-false.ensures.session c.in-Ok-false.ensures.over c.in-Ok-false.field-0-test in
    subst (λ (due : List (List ℕ)). HasBegun shows since e (moment s due [] true)) (sym (last-some s line c.if-is_empty.ensures))
    (begun-of shows g.C.Console.since g.met.C.Console.further c.args.console.now d e (moment s (line ∷ rest) [] true) t rest [] true one
    (c.answer_end-in-Ok-false.ensures.silent short))
