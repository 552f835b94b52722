use Rattle.std.specs.Prelude.{Err}
use Rattle.std.proofs.Common.{◌<◌, [], ℕ, Bool, List, true, false, ap, length, refl, rules, sym, subst, take}
use Rattle.acta_session.specs.Dialogues.{IsShownFor, at_start, cut, last_lines}
use Rattle.acta_session.specs.inside.Talks.{HasTalked, at_front}
use Rattle.acta_session.proofs.Turns.{begun-both, dialogue-of, moment, talked-both, talked-end, talked-read}
use Rattle.acta_session.proofs.dialogue.converse.Goals as goal

pub returns-then-n-eq0-clause-done : goal.returns-then-n-eq0-clause-done
returns-then-n-eq0-clause-done g c = λ done.
    let shows = IsShownFor g.W.Words.says g.W.Words.says_ends c.args.prompt.now in
    let start = c.args.shell.now in
    let session = c.loop.shell in
    let new = c.answer_last.new.shell in
    let ended =
    talked-end shows g.C.Console.since g.met.C.Console.further c.args.console.now c.loop.console c.read.new.self (at_start start)
    session c.loop.front.items _ (search rules) c.loop.invariant (c.in-Ok.ensures.read (search rules)) in
    dialogue-of shows (g.C.Console.since c.args.console.now) c.answer_last.new.console start new []
    (talked-both shows g.C.Console.since g.met.C.Console.further c.args.console.now c.read.new.self c.answer_last.new.console (at_start start)
    (moment session (last_lines session c.as_slice.result.now) [] true) session new (last_lines session c.loop.front.items) [] [] [] true true ended
    (ap (λ line. moment session (last_lines session line) [] true) (sym c.as_slice.ensures.value)) (c.answer_last.ensures.done done))

pub returns-in-Ok-true-clause-done : goal.returns-in-Ok-true-clause-done
returns-in-Ok-true-clause-done g c = λ done.
    let shows = IsShownFor g.W.Words.says g.W.Words.says_ends c.args.prompt.now in
    let start = c.args.shell.now in
    let session = c.loop.shell in
    let new = c.answer_lines.new.shell in
    let front = c.loop.front.items in
    let bytes = take c.in-Ok.n c.read.new.buf in
    let some : 0 < length bytes = search rules in
    let read =
    talked-read shows g.C.Console.since g.met.C.Console.further c.args.console.now c.loop.console c.read.new.self (at_start start)
    session front bytes some c.loop.invariant (c.in-Ok.ensures.read (search rules)) in
    let talk =
    subst (λ (over : Bool). HasTalked shows (g.C.Console.since c.read.new.self) c.answer_lines.new.console (at_front session (cut front bytes)) new [] (cut front bytes).front over)
    c.in-Ok-true.field-0-test c.in-Ok-true.ensures.talked in
    dialogue-of shows (g.C.Console.since c.args.console.now) c.answer_lines.new.console start new (cut front bytes).front
    (talked-both shows g.C.Console.since g.met.C.Console.further c.args.console.now c.read.new.self c.answer_lines.new.console (at_start start)
    (at_front session (cut front bytes)) session new (cut front bytes).lines [] (cut front bytes).front (cut front bytes).front false true read refl talk)

pub loop-preserved : goal.loop-preserved
loop-preserved g c =
    let shows = IsShownFor g.W.Words.says g.W.Words.says_ends c.args.prompt.now in
    let start = c.args.shell.now in
    let session = c.loop.shell in
    let new = c.answer_lines.new.shell in
    let front = c.loop.front.items in
    let bytes = take c.in-Ok.n c.read.new.buf in
    let some : 0 < length bytes = search rules in
    let read =
    talked-read shows g.C.Console.since g.met.C.Console.further c.args.console.now c.loop.console c.read.new.self (at_start start)
    session front bytes some c.loop.invariant (c.in-Ok.ensures.read (search rules)) in
    let talk =
    subst (λ (over : Bool). HasTalked shows (g.C.Console.since c.read.new.self) c.answer_lines.new.console (at_front session (cut front bytes)) new [] (cut front bytes).front over)
    c.in-Ok-false.field-0-test c.in-Ok-false.ensures.talked in
    subst (λ (last : List ℕ). HasTalked shows (g.C.Console.since c.args.console.now) c.answer_lines.new.console (at_start start) new [] last false)
    (sym (c.in-Ok-false.ensures.front c.in-Ok-false.field-0-test))
    (talked-both shows g.C.Console.since g.met.C.Console.further c.args.console.now c.read.new.self c.answer_lines.new.console (at_start start)
    (at_front session (cut front bytes)) session new (cut front bytes).lines [] (cut front bytes).front (cut front bytes).front false false read refl talk)

-- memory ran out for a reply after the last read
pub returns-then-n-eq0-clause-partly : goal.returns-then-n-eq0-clause-partly
returns-then-n-eq0-clause-partly g c = λ short.
    let shows = IsShownFor g.W.Words.says g.W.Words.says_ends c.args.prompt.now in
    let start = c.args.shell.now in
    let session = c.loop.shell in
    let ended =
    talked-end shows g.C.Console.since g.met.C.Console.further c.args.console.now c.loop.console c.read.new.self (at_start start)
    session c.loop.front.items _ (search rules) c.loop.invariant (c.in-Ok.ensures.read (search rules)) in
    begun-both shows g.C.Console.since g.met.C.Console.further c.args.console.now c.read.new.self c.answer_last.new.console (at_start start)
    (moment session (last_lines session c.as_slice.result.now) [] true) session (last_lines session c.loop.front.items) [] true ended
    (ap (λ line. moment session (last_lines session line) [] true) (sym c.as_slice.ensures.value)) (c.answer_last.ensures.partly short)

-- memory ran out for a reply to one of the lines that were read
pub returns-in-Err-answer_lines-clause-partly : goal.returns-in-Err-answer_lines-clause-partly
returns-in-Err-answer_lines-clause-partly g c = λ short.
    let shows = IsShownFor g.W.Words.says g.W.Words.says_ends c.args.prompt.now in
    let start = c.args.shell.now in
    let session = c.loop.shell in
    let front = c.loop.front.items in
    let bytes = take c.in-Ok.n c.read.new.buf in
    let some : 0 < length bytes = search rules in
    let read =
    talked-read shows g.C.Console.since g.met.C.Console.further c.args.console.now c.loop.console c.read.new.self (at_start start)
    session front bytes some c.loop.invariant (c.in-Ok.ensures.read (search rules)) in
    begun-both shows g.C.Console.since g.met.C.Console.further c.args.console.now c.read.new.self c.answer_lines.new.console (at_start start)
    (at_front session (cut front bytes)) session (cut front bytes).lines (cut front bytes).front false read refl
    (c.in-Err-answer_lines.ensures.partly (ap Err short))
