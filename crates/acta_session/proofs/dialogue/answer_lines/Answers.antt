use Rattle.std.proofs.Common.{◌+◌, ◌∙◌, [], Bool, ap, drop, sym, subst}
use Rattle.std.specs.Prelude.{if◌then◌else◌}
use Rattle.std.proofs.lemmas.List.{drop_more}
use Rattle.acta_session.specs.Dialogues.{IsShownFor, cut}
use Rattle.acta_session.specs.inside.Talks.{HasTalked, at_front}
use Rattle.acta_session.proofs.Turns.{stretch}
use Rattle.acta_session.proofs.dialogue.answer_lines.Goals as goal

pub returns-then-is_over-clause-talked : goal.returns-then-is_over-clause-talked
returns-then-is_over-clause-talked g c =
    let shows = IsShownFor g.W.Words.says g.W.Words.says_ends c.args.prompt.now in
    let bytes = c.args.bytes.now in
    let i = c.loop-byte.byte-index in
    let rest = drop (i + 1) bytes in
    let last = (cut c.args.front.now.items bytes).front in
    let old = at_front (c.args.shell.now) (cut c.args.front.now.items bytes) in
    let new = c.take_byte.new.shell in
    let lines = (cut c.take_byte.new.front.items rest).lines in
    subst (λ (over : Bool). HasTalked shows (g.C.Console.since c.args.console.now) c.take_byte.new.console old new (if over then [] else lines) last over)
    c.if-is_over.true
    (stretch shows g.C.Console.since g.met.C.Console.further c.args.console.now c.loop-byte.console c.take_byte.new.console old
    (c.loop-byte.shell) new c.loop-byte.front.items last (drop i bytes) rest _ _ _
    c.loop-byte.invariant.talk c.loop-byte.invariant.front (drop_more bytes i 0 c.loop-byte-test.true) (c.in_ok-is_over.ensures.talked rest))

pub loop-byte-preserved : goal.loop-byte-preserved
loop-byte-preserved g c =
    let shows = IsShownFor g.W.Words.says g.W.Words.says_ends c.args.prompt.now in
    let bytes = c.args.bytes.now in
    let i = c.loop-byte.byte-index in
    let rest = drop (i + 1) bytes in
    let last = (cut c.args.front.now.items bytes).front in
    let old = at_front (c.args.shell.now) (cut c.args.front.now.items bytes) in
    let new = c.take_byte.new.shell in
    let lines = (cut c.take_byte.new.front.items rest).lines in
    let split = drop_more bytes i 0 c.loop-byte-test.true in
    record {
      talk =
          subst (λ (over : Bool). HasTalked shows (g.C.Console.since c.args.console.now) c.take_byte.new.console old new (if over then [] else lines) last over)
          c.if-is_over.false
          (stretch shows g.C.Console.since g.met.C.Console.further c.args.console.now c.loop-byte.console c.take_byte.new.console old
          (c.loop-byte.shell) new c.loop-byte.front.items last (drop i bytes) rest _ _ _
          c.loop-byte.invariant.talk c.loop-byte.invariant.front split (c.in_ok-is_over.ensures.talked rest));
      front =
          sym (c.in_ok-is_over.ensures.front c.if-is_over.false rest)
          ∙ ap (λ zs. (cut c.loop-byte.front.items zs).front) (sym split)
          ∙ c.loop-byte.invariant.front;
    }
