use Rattle.std.proofs.Common.{◌≡◌, false, drop}
use Rattle.acta_session.specs.Dialogues.{IsShownFor, cut}
use Rattle.acta_session.specs.inside.Talks.{HasTalked, at_front}
use Rattle.acta_session.proofs.dialogue.answer_lines.Given as goal

-- the lines that the bytes so far complete are answered, and those of the rest are due
abbrev pub invariant-loop-byte : goal.invariant-loop-byte
invariant-loop-byte g l = record {
  talk : HasTalked (IsShownFor g.W.Words.says g.W.Words.says_ends l.prompt) (g.C.Console.since l.initial.console) l.console
      (at_front (l.initial.shell) (cut l.initial.front.items l.bytes))
      (l.shell) (cut l.front.items (drop l.byte-index l.bytes)).lines (cut l.initial.front.items l.bytes).front false;
  front : (cut l.front.items (drop l.byte-index l.bytes)).front ≡ (cut l.initial.front.items l.bytes).front;
}
