use Rattle.std.proofs.Common.{false, []}
use Rattle.acta_session.specs.Dialogues.{IsShownFor, at_start}
use Rattle.acta_session.specs.inside.Talks.{HasTalked}
use Rattle.acta_session.proofs.dialogue.converse.Given as goal

-- all lines so far are answered
abbrev pub invariant-loop : goal.invariant-loop
invariant-loop g l =
    HasTalked (IsShownFor g.W.Words.says g.W.Words.says_ends l.prompt) (g.C.Console.since l.initial.console) l.console (at_start (l.initial.shell))
    (l.shell) [] l.front.items false
