use Rattle.std.proofs.Common.{◌≡◌, ◌∷◌, [], ℕ, Bool, List, false, true, rules, subst, sym}
use Rattle.std.specs.Prelude.{if◌then◌else◌}
use Rattle.acta_words.specs.Text.{is_line_feed}
use Rattle.acta_session.specs.Dialogues.{Cut, IsShownFor, cut, with_line}
use Rattle.acta_session.specs.inside.Talks.{HasTalked, at_front}
use Rattle.acta_session.proofs.Turns.{cut-here, moment, talked-line}
use Rattle.acta_session.proofs.dialogue.take_byte.Goals as goal

pub returns-clause-talked : goal.returns-clause-talked
returns-clause-talked g c = λ rest.
    let shows = IsShownFor g.W.Words.says g.W.Words.says_ends c.args.prompt.now in
    let since = g.C.Console.since c.args.console.now in
    let d = c.answer.new.console in
    let s = c.args.shell.now in
    let t = c.answer.new.shell in
    let over = c.in_ok-is_over.is_over in
    let line = c.args.front.now.items in
    let shown = c.in_ok-is_over.ensures.shown in
    let is : is_line_feed c.args.byte ≡ true = search rules in
    let talk =
    talked-line shows g.C.Console.since g.met.C.Console.further c.args.console.now d s t c.as_slice.result.now shown.0 (cut [] rest).front (cut [] rest).lines
    false over shown.1 shown.2 c.in_ok-is_over.ensures.session c.in_ok-is_over.ensures.over in
    let first =
    subst (λ (l : List ℕ). HasTalked shows since d (moment s (l ∷ (cut [] rest).lines) (cut [] rest).front false) t (if over then [] else (cut [] rest).lines) (cut [] rest).front over)
    c.as_slice.ensures.value talk in
    let whole =
    subst (λ (k : Cut). HasTalked shows since d (at_front s k) t (if over then [] else (cut [] rest).lines) k.front over)
    (cut-here line c.args.byte rest is) first in
    subst (λ (xs : List ℕ). HasTalked shows since d (at_front s (cut line (c.args.byte ∷ rest))) t (if over then [] else (cut xs rest).lines) (cut line (c.args.byte ∷ rest)).front over)
    (sym c.clear.ensures.items) whole
