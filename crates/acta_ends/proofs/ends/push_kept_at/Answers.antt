use Rattle.std.proofs.Common.{◌≡◌, ◌++◌, false, sym, ap, ◌∙◌, append-nil}
use Rattle.std.specs.Prelude.{slice_get}
use Rattle.std.specs.Option.{option_map_or}
use Rattle.acta_words.specs.Text.{text_of}
use Rattle.acta_ends.specs.EndLines.{is_kept}
use Rattle.acta_ends.proofs.KeptEnds.{kept-at, lines-kept, lines-left}
use Rattle.acta_ends.proofs.ends.push_kept_at.Goals as goal

pub returns-then-not-is_kept-clause-text : goal.returns-then-not-is_kept-clause-text
returns-then-not-is_kept-clause-text g c =
    let model = c.args.model.now in
    let lines = c.args.lines.now in
    let numbers = c.args.numbers.now in
    let condition = c.args.condition.now in
    let point = slice_get c.args.explored.now.ends c.args.place in
    let fails : option_map_or (is_kept lines condition) point false ≡ false =
    sym (kept-at model lines numbers condition c.args.explored.now.outcomes c.args.explored.now.ends c.args.place c.requires) ∙ sym c.is_kept.ensures ∙ c.if-not-is_kept.true
    in
    sym (ap (λ ls. c.args.text.now.items ++ text_of ls) (lines-left model lines numbers condition c.args.number point fails) ∙ append-nil c.args.text.now.items)

pub returns-clause-kept : goal.returns-clause-kept
returns-clause-kept g c =
    sym c.if-not-is_kept.false
    ∙ c.is_kept.ensures
    ∙ kept-at c.args.model.now c.args.lines.now c.args.numbers.now c.args.condition.now c.args.explored.now.outcomes c.args.explored.now.ends c.args.place c.requires

pub returns-clause-text : goal.returns-clause-text
returns-clause-text g c =
    c.in_ok-push_end_at.ensures
    ∙ ap (λ ls. c.args.text.now.items ++ text_of ls)
    (sym (lines-kept c.args.model.now c.args.lines.now c.args.numbers.now c.args.condition.now c.args.number (slice_get c.args.explored.now.ends c.args.place) (sym (returns-clause-kept g c))))
