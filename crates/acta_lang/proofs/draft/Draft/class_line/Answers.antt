use Rattle.std.proofs.Common.{Some, option_map, sym, ap, ◌∙◌}
use Rattle.std.specs.Option.{option_copied, option_or}
use Rattle.acta_lang.specs.declared.draft.ClosedDraft.{ClosedDraft}
use Rattle.acta_lang.specs.inside.Noted.{current_at, current_line}
use Rattle.acta_lang.proofs.NameLists.{line_found}
use Rattle.acta_lang.proofs.draft.Draft.class_line.Goals as goal

pub returns-in-Some : goal.returns-in-Some
returns-in-Some g c =
    let first =
    ap (λ n. Some n) c.line.ensures
    ∙ ap (λ o. option_map (λ (v : ClosedDraft g.row.A.Denot). v.line) (option_copied o)) (sym c.in-Some.is)
    ∙ ap (option_map (λ (v : ClosedDraft g.row.A.Denot). v.line)) c.found.ensures
    ∙ line_found c.args.name.now (λ (v : ClosedDraft g.row.A.Denot). v.line) c.args.self.now.classes.entries in
    ap (λ o. option_or o (current_line c.args.name.now (option_map current_at c.args.self.now.current))) first

pub returns-in-None : goal.returns-in-None
returns-in-None g c =
    let first =
    ap (λ o. option_map (λ (v : ClosedDraft g.row.A.Denot). v.line) (option_copied o)) (sym c.in-None.is)
    ∙ ap (option_map (λ (v : ClosedDraft g.row.A.Denot). v.line)) c.found.ensures
    ∙ line_found c.args.name.now (λ (v : ClosedDraft g.row.A.Denot). v.line) c.args.self.now.classes.entries in
    c.current_line.ensures
    ∙ ap (λ o. option_or o (current_line c.args.name.now (option_map current_at c.args.self.now.current))) first
