use Rattle.std.proofs.Common.{Some, option_map, sym, ap, ◌∙◌}
use Rattle.std.specs.Option.{option_copied}
use Rattle.acta_lang.specs.declared.draft.ObjectDraft.{ObjectDraft}
use Rattle.acta_lang.proofs.NameLists.{line_found}
use Rattle.acta_lang.proofs.draft.Draft.object_line.Goals as goal

pub returns-in-Some : goal.returns-in-Some
returns-in-Some g c =
    ap (λ n. Some n) c.line.ensures
    ∙ ap (λ o. option_map (λ (v : ObjectDraft). v.line) (option_copied o)) (sym c.in-Some.is)
    ∙ ap (option_map (λ (v : ObjectDraft). v.line)) c.found.ensures
    ∙ line_found c.args.name.now (λ (v : ObjectDraft). v.line) c.args.self.now.objects.entries

pub returns-in-None : goal.returns-in-None
returns-in-None g c =
    ap (λ o. option_map (λ (v : ObjectDraft). v.line) (option_copied o)) (sym c.in-None.is)
    ∙ ap (option_map (λ (v : ObjectDraft). v.line)) c.found.ensures
    ∙ line_found c.args.name.now (λ (v : ObjectDraft). v.line) c.args.self.now.objects.entries
