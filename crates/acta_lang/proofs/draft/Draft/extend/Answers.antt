use Rattle.std.proofs.Common.{Some, map, sym, ap, ◌∙◌}
use Rattle.acta_lang.specs.Drafts.{opened, extended}
use Rattle.acta_lang.specs.inside.Abstraction.{abstraction}
use Rattle.acta_lang.proofs.draft.Draft.extend.Goals as goal

pub returns-in-Class-clause-abstraction : goal.returns-in-Class-clause-abstraction
unfolding extended
returns-in-Class-clause-abstraction g c =
    let d = abstraction c.args.self.now in
    let words = map (λ word. word.now) c.args.words.now in
    ap (λ class. record d { current = Some class }) (c.nothing.ensures c.name_in-in-Class.result.now ∙ ap opened c.name_in-in-Class.ensures)
    ∙ ap (extended d words) (sym c.in-Class.is)
