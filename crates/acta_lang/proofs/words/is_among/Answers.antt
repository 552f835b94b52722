use Rattle.std.proofs.Common.{List, ℕ, rules, sym, ◌∙◌, Bor}
use borrow.Author.Tests.{tests}
use Rattle.std.specs.Str.{bytes_eq}
use Rattle.std.proofs.lemmas.Iterator.{YieldsList-from_slice}
use Rattle.std.proofs.lemmas.Iterator.Search.{any_from_yields_List}
use Rattle.acta_lang.proofs.WordLists.{list_any-map}
use Rattle.acta_lang.proofs.words.is_among.Goals as goal

pub returns : goal.returns
returns c =
    any_from_yields_List (λ (other : Bor (List ℕ)). bytes_eq c.args.word.now other.now) _ _ _ c.any.ensures.ran (YieldsList-from_slice c.args.words.now cc) (λ x b q k. search (rules, tests))
    ∙ sym (list_any-map (bytes_eq c.args.word.now) (λ (w : Bor (List ℕ)). w.now) c.args.words.now)
