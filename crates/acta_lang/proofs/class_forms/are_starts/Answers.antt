use Rattle.std.proofs.Common.{List, ℕ, rules, sym, ◌∙◌, Bor}
use borrow.Author.Tests.{tests}
use Rattle.std.proofs.lemmas.Iterator.{YieldsList-from_slice}
use Rattle.std.proofs.lemmas.Iterator.Search.{all_from_yields_List}
use Rattle.std.proofs.lemmas.List.Folds.{list_all-map}
use Rattle.acta_words.specs.Text.{is_word_among}
use Rattle.acta_lang.specs.Words.{start_words}
use Rattle.acta_lang.proofs.class_forms.are_starts.Goals as goal

pub returns : goal.returns
returns c =
    all_from_yields_List (λ (word : Bor (List ℕ)). is_word_among start_words word.now) _ _ _ c.all.ensures.ran (YieldsList-from_slice c.args.words.now cc) (λ x b q k. search (rules, tests))
    ∙ sym (list_all-map (is_word_among start_words) (λ (w : Bor (List ℕ)). w.now) c.args.words.now)
