use Rattle.std.proofs.Common.{rules}
use borrow.Author.Tests.{tests}
use Rattle.std.proofs.lemmas.Iterator.Consumers.{map_from_collect}
use Rattle.std.proofs.lemmas.Iterator.Splits.{YieldsList-from_slice_split}
use Rattle.acta_script.specs.Reading.{is_bar}
use Rattle.acta_script.proofs.Alternatives.{split-collected}
use Rattle.acta_script.proofs.programs.parts_of.Goals as goal

pub returns : goal.returns
returns g c =
    split-collected is_bar (λ word. word.now) (λ part. part.now) (λ parts. parts.items) c.args.words.now c.collect.result
    (map_from_collect _ c.collect.ensures.ran (YieldsList-from_slice_split _ (λ word. is_bar word.now) _ c.split.ensures.rest c.split.ensures.done c.split.ensures.closure (λ x b q k. search (rules, tests))))
