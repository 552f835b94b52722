use Rattle.std.proofs.Common.{[], ◌∷◌, codes, decimal, rules}
use Rattle.acta_table.specs.Dependencies.{word_of}
use Rattle.acta_script.specs.Answers.{missing_word}
use Rattle.acta_explore.specs.Outcomes.{missing_by}
use Rattle.acta_ends.proofs.Pieces.{next, none, whole}
use Rattle.acta_ends.proofs.states.push_debt.Goals as goal

pub returns : goal.returns
returns g c =
    let debt = c.args.debt.now in
    let kind = word_of debt.kind in
    let j = decimal debt.txn.0 in
    let i = decimal debt.on.0 in
    let missing = missing_word (missing_by debt.kind) in
    let start = c.extend_from_slice.new.self.items in
    let one = c.push_word.new.line.items in
    let two = c.push_natural.new.line.items in
    let three = c.push_natural-2.new.line.items in
    let four = c.push_word-2.new.line.items in
    let first = next start start one [] kind (none start) (search rules) in
    let second = next start one two (kind ∷ []) j first (search rules) in
    let third = next start two three (kind ∷ j ∷ []) i second (search rules) in
    let fourth = next start three four (kind ∷ j ∷ i ∷ []) missing third (search rules) in
    whole c.args.text.now.items start four c.push_line.new.text.items (codes "owed") (kind ∷ j ∷ i ∷ missing ∷ []) (search rules) fourth (search rules)
