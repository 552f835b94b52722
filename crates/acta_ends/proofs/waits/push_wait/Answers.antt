use Rattle.std.proofs.Common.{[], ◌∷◌, codes, decimal, map, rules}
use Rattle.acta_ends.specs.EndLines.{number_word, rule_word}
use Rattle.acta_ends.proofs.Pieces.{joined, next, none, whole}
use Rattle.acta_ends.proofs.waits.push_wait.Goals as goal

pub returns : goal.returns
returns g c =
    let wait = c.args.wait.now in
    let seat = decimal wait.seat in
    let number = number_word c.args.numbers.now wait.line in
    let numbers = map rule_word wait.rules.items in
    let start = c.extend_from_slice.new.self.items in
    let one = c.push_natural.new.line.items in
    let two = c.push_number.new.text.items in
    let three = c.push_rules.new.text.items in
    let first = next start start one [] seat (none start) (search rules) in
    let second = next start one two (seat ∷ []) number first (search rules) in
    let third = joined start two three (seat ∷ number ∷ []) numbers second (search rules) in
    whole c.args.text.now.items start three c.push_line.new.text.items (codes "wait") (seat ∷ number ∷ numbers) (search rules) third (search rules)
