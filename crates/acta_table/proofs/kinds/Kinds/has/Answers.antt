use Rattle.std.proofs.Common.{◌≡◌, ◌==◌, ◌∙◌, bit_and, rules}
use Rattle.acta_table.specs.Kinds.{kind_code}
use Rattle.acta_table.proofs.KindSets.{is_in}
use Rattle.acta_table.proofs.kinds.Kinds.has.Goals as goal

pub returns-in-Some : goal.returns-in-Some
returns-in-Some c =
    let contains : c.contains.result ≡ (bit_and c.args.self c.in-Some.bit.0 == c.in-Some.bit.0) = search rules in
    contains ∙ is_in c.args.self c.in-Some.bit.0 (kind_code c.args.kind) c.in-Some.ensures
