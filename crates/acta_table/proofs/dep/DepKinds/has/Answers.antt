use Rattle.std.proofs.Common.{◌≡◌, ◌==◌, ◌∙◌, ap, ℕ, Some, bit_and, rules}
use Rattle.acta_table.specs.Dependencies.{code_of}
use Rattle.acta_table.proofs.KindSets.{is_in}
use Rattle.acta_table.proofs.dep.DepKinds.has.Goals as goal

pub returns : goal.returns
returns c =
    let contains : c.contains.result ≡ (bit_and c.args.self c.bit_of.result.0 == c.bit_of.result.0) = search rules in
    contains ∙ is_in c.args.self c.bit_of.result.0 (Some (code_of c.args.kind)) (ap (λ (n : ℕ). Some n) c.bit_of.ensures)
