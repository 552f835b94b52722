use Rattle.std.proofs.Common.{rules}
use Rattle.std.proofs.lemmas.Fn.{always_returns_same}
use Rattle.acta_table.specs.declared.dep.Edge.{Edge}
use Rattle.acta_table.specs.Dependencies.{code_of}
use Rattle.acta_explore.proofs.key.edges_of.Goals as goal

pub returns-clause-ascending : goal.returns-clause-ascending
returns-clause-ascending g c =
    c.in_ok-sort_by_key.ensures.sorted (λ (e : Edge). (code_of e.kind, e.j.0, e.i.0)) (always_returns_same _ _ _ (λ call answer after called. search rules))
