use Rattle.std.proofs.Common.{rules, filter, ap, ◌∙◌}
use Rattle.std.proofs.lemmas.Fn.{always_returns_same}
use Rattle.acta_machine.specs.Table.{State, operations_in}
use Rattle.acta_explore.specs.Equivalence.{by_line, is_on}
use Rattle.acta_explore.specs.Programs.{operated_lines}
use Rattle.acta_explore.proofs.Keying.{stable-by-object}
use Rattle.acta_explore.proofs.key.operations_of.Goals as goal

pub returns-clause-by_object : goal.returns-clause-by_object
returns-clause-by_object g c =
    let same = always_returns_same _ _ _ (λ call answer after called. search rules) in
    let items = c.operations.ensures.operations ∙ ap (λ (s : State _). operations_in s) c.machine.ensures in
    let listed = c.in_ok-ops.ensures ∙ (λ i. by_line (operated_lines (c.steps.ensures i)) (items i)) in
    λ ob. stable-by-object c.in_ok-ops.ops.items c.sort_by_key.new.self.items (c.sort_by_key.ensures.stable (λ o. o.held.ob.0) same) ob
    ∙ ap (filter (is_on ob)) listed

pub returns-clause-ascending : goal.returns-clause-ascending
returns-clause-ascending g c =
    c.in_ok-sort_by_key.ensures.sorted (λ o. o.held.ob.0) (always_returns_same _ _ _ (λ call answer after called. search rules))
