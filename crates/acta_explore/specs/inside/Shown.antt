-- The abstract values of the structs of an outcome.
use Rattle.std.specs.Prelude.{List, map, Option, option_map}
use Rattle.acta_table.specs.declared.dep.Edge.{Edge}
use Rattle.acta_table.specs.declared.dep.Owed.{Owed}
use Rattle.acta_table.specs.Numbered.{item_at}
use Rattle.acta_objects.specs.declared.state.ObjectState.{ObjectState}
use Rattle.acta_objects.specs.declared.state.ObjectState.TheVariants as state
use Rattle.acta_explore.specs.declared.debt.Debt.{Debt}
use Rattle.acta_explore.specs.declared.outcome.Outcome.{Outcome as outcome_struct}
use Rattle.acta_explore.specs.declared.outcome.Value.{Value}
use Rattle.acta_explore.specs.declared.outcome.Value.TheVariants.{Register, Counter, Elements}
use Rattle.acta_explore.specs.declared.outcome.Wait.{Wait}
use Rattle.acta_explore.specs.Outcomes.{Outcome, Waiting}

abbrev pub shown_value : {A : Type 0} → Value A → ObjectState A
shown_value (Register v) = state.Register v
shown_value (Counter v) = state.Counter v
shown_value (Elements es) = state.Elements es.items

abbrev pub shown_wait : {A : Type 0} → Wait A → Waiting
shown_wait w = record { seat = w.seat; line = w.line; rules = w.rules.items }

abbrev pub shown : {A : Type 0} → outcome_struct A → Outcome A
shown o = record {
  lines = o.lines.items;
  waiting = map shown_wait o.waits.items;
  statuses = o.statuses.items;
  values = map (option_map shown_value) o.values.items;
  debts = o.debts.items;
}

-- the debt of the edge with this number in the list
abbrev pub debt_among : List Edge → Owed → Option Debt
debt_among edges owed =
    option_map (λ e. record { kind = e.kind; txn = e.j; on = e.i }) (item_at edges owed.edge.0)
