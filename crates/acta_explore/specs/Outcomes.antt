-- How programs ended.
use Rattle.std.specs.Prelude.{ℕ, List, [], map, length, fold, slice_get, if◌then◌else◌, Option, Some, None, option_and_then, option_map}
use Rattle.std.specs.List.{filter_map, range_with_len}
use Rattle.std.specs.BTreeSet.{insert_key}
use Rattle.std.specs.Option.{option_map_or}
use Rattle.std.specs.declared.cmp.Ordering.{Ordering}
use Rattle.std.specs.Ordering.{nat_cmp, on, then_cmp}
use Rattle.acta_table.specs.declared.answer.Rule.{Rule}
use Rattle.acta_table.specs.declared.answer.Status.{Status}
use Rattle.acta_table.specs.declared.dep.Edge.{Edge}
use Rattle.acta_table.specs.declared.limits.TheConstants.{LAST_TXN}
use Rattle.acta_table.specs.declared.dep.Dep.{Dep}
use Rattle.acta_table.specs.declared.dep.Dep.TheVariants.{Scd, Cmd}
use Rattle.acta_table.specs.declared.dep.Missing.{Missing}
use Rattle.acta_table.specs.declared.dep.Missing.TheVariants.{Commit, Abort}
use Rattle.acta_table.specs.Dependencies.{code_of}
use Rattle.acta_table.specs.Numbered.{ascending}
use Rattle.acta_deps.specs.Debts.{debt_of}
use Rattle.acta_deps.specs.Statuses.{has_begun}
use Rattle.acta_objects.specs.declared.state.ObjectState.{ObjectState}
use Rattle.acta_machine.specs.Table.{State, status_in, value_in, edges_in, refusal_in}
use Rattle.acta_explore.specs.declared.debt.Debt.{Debt}
use Rattle.acta_explore.specs.declared.point.Done.{Done}
use Rattle.acta_explore.specs.declared.outcome.TxnStatus.{TxnStatus}
use Rattle.acta_explore.specs.Programs.{Programs, lines_done, next_line, event_at}
use Rattle.acta_explore.specs.Points.{Point}

-- a seat that is not done: the position of the line at which it waits, and the lowest rule that each alternative breaks
pub record Waiting : Type 0 where
  pub seat : ℕ
  pub line : ℕ
  pub rules : List Rule

-- the lowest rule that an alternative of the line at position l breaks
abbrev pub rule_at : {A : Type 0} → Programs A → Point A → ℕ → ℕ → Option Rule
rule_at programs p l alternative =
    option_and_then (λ e. option_map (λ r. r.rule) (refusal_in p.state e)) (event_at programs p.steps l alternative)

-- how many alternatives the line at position l has
abbrev pub alternatives_at : {A : Type 0} → Programs A → ℕ → ℕ
alternatives_at programs l = option_map_or (λ line. length line.alternatives) (slice_get programs l) 0

-- the lowest rule that each alternative of the line breaks
abbrev pub rules_at : {A : Type 0} → Programs A → Point A → ℕ → List Rule
rules_at programs p l = filter_map (rule_at programs p l) (range_with_len 0 (alternatives_at programs l))

-- the seat waits at the line at position l
abbrev pub waits_on : {A : Type 0} → Programs A → Point A → ℕ → ℕ → Waiting
waits_on programs p seat l = record { seat = seat; line = l; rules = rules_at programs p l }

-- the line at which the seat waits, if it is not done
abbrev pub waiting_at : {A : Type 0} → Programs A → Point A → ℕ → Option Waiting
waiting_at programs p seat = option_map (waits_on programs p seat) (next_line programs p.steps seat)

-- the seats that have programs, ascending
abbrev pub seats_of : {A : Type 0} → Programs A → List ℕ
seats_of programs = ascending (map (λ line. line.seat) programs)

-- the status of the transaction, if it has begun
abbrev pub begun_status : (ℕ → Status) → ℕ → Option TxnStatus
begun_status status t =
    if has_begun (status t) then Some (record { txn = record { 0 = t }; status = status t }) else None

-- the order of debts: by the kind's code, then by the owing transaction, then by the other transaction
abbrev pub debt_cmp : Debt → Debt → Ordering
debt_cmp = then_cmp (on (λ d. code_of d.kind) nat_cmp) (then_cmp (on (λ d. d.txn.0) nat_cmp) (on (λ d. d.on.0) nat_cmp))

-- the event that a debt by an edge of this kind demands
abbrev pub missing_by : Dep → Missing
missing_by Scd = Commit
missing_by Cmd = Commit
missing_by _ = Abort

-- the debt of an edge
abbrev pub debt_by : (ℕ → Status) → Edge → Option Debt
debt_by status e = option_map (λ missing. record { kind = e.kind; txn = e.j; on = e.i }) (debt_of status e)

-- the debts, in that order, each once
abbrev pub debts_of : {A : Type 0} → State A → List Debt
debts_of state = fold (insert_key debt_cmp) [] (filter_map (debt_by (status_in state)) (edges_in state))

-- lines: what each line did; waiting: the seats that are not done; statuses: the transactions that have begun, by number;
-- values: those of the objects, in the order of the model; debts: in their order
pub record Outcome (A : Type 0) : Type 0 where
  pub lines : List (Option Done)
  pub waiting : List Waiting
  pub statuses : List TxnStatus
  pub values : List (Option (ObjectState A))
  pub debts : List Debt

-- the outcome at a point; two runs end the same way if their outcomes are equal
unfoldable pub outcome : {A : Type 0} → Programs A → Point A → Outcome A
outcome programs p = record {
  lines = lines_done programs p.steps;
  waiting = filter_map (waiting_at programs p) (seats_of programs);
  statuses = filter_map (begun_status (status_in p.state)) (range_with_len 1 LAST_TXN);
  values = map (value_in p.state) (range_with_len 0 (length p.state.model.objects));
  debts = debts_of p.state;
}
