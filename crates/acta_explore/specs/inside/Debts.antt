-- Equal debts.
use Rattle.std.specs.Prelude.{◌≡◌, Bool, nat_eq}
use Rattle.std.specs.Cmp.{both_tied, unsigned_ties}
use Rattle.std.specs.Ordering.{on, eq_of_both, eq_by_cmp}
use Rattle.acta_table.specs.Dependencies.{code_of}
use Rattle.acta_explore.specs.declared.debt.Debt.{Debt}
use Rattle.acta_explore.specs.Outcomes.{debt_cmp}

abbrev pub debt_eq : Debt → Debt → Bool
debt_eq = eq_of_both (on (λ d. code_of d.kind) nat_eq) (eq_of_both (on (λ d. d.txn.0) nat_eq) (on (λ d. d.on.0) nat_eq))

pub debt_ties : (d e : Debt) → debt_eq d e ≡ eq_by_cmp debt_cmp d e
debt_ties d e =
    both_tied _ _ _ _ (unsigned_ties (code_of d.kind) (code_of e.kind))
    (both_tied _ _ _ _ (unsigned_ties d.txn.0 e.txn.0) (unsigned_ties d.on.0 e.on.0))
