-- How many transactions have to be placed before another: definitions for internal contracts.
use Rattle.std.specs.Prelude.{ℕ, Bool, List, take, get_or}
use Rattle.acta_order.specs.declared.orders.Orders.{Orders}
use Rattle.acta_order.specs.declared.orders.Orders.TheVariants.{All, RealTime}
use Rattle.acta_order.specs.Orders.{is_in}

-- the orders allowed; and for each transaction number, how many transactions had committed before its first event, or 65,536
-- if it has no event so far
pub record Counted : Type 0 where
  pub orders : Orders
  pub counts : List ℕ

-- how many transactions have to be placed before t: the first so many to commit
abbrev pub limit_in : Orders → List ℕ → ℕ → ℕ
limit_in All counts t = 0
limit_in RealTime counts t = get_or counts t 65536

abbrev pub limit : Counted → ℕ → ℕ
limit e t = limit_in e.orders e.counts t

-- whether t is one of the first transactions that have to be placed before u
abbrev pub waits : (ℕ → ℕ) → List ℕ → ℕ → ℕ → Bool
waits lim ts t u = is_in (take (lim u) ts) t
