-- The transactions whose operations on an object are exempt from conflicts.
use Rattle.std.specs.Prelude.{ℕ, ◌≡◌, Bool, ◌||◌, ◌==◌, List, map}
use Rattle.std.specs.List.{list_any}
use Rattle.acta_table.specs.declared.model.Parts.{Parts}
use Rattle.acta_table.specs.Numbered.{ascending}
use Rattle.acta_machine.specs.Summary.{Summary}
use Rattle.acta_machine.specs.Families.{exempt}

-- whether u's operations on the object are exempt from conflicts with t: u is an ancestor that t's class exempts, or
-- gave a permit
abbrev pub is_exempt : {A : Type 0} → Parts A → Summary → ℕ → ℕ → ℕ → Bool
is_exempt m s t object u = list_any (λ a. a.0 == u) (exempt m s t) || s.permits u t object

-- the ancestors that t's class exempts, by number, ascending, each once
abbrev pub exempt_numbers : {A : Type 0} → Parts A → Summary → ℕ → List ℕ
exempt_numbers m s t = ascending (map (λ u. u.0) (exempt m s t))

-- these are the transactions whose operations on the object are exempt from conflicts with t
abbrev pub AreExempt : {A : Type 0} → Parts A → Summary → ℕ → ℕ → List ℕ → Type 0
AreExempt m s t object us = (u : ℕ) → list_any (λ k. k == u) us ≡ is_exempt m s t object u
