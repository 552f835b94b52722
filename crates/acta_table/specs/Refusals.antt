-- Broken rules, with the smallest number that each names.
use Rattle.std.specs.Prelude.{ℕ, Bool, List, Option, Some, None, fold, if◌then◌else◌}
use Rattle.std.specs.Option.{option_or}
use Rattle.acta_table.specs.declared.answer.Rule.{Rule}
use Rattle.acta_table.specs.declared.answer.Refusal.{Refusal}

-- the rule is broken if the test is true, and names no number
abbrev pub broken_if : Bool → Rule → Option Refusal
broken_if test rule = if test then Some (record { rule = rule; by = None }) else None

-- the rule is broken if there is a number, and names it
abbrev pub broken_by : Rule → Option ℕ → Option Refusal
broken_by rule None = None
broken_by rule (Some n) = Some (record { rule = rule; by = Some n })

-- the first of these rules that is broken
abbrev pub first_of : List (Option Refusal) → Option Refusal
first_of refusals = fold option_or None refusals
