-- An operation that a rule names exists.
use Rattle.std.proofs.Common.{◌≡◌, ℕ, not, false, List, Some, None, sym, ap, ◌∙◌}
use Rattle.std.specs.Option.{option_map_or}
use Rattle.std.proofs.lemmas.Bool.{true≢false}
use Rattle.acta_table.specs.declared.event.OpNo.{OpNo}
use Rattle.acta_table.specs.Sets.{numbers_of, is_named}
use Rattle.acta_table.proofs.FirstNumbers.{smallest-passes, found-there}
use Rattle.acta_sets.specs.Operations.{operation_at, is_held}
use Rattle.acta_machine.specs.Rules.{is_of_another, not_held, left_out}
use Rattle.acta_machine.specs.Summary.{Summary}

pub not_held-there : (s : Summary) (ops : List OpNo) (t n : ℕ) → not_held s ops t ≡ Some n → operation_at s.operations n ≡ None → ⊥
not_held-there s ops t n is none =
    true≢false
    (sym (smallest-passes (is_of_another s t) (numbers_of ops) n is) ∙ ap (λ o. option_map_or (λ i. not (is_held t i)) o false) none)

pub left_out-there : (s : Summary) (ops : List OpNo) (t n : ℕ) → left_out s ops t ≡ Some n → operation_at s.operations n ≡ None → ⊥
left_out-there s ops t n is none = found-there (λ k. not (is_named ops k)) (is_held t) s.operations n is none
