-- Well-formed operations, and the operations that conflict with one, for any set of exempt transactions.
use Rattle.std.specs.Prelude.{ℕ, Bool, false}
use Rattle.std.specs.Option.{option_map_or}
use Rattle.acta_table.specs.declared.event.Op.{Op}
use Rattle.acta_table.specs.declared.model.Parts.{Parts}
use Rattle.acta_table.specs.Classes.{kind_at}
use Rattle.acta_objects.specs.Objects.{suits}

-- whether the object is in the model and its kind has the operation
abbrev pub is_well_formed : {A : Type 0} → Parts A → ℕ → Op → Bool
is_well_formed m object op = option_map_or (λ kind. suits kind op) (kind_at m object) false
