-- Numbers that fit 32 bits by their types.
use Rattle.std.specs.Prelude.{⊤, FitsSigned}
use Rattle.std.specs.Int.{w32}
use Rattle.acta_table.specs.declared.model.Kind.{Kind}
use Rattle.acta_table.specs.declared.model.Kind.TheVariants.{Counter as counter_kind}
use Rattle.acta_table.specs.declared.event.Op.{Op}
use Rattle.acta_table.specs.declared.event.Op.TheVariants.{Add}

-- the amount that is added
abbrev pub AmountFits : Op → Type 0
AmountFits (Add n) = FitsSigned w32 n
AmountFits _ = ⊤

-- the initial value of a counter
abbrev pub FirstFits : Kind → Type 0
FirstFits (counter_kind v) = FitsSigned w32 v
FirstFits _ = ⊤
