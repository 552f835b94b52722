-- Why a condition is not read.
use Rattle.std.specs.Prelude.{◌≡◌, ⊤, Bool, true, false}
use Rattle.acta_ends.specs.declared.fault.ConditionError.{ConditionError}
use Rattle.acta_ends.specs.declared.fault.ConditionError.TheVariants.{Memory}

-- the possible errors, by whether a condition is given: without one only lack of memory
abbrev pub MayFail : Bool → ConditionError → Type 0
MayFail false e = e ≡ Memory
MayFail true e = ⊤
