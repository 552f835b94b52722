-- What the crate's functions promise.
use Rattle.std.specs.Prelude.{◌≡◌, ℕ, ⊤, Result, Err}
use Rattle.acta_image.specs.declared.fault.ImageFault.{ImageFault}
use Rattle.acta_image.specs.declared.fault.ImageFault.TheVariants.{Magic, Version, Truncated, BadField, Trailing, Model}
use Rattle.acta_image.specs.declared.fault.LoadError.{LoadError}
use Rattle.acta_image.specs.declared.fault.LoadError.TheVariants as error

-- the number of the fault, as printed
abbrev pub image_fault_number : ImageFault → ℕ
image_fault_number Magic = 1
image_fault_number Version = 2
image_fault_number Truncated = 3
image_fault_number (BadField offset) = 4
image_fault_number (Trailing offset) = 5
image_fault_number (Model fault) = 6

-- the error is the fault of the bytes, or lack of memory, whatever the bytes
abbrev pub IsWhy : {X : Type 0} → Result X ImageFault → LoadError → Type 0
IsWhy read error.Memory = ⊤
IsWhy read (error.Fault fault) = read ≡ Err fault
