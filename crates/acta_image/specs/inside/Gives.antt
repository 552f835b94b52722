-- The result of a function that reads fields.
use Rattle.std.specs.Prelude.{◌≡◌, ℕ, ◌<◌, List, length, get_or, take, drop, Bool, true, false, nat_lt, ◌==◌, Result, Ok, Err, if◌then◌else◌, ⊤}
use Rattle.acta_table.specs.declared.policy.Policy.{Policy}
use Rattle.acta_table.specs.declared.policy.Policy.TheVariants.{Refuse, Depend}
use Rattle.acta_image.specs.declared.diagnostic.Field.{Field}
use Rattle.acta_image.specs.declared.diagnostic.ImageDiagnostic.{ImageDiagnostic}
use Rattle.acta_image.specs.declared.diagnostic.ReadError.{ReadError}
use Rattle.acta_image.specs.declared.diagnostic.ReadError.TheVariants as error
use Rattle.acta_image.specs.declared.fault.ImageFault.TheVariants.{Truncated}
use Rattle.acta_image.specs.Reading.{Reader, fault_at}

-- each number is that of a byte
abbrev pub AreBytes : List ℕ → Type 0
AreBytes bytes = (i : ℕ) → get_or bytes i 0 < 256

-- the first n bytes, those of this field, and the bytes after them
abbrev pub part_of : Field → ℕ → ℕ → Reader (List ℕ)
part_of which size n bytes =
    if nat_lt (length bytes) n then Err (fault_at Truncated which size bytes) else Ok (take n bytes, drop n bytes)

-- the policy with this code and these bits
abbrev pub policy_by : ℕ → ℕ → Policy
policy_by code bits = if code == 0 then Refuse else Depend bits

-- the error is the fault with its field, or lack of memory, whatever the bytes
abbrev pub IsWhyRead : {X : Type 0} → Result X ImageDiagnostic → ReadError → Type 0
IsWhyRead read error.Memory = ⊤
IsWhyRead read (error.Fault d) = read ≡ Err d

-- the function returned what the reader gives, unless memory ran out
abbrev pub Gives : {X Y : Type 0} → (X → Y) → Result X ReadError → Result Y ImageDiagnostic → Type 0
Gives view (Ok x) read = read ≡ Ok (view x)
Gives view (Err e) read = IsWhyRead read e

-- whether the error is a fault, not lack of memory
abbrev pub is_fault : ReadError → Bool
is_fault error.Memory = false
is_fault (error.Fault d) = true
