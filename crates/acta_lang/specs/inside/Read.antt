-- Why reading gave no model.
use Rattle.std.specs.Prelude.{◌≡◌, ℕ, List, Err, ⊤}
use Rattle.acta_lang.specs.declared.diagnostic.ReadError.{ReadError}
use Rattle.acta_lang.specs.declared.diagnostic.ReadError.TheVariants as read
use Rattle.acta_lang.specs.Diagnostics.{IsWhole, diagnostic_in, fault_of, reported}
use Rattle.acta_lang.specs.Meaning.{meaning}

-- the text's fault with its diagnostic, or lack of memory, whatever the text
abbrev pub IsWhyRead : Type 0 → List ℕ → ReadError → Type 0
IsWhyRead A text read.Memory = ⊤
IsWhyRead A text (read.Fault d) = (meaning {A = A} text ≡ Err (fault_of (reported d))) × ((reported d ≡ diagnostic_in A text (fault_of (reported d))) × IsWhole (reported d))
