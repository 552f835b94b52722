-- The output for an input or a model that is refused.
use Rattle.std.specs.Prelude.{ℕ, Bool, true, List, [], ◌∷◌, ◌++◌, codes, decimal}
use Rattle.acta_table.specs.Numbers.{model_fault_number}
use Rattle.acta_words.specs.Text.{line_of, text_of}
use Rattle.acta_lang.specs.declared.fault.AsmFault.{AsmFault}
use Rattle.acta_lang.specs.Meaning.{code_number}
use Rattle.acta_image.specs.declared.fault.ImageFault.{ImageFault}
use Rattle.acta_image.specs.declared.fault.ImageFault.TheVariants.{Magic, Version, Truncated, BadField, Trailing, Model}
use Rattle.acta_image.specs.Claims.{image_fault_number}
use Rattle.acta_script.specs.Reading.{fault_number}
use Rattle.acta_io.specs.declared.input.BadLine.{BadLine}
use Rattle.acta_io.specs.declared.models.NoModel.{NoModel}
use Rattle.acta_io.specs.declared.models.NoModel.TheVariants.{Text, Image}

-- line L fault C
abbrev pub stop_line : BadLine → List ℕ
stop_line b = line_of (codes "line" ∷ decimal b.line ∷ codes "fault" ∷ decimal (fault_number b.fault) ∷ [])

-- model line L fault C
abbrev pub model_line : AsmFault → List ℕ
model_line f =
    line_of (codes "model" ∷ codes "line" ∷ decimal f.line ∷ codes "fault" ∷ decimal (code_number f.code) ∷ [])

-- image fault C, with the offset of a field, or the fault of a model
abbrev pub fault_number_words : ℕ → List (List ℕ)
fault_number_words number = codes "image" ∷ codes "fault" ∷ decimal number ∷ []

abbrev pub fault_words : ImageFault → List (List ℕ)
fault_words Magic = []
fault_words Version = []
fault_words Truncated = []
fault_words (BadField offset) = codes "at" ∷ decimal offset ∷ []
fault_words (Trailing offset) = codes "at" ∷ decimal offset ∷ []
fault_words (Model fault) = codes "model" ∷ decimal (model_fault_number fault) ∷ []

abbrev pub image_line : ImageFault → List ℕ
image_line f = line_of (fault_number_words (image_fault_number f) ++ fault_words f)

-- the line for bytes that are not a model
abbrev pub no_model_line : NoModel → List ℕ
no_model_line (Text fault) = model_line fault
no_model_line (Image fault) = image_line fault

-- the output, and whether the input was refused
pub record Output : Type 0 where
  pub is_refused : Bool
  pub text : List ℕ

-- a refusal with this line alone
abbrev pub refused_by : List ℕ → Output
refused_by line = record { is_refused = true; text = text_of (line ∷ []) }

-- the output for bytes that are not a model
abbrev pub refused_model : NoModel → Output
refused_model fault = record { is_refused = true; text = text_of (no_model_line fault ∷ []) }
