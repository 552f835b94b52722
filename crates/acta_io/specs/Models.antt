-- The model that bytes encode.
use Rattle.std.specs.Prelude.{ℕ, Bool, List, take, Result, Ok, Err, if◌then◌else◌}
use Rattle.std.specs.Str.{bytes_eq}
use Rattle.acta_table.specs.declared.model.Parts.{Parts}
use Rattle.acta_image.specs.declared.fault.ImageFault.{ImageFault}
use Rattle.acta_image.specs.Codes.{magic}
use Rattle.acta_image.specs.Reading.{loaded}
use Rattle.acta_lang.specs.declared.fault.AsmFault.{AsmFault}
use Rattle.acta_lang.specs.Meaning.{meaning}
use Rattle.acta_io.specs.declared.models.NoModel.{NoModel}
use Rattle.acta_io.specs.declared.models.NoModel.TheVariants.{Text, Image}

-- the result of reading a text, and of reading an image
abbrev pub of_text : {A : Type 0} → Result (Parts A) AsmFault → Result (Parts A) NoModel
of_text (Ok m) = Ok m
of_text (Err fault) = Err (Text fault)

abbrev pub of_image : {A : Type 0} → Result (Parts A) ImageFault → Result (Parts A) NoModel
of_image (Ok m) = Ok m
of_image (Err fault) = Err (Image fault)

-- bytes that begin with `ACTA` are read as an image, others as a text
abbrev pub is_image : List ℕ → Bool
is_image bytes = bytes_eq (take 4 bytes) magic

abbrev pub of_either : {A : Type 0} → List ℕ → Result (Parts A) NoModel
of_either bytes = if is_image bytes then of_image (loaded bytes) else of_text (meaning bytes)
