-- The model that a word of a command line names.
use Rattle.std.specs.Prelude.{◌≡◌, ◌≢◌, ◌==◌, Bool, true, false, ◌∷◌, slice_index}
use Rattle.clap.specs.Words.{Text}
use Rattle.acta_models.specs.declared.texts.Standard.{Standard as StandardModel}
use Rattle.acta_models.specs.Standards.{name_of_standard}
use Rattle.acta_args.specs.declared.models.ModelName.{ModelName}
use Rattle.acta_args.specs.declared.models.ModelName.TheVariants.{Standard, Path}

-- the model is named after an `@`
abbrev pub begins_at : Text → Bool
begins_at model = slice_index model 0 == 64

-- the name of a standard model, after its `@`
abbrev pub standard_text : StandardModel → Text
standard_text name = 64 ∷ name_of_standard name

-- the word names this model: a standard one, or a file
abbrev pub IsModel : Text → ModelName → Type 0
IsModel text (Standard name) = text ≡ standard_text name
IsModel text (Path path) = (begins_at text ≡ false) × (path.now ≡ text)

-- the word begins with an `@` and names no standard model
abbrev pub IsUnknown : Text → Type 0
IsUnknown text = (begins_at text ≡ true) × ((name : StandardModel) → text ≢ standard_text name)
