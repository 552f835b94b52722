-- The model in bytes, for each command.
use Rattle.std.specs.Prelude.{ℕ, Bool, true, false, List, Result}
use Rattle.acta_table.specs.declared.model.Parts.{Parts}
use Rattle.acta_image.specs.Reading.{loaded}
use Rattle.acta_lang.specs.Meaning.{meaning}
use Rattle.acta_io.specs.declared.models.NoModel.{NoModel}
use Rattle.acta_io.specs.Models.{of_either, of_image, of_text}
use Rattle.acta_tool.specs.declared.args.Command.{Command}
use Rattle.acta_tool.specs.declared.args.Command.TheVariants.{Assemble, CheckImage, Upgrade, Run, Trace, Judge, Debug, Serial, Drive}

-- the model in the bytes that the command is given
abbrev pub model_by : {A : Type 0} → Command → List ℕ → Result (Parts A) NoModel
model_by Assemble bytes = of_text (meaning bytes)
model_by CheckImage bytes = of_image (loaded bytes)
model_by Upgrade bytes = of_image (loaded bytes)
model_by (Run kept) bytes = of_either bytes
model_by Trace bytes = of_either bytes
model_by Judge bytes = of_either bytes
model_by Debug bytes = of_either bytes
model_by Serial bytes = of_either bytes
model_by (Drive workers turns) bytes = of_either bytes

-- whether the command takes both texts and images
abbrev pub takes_either : Command → Bool
takes_either Assemble = false
takes_either CheckImage = false
takes_either Upgrade = false
takes_either (Run kept) = true
takes_either Trace = true
takes_either Judge = true
takes_either Debug = true
takes_either Serial = true
takes_either (Drive workers turns) = true
