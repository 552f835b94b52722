-- A command line as the program holds it, and its faults.
use Rattle.std.specs.Prelude.{◌≡◌, ⊤, option_map}
use Rattle.clap.specs.Words.{kind_of}
use Rattle.clap.specs.declared.error.ErrorKind.TheVariants.{MissingSubcommand}
use Rattle.acta_tool.specs.declared.args.Spelled.{Spelled}
use Rattle.acta_args.specs.declared.fault.UsageFault.{UsageFault}
use Rattle.acta_args.specs.declared.fault.UsageFault.TheVariants.{Usage, UnknownModel, NotText, Memory}
use Rattle.acta_tool.specs.CommandLines.{Named}

-- the command line with texts in place of references
abbrev pub named_of : Spelled → Named
named_of s = record {
  command = s.command.now;
  is_kept = s.is_kept;
  workers = option_map (λ w. w.now) s.workers;
  watch = option_map (λ w. w.now) s.watch;
  model = s.model.now;
}

-- the fault is that the command is missing, or lack of memory
abbrev pub IsMissing : UsageFault → Type 0
IsMissing (Usage e) = kind_of e ≡ MissingSubcommand
IsMissing (Memory e) = ⊤
IsMissing UnknownModel = ⊥
IsMissing NotText = ⊥
