-- The input of a command, and the program's exit status.
use Rattle.std.specs.Prelude.{ℕ, List, [], Bool, true, false, if◌then◌else◌, Option, Some, Result, Ok, Err}
use Rattle.acta_args.specs.declared.fault.UsageFault.{UsageFault}
use Rattle.acta_args.specs.declared.fault.UsageFault.TheVariants.{Usage, UnknownModel, NotText, Memory as no_memory}
use Rattle.acta_io.specs.declared.outcome.Outcome.{Outcome}
use Rattle.acta_io.specs.Outcome.{code_of}
use Rattle.acta_tool.specs.declared.args.Command.{Command}
use Rattle.acta_tool.specs.declared.args.Command.TheVariants.{Assemble, CheckImage, Upgrade, Run, Trace, Judge, Debug, Serial, Drive}
use Rattle.acta_tool.specs.declared.status.Failure.{Failure}
use Rattle.acta_tool.specs.declared.status.Failure.TheVariants.{Words, Undriven}

-- the exit status of the program, by the results of its command line and of its run
abbrev pub exit_status_of : Result Outcome Failure → ℕ
exit_status_of (Ok outcome) = code_of outcome
exit_status_of (Err (Words (Usage e))) = 2
exit_status_of (Err (Words UnknownModel)) = 2
exit_status_of (Err (Words NotText)) = 2
exit_status_of (Err (Words (no_memory e))) = 3
exit_status_of (Err (Undriven e)) = 3

-- whether the command is `drive`
abbrev pub is_drive : Command → Bool
is_drive (Drive workers turns) = true
is_drive _ = false

-- whether the command reads the input
abbrev pub reads_input : Command → Bool
reads_input Assemble = false
reads_input CheckImage = false
reads_input Upgrade = false
reads_input (Run kept) = true
reads_input Trace = true
reads_input Judge = true
reads_input Debug = true
reads_input Serial = true
reads_input (Drive workers turns) = true

-- the input of a command, if the bytes left are known; none if it reads none
abbrev pub input_of : Command → Option (List ℕ) → Option (List ℕ)
input_of command left = if reads_input command then left else Some []
