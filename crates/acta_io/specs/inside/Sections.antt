-- The two sections of an input: events, and commands after the line that ends them.
use Rattle.std.specs.Prelude.{ℕ, ◌+◌, List, [], ◌∷◌, if◌then◌else◌, Option, Some, None}
use Rattle.acta_table.specs.declared.model.Parts.{Parts}
use Rattle.acta_script.specs.Commands.{command_of}
use Rattle.acta_script.specs.declared.commands.DebugCommand.{DebugCommand}
use Rattle.acta_io.specs.declared.input.Input.{Input}
use Rattle.acta_io.specs.Sections.{ends_events}
use Rattle.acta_io.specs.Input.{Parsed, parsed_from}

-- the parsed lines of an input, as the definitions have them
abbrev pub parsed_of : {X A : Type 0} → Input X A → Parsed X
parsed_of read = record { parsed = read.parsed.items; stop = read.stop }

-- the commands after the first of these lines, whose number is n, if it ends the events
abbrev pub commands_from : {A : Type 0} → Parts A → ℕ → List (List ℕ) → Option (Parsed DebugCommand)
commands_from m n [] = None
commands_from m n (line ∷ lines) =
    if ends_events line then Some (parsed_from (command_of m) (n + 1) lines) else None
