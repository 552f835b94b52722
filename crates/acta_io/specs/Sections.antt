-- The two sections of a debug script: events, and, after the first line whose only word is `--`, commands.
use Rattle.std.specs.Prelude.{ℕ, ◌+◌, Bool, false, List, [], ◌∷◌, codes}
use Rattle.std.specs.List.{after_first, before_first, position_or_len}
use Rattle.std.specs.Str.{bytes_eq}
use Rattle.acta_table.specs.declared.event.Event.{Event}
use Rattle.acta_table.specs.declared.model.Parts.{Parts}
use Rattle.acta_words.specs.Text.{lines_of, words_of}
use Rattle.acta_script.specs.Commands.{command_of}
use Rattle.acta_script.specs.Reading.{event_of}
use Rattle.acta_script.specs.declared.commands.DebugCommand.{DebugCommand}
use Rattle.acta_io.specs.Input.{Parsed, parsed_from}

-- whether these words are `--` alone
abbrev pub is_sign : List (List ℕ) → Bool
is_sign (word ∷ []) = bytes_eq word (codes "--")
is_sign _ = false

-- whether `--` is the only word of the line: the first such line ends the events, and commands follow it
abbrev pub ends_events : List ℕ → Bool
ends_events line = is_sign (words_of line)

-- the lines before that line, parsed as events
unfoldable pub script_events : {A : Type 0} → Parts A → List ℕ → Parsed (Event A)
script_events m input = parsed_from (event_of m) 1 (before_first ends_events (lines_of input))

-- the lines after it, parsed as commands
unfoldable pub script_commands : {A : Type 0} → Parts A → List ℕ → Parsed DebugCommand
script_commands m input =
    let first_command = position_or_len ends_events (lines_of input) + 2 in
    parsed_from (command_of m) first_command (after_first ends_events (lines_of input))
