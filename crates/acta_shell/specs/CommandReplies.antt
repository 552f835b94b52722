-- The words of a session for a command on a machine.
use Rattle.std.specs.Prelude.{⊤, ℕ, List}
use Rattle.acta_script.specs.declared.shell_lines.ShellCommand.{ShellCommand}
use Rattle.acta_script.specs.declared.shell_lines.ShellCommand.TheVariants.{Draw, Next}
use Rattle.acta_machine.specs.Table.{State}
use Rattle.acta_next.specs.Next.{IsNext}
use Rattle.acta_shell.specs.Pictures.{ShowsHistory}

-- the text that may answer a command
abbrev pub IsCommandReply : {A : Type 0} → State A → ShellCommand → List ℕ → Type 0
IsCommandReply state Draw text = ShowsHistory state text
IsCommandReply state (Next t) text = IsNext state t text
IsCommandReply state command text = ⊤
