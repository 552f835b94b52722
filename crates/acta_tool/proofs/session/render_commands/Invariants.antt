use Rattle.std.proofs.Common.{◌≡◌, ◌++◌, drop}
use Rattle.acta_words.specs.Text.{text_of}
use Rattle.acta_tool.specs.Debugging.{texts_of}
use Rattle.acta_tool.proofs.session.render_commands.Given as goal

-- the replies so far, with those left, are all replies
abbrev pub invariant-loop-command : goal.invariant-loop-command
invariant-loop-command g l =
    l.text.items ++ text_of (texts_of l.cursor.session (drop l.command-index l.commands)) ≡ l.initial.text.items ++ text_of (texts_of l.initial.cursor.session l.commands)
