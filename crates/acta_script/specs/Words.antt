-- The words of events, operations, returns, debugger commands and session commands, the forms of their lines, and the
-- names of line faults.
use Rattle.std.specs.Prelude.{ℕ, Bool, true, false, List, codes}
use Rattle.acta_table.specs.declared.event.EventKind.{EventKind}
use Rattle.acta_table.specs.declared.event.EventKind.TheVariants.{Begin, Spawn, Split, Join, Delegate, Form, Operate, Commit, Abort, Permit}
use Rattle.acta_script.specs.declared.command_words.BreakKind.{BreakKind}
use Rattle.acta_script.specs.declared.command_words.BreakKind.TheVariants as break_kind
use Rattle.acta_script.specs.declared.command_words.CommandKind.{CommandKind}
use Rattle.acta_script.specs.declared.command_words.CommandKind.TheVariants as command_kind
use Rattle.acta_script.specs.declared.fault.LineFault.{LineFault}
use Rattle.acta_script.specs.declared.fault.LineFault.TheVariants as fault
use Rattle.acta_script.specs.declared.op_kind.OpKind.{OpKind}
use Rattle.acta_script.specs.declared.op_kind.OpKind.TheVariants as op_kind
use Rattle.acta_script.specs.declared.shell_words.ShellKind.{ShellKind}
use Rattle.acta_script.specs.declared.shell_words.ShellKind.TheVariants as shell_kind

-- the first word of an event's line
abbrev pub event_word : EventKind → List ℕ
event_word Begin = codes "begin"
event_word Spawn = codes "spawn"
event_word Split = codes "split"
event_word Join = codes "join"
event_word Delegate = codes "delegate"
event_word Form = codes "form"
event_word Operate = codes "do"
event_word Commit = codes "commit"
event_word Abort = codes "abort"
event_word Permit = codes "permit"

-- the form of an event's line; a word in capitals stands for an argument
abbrev pub event_form : EventKind → List ℕ
event_form Begin = codes "begin T CLASS"
event_form Spawn = codes "spawn T C CLASS"
event_form Split = codes "split T U CLASS OPS"
event_form Join = codes "join T U"
event_form Delegate = codes "delegate T U OPS"
event_form Form = codes "form KIND J I"
event_form Operate = codes "do T OBJECT OP"
event_form Commit = codes "commit T"
event_form Abort = codes "abort T"
event_form Permit = codes "permit T U OBJECT"

-- the word of an operation
abbrev pub op_word : OpKind → List ℕ
op_word op_kind.Read = codes "read"
op_word op_kind.Write = codes "write"
op_word op_kind.Get = codes "get"
op_word op_kind.Add = codes "add"
op_word op_kind.Insert = codes "insert"
op_word op_kind.Remove = codes "remove"
op_word op_kind.Has = codes "has"
op_word op_kind.Size = codes "size"

-- whether an INT follows the word of the operation
abbrev pub takes_integer : OpKind → Bool
takes_integer op_kind.Read = false
takes_integer op_kind.Write = true
takes_integer op_kind.Get = false
takes_integer op_kind.Add = true
takes_integer op_kind.Insert = true
takes_integer op_kind.Remove = true
takes_integer op_kind.Has = true
takes_integer op_kind.Size = false

-- the form of the line of an event that does the operation
abbrev pub op_form : OpKind → List ℕ
op_form op_kind.Read = codes "do T OBJECT read"
op_form op_kind.Write = codes "do T OBJECT write INT"
op_form op_kind.Get = codes "do T OBJECT get"
op_form op_kind.Add = codes "do T OBJECT add INT"
op_form op_kind.Insert = codes "do T OBJECT insert INT"
op_form op_kind.Remove = codes "do T OBJECT remove INT"
op_form op_kind.Has = codes "do T OBJECT has INT"
op_form op_kind.Size = codes "do T OBJECT size"

-- the words of returns that are not numbers
abbrev pub done_word : List ℕ
done_word = codes "done"

abbrev pub flag_word : Bool → List ℕ
flag_word true = codes "yes"
flag_word false = codes "no"

-- the first word of a command to a debugger
abbrev pub command_word : CommandKind → List ℕ
command_word command_kind.Step = codes "step"
command_word command_kind.Back = codes "back"
command_word command_kind.Goto = codes "goto"
command_word command_kind.Run = codes "run"
command_word command_kind.Break = codes "break"
command_word command_kind.Clear = codes "clear"
command_word command_kind.Value = codes "value"
command_word command_kind.Status = codes "status"
command_word command_kind.Owed = codes "owed"

-- the form of a command's line; a word in capitals stands for an argument
abbrev pub command_form : CommandKind → List ℕ
command_form command_kind.Step = codes "step"
command_form command_kind.Back = codes "back"
command_form command_kind.Goto = codes "goto N"
command_form command_kind.Run = codes "run"
command_form command_kind.Break = codes "break BREAK"
command_form command_kind.Clear = codes "clear"
command_form command_kind.Value = codes "value OBJECT"
command_form command_kind.Status = codes "status T"
command_form command_kind.Owed = codes "owed"

-- the word of a kind of break, which follows `break`
abbrev pub break_word : BreakKind → List ℕ
break_word break_kind.Kind = codes "kind"
break_word break_kind.Txn = codes "txn"
break_word break_kind.Object = codes "object"
break_word break_kind.Owed = codes "owed"
break_word break_kind.Ended = codes "ended"

-- the form of the line of a command that adds such a break
abbrev pub break_form : BreakKind → List ℕ
break_form break_kind.Kind = codes "break kind EVENT"
break_form break_kind.Txn = codes "break txn T"
break_form break_kind.Object = codes "break object OBJECT"
break_form break_kind.Owed = codes "break owed N"
break_form break_kind.Ended = codes "break ended T"

-- the first word of a command of a session
abbrev pub shell_word : ShellKind → List ℕ
shell_word shell_kind.Undo = codes "undo"
shell_word shell_kind.Redo = codes "redo"
shell_word shell_kind.Goto = codes "goto"
shell_word shell_kind.State = codes "state"
shell_word shell_kind.Status = codes "status"
shell_word shell_kind.Value = codes "value"
shell_word shell_kind.Held = codes "held"
shell_word shell_kind.Conflicts = codes "conflicts"
shell_word shell_kind.Edges = codes "edges"
shell_word shell_kind.Permits = codes "permits"
shell_word shell_kind.Owed = codes "owed"
shell_word shell_kind.History = codes "history"
shell_word shell_kind.Events = codes "events"
shell_word shell_kind.Draw = codes "draw"
shell_word shell_kind.Why = codes "why"
shell_word shell_kind.Next = codes "next"
shell_word shell_kind.Explore = codes "explore"
shell_word shell_kind.Help = codes "help"
shell_word shell_kind.Quit = codes "quit"

-- the form of its line; a word in capitals stands for an argument, and a word in brackets is optional
abbrev pub shell_form : ShellKind → List ℕ
shell_form shell_kind.Undo = codes "undo [N]"
shell_form shell_kind.Redo = codes "redo [N]"
shell_form shell_kind.Goto = codes "goto N"
shell_form shell_kind.State = codes "state"
shell_form shell_kind.Status = codes "status T"
shell_form shell_kind.Value = codes "value OBJECT"
shell_form shell_kind.Held = codes "held T"
shell_form shell_kind.Conflicts = codes "conflicts T"
shell_form shell_kind.Edges = codes "edges [T]"
shell_form shell_kind.Permits = codes "permits"
shell_form shell_kind.Owed = codes "owed"
shell_form shell_kind.History = codes "history"
shell_form shell_kind.Events = codes "events"
shell_form shell_kind.Draw = codes "draw"
shell_form shell_kind.Why = codes "why [N]"
shell_form shell_kind.Next = codes "next [T]"
shell_form shell_kind.Explore = codes "explore"
shell_form shell_kind.Help = codes "help [COMMAND]"
shell_form shell_kind.Quit = codes "quit"

-- the word that asks whether the event after it would be admitted
abbrev pub can_word : List ℕ
can_word = codes "can"

-- the name of a line fault
abbrev pub fault_name : LineFault → List ℕ
fault_name fault.Empty = codes "Empty"
fault_name fault.Word = codes "Word"
fault_name fault.Arity = codes "Arity"
fault_name fault.Number = codes "Number"
fault_name fault.Name = codes "Name"
