-- Examples: lines of a session.
use Rattle.std.specs.Prelude.{◌≡◌, ℕ, List, [], ◌∷◌, codes, Some, None, Ok, Err, Result, pos, refl, true, false}
use Rattle.acta_table.specs.declared.event.Event.TheVariants as event
use Rattle.acta_table.specs.declared.event.EventKind.TheVariants as event_kind
use Rattle.acta_table.specs.declared.model.AtCommit.TheVariants.{Keeps}
use Rattle.acta_table.specs.declared.model.Extent.TheVariants.{Any}
use Rattle.acta_table.specs.declared.model.Kind.TheVariants.{Register}
use Rattle.acta_table.specs.declared.model.Parts.{Parts}
use Rattle.acta_table.specs.declared.model.Scope.TheVariants.{Others}
use Rattle.acta_table.specs.declared.policy.Policy.TheVariants.{Refuse}
use Rattle.acta_script.specs.declared.diagnosis.Diagnostic.{Diagnostic}
use Rattle.acta_script.specs.declared.diagnosis.Expected.{Expected}
use Rattle.acta_script.specs.declared.diagnosis.Expected.TheVariants.{Part, EventForm, ShellForm}
use Rattle.acta_script.specs.declared.diagnosis.LinePart.TheVariants as part
use Rattle.acta_script.specs.declared.diagnosis.WordPlace.{WordPlace}
use Rattle.acta_script.specs.declared.diagnosis.WordPlace.TheVariants.{Wrong, Missing}
use Rattle.acta_script.specs.declared.fault.LineFault.{LineFault}
use Rattle.acta_script.specs.declared.fault.LineFault.TheVariants.{Empty, Word, Arity, Number, Name}
use Rattle.acta_script.specs.declared.shell_lines.ShellCommand.TheVariants as command
use Rattle.acta_script.specs.declared.shell_lines.ShellLine.{ShellLine}
use Rattle.acta_script.specs.declared.shell_lines.ShellLine.TheVariants as line
use Rattle.acta_script.specs.declared.shell_lines.Topic.TheVariants as topic
use Rattle.acta_script.specs.declared.shell_words.ShellKind.TheVariants as kind
use Rattle.acta_script.specs.Reading.{parse_commit, parse_event}
use Rattle.acta_script.specs.Shell.{shell_line_of, parse_shell_line}

-- a register and a class
abbrev model : Parts (Unit {0})
model = record {
  objects = (record { name = codes "x"; kind = Register (pos 0) }) ∷ [];
  classes = (record { name = codes "part"; starts = record { begin = true; spawned = false; split = true }; may = 0; scope = Others; policy = Refuse; at_commit = Keeps; extent = Any; spawn_edges = []; split_edges = [] }) ∷ [];
}

abbrev read : List ℕ → Result (ShellLine (Unit {0})) Diagnostic
read line = shell_line_of model line

abbrev wrong : LineFault → WordPlace → Expected → Result (ShellLine (Unit {0})) Diagnostic
wrong fault place expected = Err (record { fault = fault; place = place; expected = expected })

an_event : read (codes "commit 2") ≡ Ok (line.Event (event.Commit (record { 0 = 2 })))
unfolding parse_shell_line parse_event parse_commit
an_event = refl

asked : read (codes "can commit 2") ≡ Ok (line.Can (event.Commit (record { 0 = 2 })))
unfolding parse_shell_line parse_event parse_commit
asked = refl

-- a count that is left out is 1
one_back : read (codes "undo") ≡ Ok (line.Command (command.Undo 1))
unfolding parse_shell_line parse_event parse_commit
one_back = refl

four_back : read (codes "undo 4") ≡ Ok (line.Command (command.Undo 4))
unfolding parse_shell_line parse_event parse_commit
four_back = refl

all_edges : read (codes "edges") ≡ Ok (line.Command (command.Edges None))
unfolding parse_shell_line parse_event parse_commit
all_edges = refl

about_can : read (codes "help can") ≡ Ok (line.Command (command.Help (Some topic.Can)))
unfolding parse_shell_line parse_event parse_commit
about_can = refl

about_an_event : read (codes "help commit") ≡ Ok (line.Command (command.Help (Some (topic.Event event_kind.Commit))))
unfolding parse_shell_line parse_event parse_commit
about_an_event = refl

no_place : read (codes "goto") ≡ wrong Arity (Missing 1) (ShellForm kind.Goto)
unfolding parse_shell_line parse_event parse_commit
no_place = refl

two_words : read (codes "goto 1 2") ≡ wrong Arity (Wrong 2) (ShellForm kind.Goto)
unfolding parse_shell_line parse_event parse_commit
two_words = refl

no_count : read (codes "undo x") ≡ wrong Number (Wrong 1) (Part part.Count)
unfolding parse_shell_line parse_event parse_commit
no_count = refl

no_object : read (codes "value y") ≡ wrong Name (Wrong 1) (Part part.Object)
unfolding parse_shell_line parse_event parse_commit
no_object = refl

nothing_asked : read (codes "can") ≡ wrong Arity (Missing 1) (Part part.Event)
unfolding parse_shell_line parse_event parse_commit
nothing_asked = refl

-- the number of the word counts the word `can` too
asked_of_x : read (codes "can commit x") ≡ wrong Number (Wrong 2) (Part part.Transaction)
unfolding parse_shell_line parse_event parse_commit
asked_of_x = refl

misspelt : read (codes "comit 2") ≡ wrong Word (Wrong 0) (Part part.Event)
unfolding parse_shell_line parse_event parse_commit
misspelt = refl

blank : read (codes "") ≡ wrong Empty (Missing 0) (Part part.Event)
unfolding parse_shell_line parse_event parse_commit
blank = refl
