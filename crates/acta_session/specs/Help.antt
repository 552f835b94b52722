-- The help on the lines of a session.
use Rattle.std.specs.Prelude.{◌≡◌, ℕ, List, [], ◌∷◌, ◌++◌, codes, map, Option, Some, None}
use Rattle.acta_table.specs.declared.event.EventKind.{EventKind}
use Rattle.acta_table.specs.declared.event.EventKind.TheVariants.{Begin, Spawn, Split, Join, Delegate, Form, Operate, Commit, Abort, Permit}
use Rattle.acta_script.specs.declared.shell_lines.Topic.{Topic}
use Rattle.acta_script.specs.declared.shell_lines.Topic.TheVariants as topic
use Rattle.acta_script.specs.Shell.{shell_kinds}
use Rattle.acta_script.specs.Words.{event_form, shell_form}

-- all kinds of event
abbrev pub event_kinds : List EventKind
event_kinds = Begin ∷ Spawn ∷ Split ∷ Join ∷ Delegate ∷ Form ∷ Operate ∷ Commit ∷ Abort ∷ Permit ∷ []

abbrev pub can_form : List ℕ
can_form = codes "can EVENT"

-- the form of the line that is explained
abbrev pub form_of : Topic → List ℕ
form_of (topic.Event kind) = event_form kind
form_of topic.Can = can_form
form_of (topic.Command kind) = shell_form kind

-- a line of a list: a form after two spaces, and words
abbrev pub listed_line : List ℕ → List ℕ → List ℕ
listed_line form words = codes "  " ++ (form ++ (words ++ 10 ∷ []))

-- the text has a line for each of these forms, in order
abbrev pub IsListOf : List (List ℕ) → List ℕ → Type 0
IsListOf [] text = text ≡ []
IsListOf (form ∷ forms) text = (words : List ℕ) × (rest : List ℕ) × (text ≡ listed_line form words ++ rest) × IsListOf forms rest

-- the text lists the lines of all events, and then those of all commands
pub record ListsAll (text : List ℕ) : Type 0 where
  pub events : List ℕ
  pub commands : List ℕ
  pub last : List ℕ
  pub all_events : IsListOf (map event_form event_kinds) events
  pub all_commands : IsListOf (can_form ∷ map shell_form shell_kinds) commands
  pub whole : text ≡ codes "events:" ++ (10 ∷ events ++ (codes "commands:" ++ (10 ∷ commands ++ last)))

-- the text is the help: on all lines, or on one, after its form
abbrev pub IsHelp : Option Topic → List ℕ → Type 0
IsHelp None text = ListsAll text
IsHelp (Some t) text = (words : List ℕ) × (text ≡ codes "`" ++ (form_of t ++ (codes "`" ++ words)))
