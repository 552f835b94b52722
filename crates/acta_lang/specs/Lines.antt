-- The lines of a text that declare a part, an object or a class, by their numbers from 1.
use Rattle.std.specs.Prelude.{ℕ, suc, Bool, true, false, ◌&&◌, List, [], ◌∷◌, nat_lt, if◌then◌else◌, Option, Some, None, option_map, unwrap_or}
use Rattle.std.specs.List.{position_from}
use Rattle.std.specs.Option.{option_or}
use Rattle.std.specs.Str.{bytes_eq}
use Rattle.acta_words.specs.Text.{words_of}
use Rattle.acta_lang.specs.declared.form.Form.{Form}
use Rattle.acta_lang.specs.declared.form.Form.TheVariants as form
use Rattle.acta_lang.specs.declared.parts.PartLines.{PartLines}
use Rattle.acta_lang.specs.Faults.{is_class}
use Rattle.acta_lang.specs.Forms.{form_of, name_in}

-- the number of the first line that passes the test
abbrev pub first_line : (List ℕ → Bool) → List (List ℕ) → Option ℕ
first_line test lines = position_from test 1 lines

-- the number of the last line that passes the test
abbrev pub last_line : (List ℕ → Bool) → List (List ℕ) → Option ℕ
last_line test [] = None
last_line test (line ∷ lines) = option_or (option_map suc (last_line test lines)) (if test line then Some 1 else None)

-- whether the form of the line passes the test
abbrev pub says : (Form → Bool) → List ℕ → Bool
says test line = test (form_of (words_of line))

-- whether the line has such a form and this name
abbrev pub declares : (Form → Bool) → List ℕ → List ℕ → Bool
declares test name line = says test line && bytes_eq name (name_in (words_of line))

-- whether a line of the form gives this part of a class
abbrev pub is_starts : Form → Bool
is_starts (form.Starts s) = true
is_starts _ = false

abbrev pub is_may : Form → Bool
is_may (form.May kinds) = true
is_may _ = false

abbrev pub is_scope : Form → Bool
is_scope (form.Scope s) = true
is_scope _ = false

abbrev pub is_policy : Form → Bool
is_policy (form.Policy p) = true
is_policy _ = false

abbrev pub is_commit : Form → Bool
is_commit (form.Commit a) = true
is_commit _ = false

abbrev pub is_delegation : Form → Bool
is_delegation (form.Delegation e) = true
is_delegation _ = false

-- the number, if it is greater than that of the line
abbrev pub behind : ℕ → Option ℕ → Option ℕ
behind line None = None
behind line (Some number) = if nat_lt line number then Some number else None

-- the lines of the parts of a class, after the line that begins it
abbrev pub parts_after : ℕ → List (List ℕ) → PartLines
parts_after line lines = record {
  starts = behind line (last_line (says is_starts) lines);
  may = behind line (last_line (says is_may) lines);
  scope = behind line (last_line (says is_scope) lines);
  policy = behind line (last_line (says is_policy) lines);
  commit = behind line (last_line (says is_commit) lines);
  delegation = behind line (last_line (says is_delegation) lines);
}

-- an open class: its name, the line that begins it, and the lines of its parts
pub record ClassAt : Type 0 where
  pub name : List ℕ
  pub line : ℕ
  pub parts : PartLines

-- the class of this name that the line of this number begins
abbrev pub class_since : List ℕ → ℕ → List (List ℕ) → ClassAt
class_since name line lines = record { name = name; line = line; parts = parts_after line lines }

-- the class of this name that the last `class` line begins
abbrev pub last_class : List ℕ → List (List ℕ) → ClassAt
last_class name lines = class_since name (unwrap_or (last_line (says is_class) lines) 0) lines

-- no line of any part
abbrev pub no_lines : PartLines
no_lines = record { starts = None; may = None; scope = None; policy = None; commit = None; delegation = None }

-- a class of which only the first line is read
abbrev pub begun : List ℕ → ℕ → ClassAt
begun name line = record { name = name; line = line; parts = no_lines }

-- the line of the part that a line of the form gives
abbrev pub part_line : Form → PartLines → Option ℕ
part_line (form.Starts s) lines = lines.starts
part_line (form.May kinds) lines = lines.may
part_line (form.Scope s) lines = lines.scope
part_line (form.Policy p) lines = lines.policy
part_line (form.Commit a) lines = lines.commit
part_line (form.Delegation e) lines = lines.delegation
part_line _ lines = None

-- the lines with this one for the part that a line of the form gives
abbrev pub with_line : Form → ℕ → PartLines → PartLines
with_line parsed number lines = record {
  starts = if is_starts parsed then Some number else lines.starts;
  may = if is_may parsed then Some number else lines.may;
  scope = if is_scope parsed then Some number else lines.scope;
  policy = if is_policy parsed then Some number else lines.policy;
  commit = if is_commit parsed then Some number else lines.commit;
  delegation = if is_delegation parsed then Some number else lines.delegation;
}
