-- The lines that the code notes while it reads a text.
use Rattle.std.specs.Prelude.{◌≡◌, ℕ, List, [], ◌∷◌, ◌++◌, map, if◌then◌else◌, Option, Some, None, is_some, option_and_then, option_map, ⊤}
use Rattle.std.specs.Option.{option_or}
use Rattle.std.specs.Str.{bytes_eq}
use Rattle.acta_words.specs.Text.{words_of}
use Rattle.acta_lang.specs.declared.draft.ClassDraft.{ClassDraft}
use Rattle.acta_lang.specs.declared.draft.ClosedDraft.{ClosedDraft}
use Rattle.acta_lang.specs.declared.draft.Draft as held
use Rattle.acta_lang.specs.declared.draft.ObjectDraft.{ObjectDraft}
use Rattle.acta_lang.specs.declared.fault.Code.{Code}
use Rattle.acta_lang.specs.declared.fault.Code.TheVariants.{DuplicateName, WrongPlace, MissingEnd}
use Rattle.acta_lang.specs.declared.form.Form.{Form}
use Rattle.acta_lang.specs.declared.form.Form.TheVariants as form
use Rattle.acta_lang.specs.Diagnostics.{Diagnostic}
use Rattle.acta_lang.specs.declared.parts.PartLines.{PartLines}
use Rattle.acta_lang.specs.Drafts.{Draft, OpenClass}
use Rattle.acta_lang.specs.Faults.{is_class, is_object}
use Rattle.acta_lang.specs.Forms.{form_of, name_in}
use Rattle.acta_lang.specs.Lines.{ClassAt, begun, declares, first_line, last_class, part_line, with_line}
use Rattle.acta_lang.specs.Places.{place_of}
use denote.Ref.{Bor}

-- a name, and the line that declares it
pub record NotedName : Type 0 where
  pub name : List ℕ
  pub line : ℕ

-- the objects, the closed classes and the open class
pub record Noted : Type 0 where
  pub objects : List NotedName
  pub classes : List NotedName
  pub current : Option ClassAt

abbrev pub nothing_noted : Noted
nothing_noted = record { objects = []; classes = []; current = None }

-- what a draft has noted
abbrev pub object_at : (Bor (List ℕ) × ObjectDraft) → NotedName
object_at e = record { name = e.0.now; line = e.1.line }

abbrev pub closed_at : {A : Type 0} → (Bor (List ℕ) × ClosedDraft A) → NotedName
closed_at e = record { name = e.0.now; line = e.1.line }

abbrev pub current_at : {A : Type 0} → ClassDraft A → ClassAt
current_at c = record { name = c.name.now; line = c.line; parts = c.parts }

abbrev pub noted : {A : Type 0} → held.Draft A → Noted
noted d = record {
  objects = map object_at d.objects.entries;
  classes = map closed_at d.classes.entries;
  current = option_map current_at d.current;
}

-- the line of the first of this name
abbrev pub line_of : List ℕ → List NotedName → Option ℕ
line_of name [] = None
line_of name (x ∷ xs) = if bytes_eq name x.name then Some x.line else line_of name xs

abbrev pub current_line : List ℕ → Option ClassAt → Option ℕ
current_line name None = None
current_line name (Some c) = if bytes_eq name c.name then Some c.line else None

-- one more object; the open class closed; one more line of the open class
abbrev pub object_noted : Noted → List ℕ → ℕ → Noted
object_noted x name line = record x { objects = x.objects ++ (record { name = name; line = line }) ∷ [] }

abbrev pub closed_noted : Noted → Option ClassAt → Noted
closed_noted x None = x
closed_noted x (Some c) = record x { classes = x.classes ++ (record { name = c.name; line = c.line }) ∷ []; current = None }

abbrev pub parsed_more : Form → ℕ → ClassAt → ClassAt
parsed_more parsed number c = record c { parts = with_line parsed number c.parts }

abbrev pub parsed_noted : Noted → ℕ → Form → Noted
parsed_noted x number parsed = record x { current = option_map (parsed_more parsed number) x.current }

-- the notes after the line of this number, words and form
abbrev pub noted_by : ℕ → List (List ℕ) → Form → Noted → Noted
noted_by number words form.Register x = object_noted x (name_in words) number
noted_by number words form.Counter x = object_noted x (name_in words) number
noted_by number words form.Elements x = object_noted x (name_in words) number
noted_by number words form.Class x = record x { current = Some (begun (name_in words) number) }
noted_by number words form.End x = closed_noted x x.current
noted_by number words parsed x = parsed_noted x number parsed

-- the line and the class of a fault, by the notes
abbrev pub earlier_noted : Noted → List (List ℕ) → Form → Code → Option ℕ
earlier_noted x words parsed DuplicateName =
    if is_class parsed then option_or (line_of (name_in words) x.classes) (current_line (name_in words) x.current)
    else line_of (name_in words) x.objects
earlier_noted x words parsed WrongPlace = option_and_then (λ c. part_line parsed c.parts) x.current
earlier_noted x words parsed _ = None

abbrev pub class_noted : Noted → ℕ → List (List ℕ) → Form → Code → Option ClassAt
class_noted x number words parsed MissingEnd = if is_class parsed then Some (begun (name_in words) number) else x.current
class_noted x number words parsed _ = x.current

-- the diagnostic of the line of this number with this code
abbrev pub diagnosis : {A : Type 0} → Draft A → Noted → ℕ → List ℕ → Code → Diagnostic
diagnosis d x number line code =
    let words = words_of line in
    let parsed = form_of words in
    let at = place_of d line words parsed code in
    record {
      line = number;
      code = code;
      place = at.0;
      expected = at.1;
      earlier = earlier_noted x words parsed code;
      class = class_noted x number words parsed code;
    }

-- the class has exactly the parts whose lines are noted
pub record AreParsed (c : OpenClass) (lines : PartLines) : Type 0 where
  pub starts : is_some lines.starts ≡ is_some c.starts
  pub may : is_some lines.may ≡ is_some c.may
  pub scope : is_some lines.scope ≡ is_some c.scope
  pub policy : is_some lines.policy ≡ is_some c.policy
  pub commit : is_some lines.commit ≡ is_some c.at_commit
  pub delegation : is_some lines.delegation ≡ is_some c.extent

abbrev pub IsParsed : Option OpenClass → Option ClassAt → Type 0
IsParsed None None = ⊤
IsParsed (Some c) (Some k) = AreParsed c k.parts
IsParsed _ _ = ⊥

-- the notes agree with these lines
pub record IsNoted (before : List (List ℕ)) (x : Noted) : Type 0 where
  pub objects : (name : List ℕ) → line_of name x.objects ≡ first_line (declares is_object name) before
  pub classes : (name : List ℕ) → option_or (line_of name x.classes) (current_line name x.current) ≡ first_line (declares is_class name) before
  pub current : (c : ClassAt) → x.current ≡ Some c → c ≡ last_class c.name before
