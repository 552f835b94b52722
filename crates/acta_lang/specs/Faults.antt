-- What can be wrong with a line. Each test sees the line, what the lines before it declare, and whether it is the last line.
use Rattle.std.specs.Prelude.{ℕ, Bool, true, false, not, ◌&&◌, ◌||◌, ◌==◌, nat_le, List, [], ◌∷◌, ◌++◌, map, length, fold, if◌then◌else◌, Option, Some, None, is_some, is_none}
use Rattle.std.specs.List.{list_all}
use Rattle.std.specs.Option.{option_or, option_map_or}
use Rattle.acta_table.specs.declared.limits.TheConstants.{MOST_CLASSES, MOST_OBJECTS}
use Rattle.acta_table.specs.Dependencies.{is_begin_kind}
use Rattle.acta_table.specs.Faults.{is_name, lacks_parents}
use Rattle.acta_words.specs.Numerals.{read_integer}
use Rattle.acta_table.specs.Policies.{is_bad_policy}
use Rattle.acta_words.specs.Text.{words_of, is_word_among}
use Rattle.acta_lang.specs.declared.fault.Code.{Code}
use Rattle.acta_lang.specs.declared.fault.Code.TheVariants.{NotAscii, BadWord, BadName, DuplicateName, WrongPlace, BadNumber, TooMany, MissingEnd, MissingPart, BeginKindAtStart, HeirWithoutSpawn, BadPolicyKind}
use Rattle.acta_lang.specs.declared.form.Form.{Form}
use Rattle.acta_lang.specs.declared.form.Form.TheVariants as form
use Rattle.acta_lang.specs.Forms.{form_of, name_in, value_in}
use Rattle.acta_lang.specs.Drafts.{Draft, has_part, has_all_parts, closed, extended}

-- whether a line of the form declares an object, or a class
abbrev pub is_object : Form → Bool
is_object form.Register = true
is_object form.Counter = true
is_object form.Elements = true
is_object _ = false

abbrev pub is_class : Form → Bool
is_class form.Class = true
is_class _ = false

-- whether it ends a class
abbrev pub is_end : Form → Bool
is_end form.End = true
is_end _ = false

-- the names of the objects, and of the classes, the open one too
abbrev pub object_names : {A : Type 0} → Draft A → List (List ℕ)
object_names d = map (λ o. o.name) d.objects

abbrev pub class_names : {A : Type 0} → Draft A → List (List ℕ)
class_names d = map (λ c. c.name) d.classes ++ option_map_or (λ c. c.name ∷ []) d.current []

-- a tab, or a byte from the space to the tilde
abbrev pub is_printable : ℕ → Bool
is_printable b = (b == 9) || (nat_le 32 b && nat_le b 126)

-- a byte that is not printable, even in a comment
unfoldable pub not_ascii : List ℕ → Bool
not_ascii line = not (list_all is_printable line)

-- the words fit no form of a line
unfoldable pub bad_word : Form → Bool
bad_word form.Unknown = true
bad_word _ = false

-- the name of an object or a class is not a valid name
unfoldable pub bad_name : List (List ℕ) → Form → Bool
bad_name words parsed = (is_object parsed || is_class parsed) && not (is_name (name_in words))

-- an earlier line declares an object, or a class, of this name
unfoldable pub duplicate_name : {A : Type 0} → Draft A → List (List ℕ) → Form → Bool
duplicate_name d words parsed =
    is_object parsed && is_word_among (object_names d) (name_in words)
    || is_class parsed && is_word_among (class_names d) (name_in words)

-- an object or a class inside a class, any other words outside one, or a part that the class already has
unfoldable pub wrong_place : {A : Type 0} → Draft A → Form → Bool
wrong_place d form.Blank = false
wrong_place d parsed =
    if is_object parsed || is_class parsed then is_some d.current else option_map_or (has_part parsed) d.current true

-- a first value is not a number of 32 bits
unfoldable pub bad_number : List (List ℕ) → Form → Bool
bad_number words form.Register = is_none (read_integer 0x8000_0000 (value_in words))
bad_number words form.Counter = is_none (read_integer 0x8000_0000 (value_in words))
bad_number words _ = false

-- the 257th object, the 17th class
unfoldable pub too_many : {A : Type 0} → Draft A → Form → Bool
too_many d parsed =
    is_object parsed && nat_le MOST_OBJECTS (length d.objects) || is_class parsed && nat_le MOST_CLASSES (length d.classes)

-- the last line leaves a class open
unfoldable pub missing_end : {A : Type 0} → Bool → Draft A → Bool
missing_end is_last behind = is_last && is_some behind.current

-- an `end` of a class without all six parts, or the last line of a text without a class
unfoldable pub missing_part : {A : Type 0} → Bool → Draft A → Draft A → Form → Bool
missing_part is_last d behind parsed =
    is_end parsed && option_map_or (λ c. not (has_all_parts c)) d.current false
    || is_last && (length behind.classes == 0)

-- an edge at a start is of a begin kind
unfoldable pub begin_kind_at_start : Form → Bool
begin_kind_at_start (form.Spawn e) = is_begin_kind e.kind
begin_kind_at_start (form.Split e) = is_begin_kind e.kind
begin_kind_at_start _ = false

-- an `end` of a class that commits to parents but whose transactions can start without a parent
unfoldable pub heir_without_spawn : {A : Type 0} → Draft A → Form → Bool
heir_without_spawn {A = A} d parsed = is_end parsed && option_map_or (λ c. lacks_parents (closed {A = A} c)) d.current false

-- a policy with no kind of dependency, or with one other than CD, AD, WD and TD
unfoldable pub bad_policy_kind : Form → Bool
bad_policy_kind (form.Policy p) = is_bad_policy p
bad_policy_kind _ = false

-- the code, if the test is true
abbrev pub code_if : Bool → Code → Option Code
code_if test code = if test then Some code else None

-- the lowest code of a line of these words and this form; `behind` is the draft with what the line declares
abbrev pub lowest_of : {A : Type 0} → Draft A → Draft A → Bool → List ℕ → List (List ℕ) → Form → Option Code
lowest_of d behind is_last line words parsed = fold option_or None (
    code_if (not_ascii line) NotAscii
    ∷ code_if (bad_word parsed) BadWord
    ∷ code_if (bad_name words parsed) BadName
    ∷ code_if (duplicate_name d words parsed) DuplicateName
    ∷ code_if (wrong_place d parsed) WrongPlace
    ∷ code_if (bad_number words parsed) BadNumber
    ∷ code_if (too_many d parsed) TooMany
    ∷ code_if (missing_end is_last behind) MissingEnd
    ∷ code_if (missing_part is_last d behind parsed) MissingPart
    ∷ code_if (begin_kind_at_start parsed) BeginKindAtStart
    ∷ code_if (heir_without_spawn d parsed) HeirWithoutSpawn
    ∷ code_if (bad_policy_kind parsed) BadPolicyKind
    ∷ [])

-- the lowest code at a line, by what the lines before it declare and whether it is the last
abbrev pub code_at : {A : Type 0} → Draft A → Bool → List ℕ → Option Code
code_at d is_last line =
    let words = words_of line in
    let parsed = form_of words in
    lowest_of d (extended d words parsed) is_last line words parsed
