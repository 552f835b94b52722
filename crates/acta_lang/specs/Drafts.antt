-- What the lines of a text declare, line by line.
use Rattle.std.specs.Prelude.{ℕ, Bool, false, ◌&&◌, List, [], ◌∷◌, ◌++◌, fold, Option, Some, None, is_some, option_map, unwrap_or, ℤ, pos}
use Rattle.acta_table.specs.declared.model.AtCommit.{AtCommit}
use Rattle.acta_table.specs.declared.model.AtCommit.TheVariants.{Keeps}
use Rattle.acta_table.specs.declared.model.Class.{Class}
use Rattle.acta_table.specs.declared.model.Extent.{Extent}
use Rattle.acta_table.specs.declared.model.Extent.TheVariants.{Whole}
use Rattle.acta_table.specs.declared.model.Kind.{Kind}
use Rattle.acta_table.specs.declared.model.Kind.TheVariants.{Register, Counter, Elements}
use Rattle.acta_table.specs.declared.model.Object.{Object}
use Rattle.acta_table.specs.declared.model.Parts.{Parts}
use Rattle.acta_table.specs.declared.model.Scope.{Scope}
use Rattle.acta_table.specs.declared.model.Scope.TheVariants.{Others}
use Rattle.acta_table.specs.declared.model.Starts.{Starts}
use Rattle.acta_table.specs.declared.policy.Policy.{Policy}
use Rattle.acta_table.specs.declared.policy.Policy.TheVariants.{Refuse}
use Rattle.acta_table.specs.declared.start_edges.StartEdge.{StartEdge}
use Rattle.acta_words.specs.Numerals.{read_integer}
use Rattle.acta_table.specs.Starts.{each_start_edge_once}
use Rattle.acta_words.specs.Text.{words_of}
use Rattle.acta_lang.specs.declared.form.Form.{Form}
use Rattle.acta_lang.specs.declared.form.Form.TheVariants as form
use Rattle.acta_lang.specs.Forms.{form_of, name_in, value_in}
use Rattle.acta_lang.specs.Words.{starts_of}

-- an open class: its name, and its parts so far
pub record OpenClass : Type 0 where
  pub name : List ℕ
  pub starts : Option Starts
  pub may : Option ℕ
  pub scope : Option Scope
  pub policy : Option Policy
  pub at_commit : Option AtCommit
  pub extent : Option Extent
  pub spawn_edges : List StartEdge
  pub split_edges : List StartEdge

-- the objects, the closed classes, in order, and the open class
pub record Draft (A : Type 0) : Type 0 where
  pub objects : List (Object A)
  pub classes : List (Class A)
  pub current : Option OpenClass

-- before any line
abbrev pub nothing_yet : {A : Type 0} → Draft A
nothing_yet = record { objects = []; classes = []; current = None }

-- a class without parts
abbrev pub opened : List ℕ → OpenClass
opened name = record {
  name = name;
  starts = None;
  may = None;
  scope = None;
  policy = None;
  at_commit = None;
  extent = None;
  spawn_edges = [];
  split_edges = [];
}

-- whether the class already has the part of a line of this form; an edge may be repeated
abbrev pub has_part : Form → OpenClass → Bool
has_part (form.Starts s) c = is_some c.starts
has_part (form.May kinds) c = is_some c.may
has_part (form.Scope s) c = is_some c.scope
has_part (form.Policy p) c = is_some c.policy
has_part (form.Commit a) c = is_some c.at_commit
has_part (form.Delegation e) c = is_some c.extent
has_part _ c = false

-- whether the class has all six parts
abbrev pub has_all_parts : OpenClass → Bool
has_all_parts c =
    is_some c.starts && is_some c.may && is_some c.scope && is_some c.policy && is_some c.at_commit && is_some c.extent

-- the class, if it has all six parts; the defaults for missing parts are never used
abbrev pub closed : {A : Type 0} → OpenClass → Class A
closed c = record {
  name = c.name;
  starts = unwrap_or c.starts (starts_of []);
  may = unwrap_or c.may 0;
  scope = unwrap_or c.scope Others;
  policy = unwrap_or c.policy Refuse;
  at_commit = unwrap_or c.at_commit Keeps;
  extent = unwrap_or c.extent Whole;
  spawn_edges = each_start_edge_once c.spawn_edges;
  split_edges = each_start_edge_once c.split_edges;
}

-- the class with the part of a line of this form
abbrev pub with_parsed : Form → OpenClass → OpenClass
with_parsed (form.Starts s) c = record c { starts = Some s }
with_parsed (form.May kinds) c = record c { may = Some kinds }
with_parsed (form.Scope s) c = record c { scope = Some s }
with_parsed (form.Policy p) c = record c { policy = Some p }
with_parsed (form.Commit a) c = record c { at_commit = Some a }
with_parsed (form.Delegation e) c = record c { extent = Some e }
with_parsed (form.Spawn e) c = record c { spawn_edges = c.spawn_edges ++ e ∷ [] }
with_parsed (form.Split e) c = record c { split_edges = c.split_edges ++ e ∷ [] }
with_parsed _ c = c

-- the draft with one object more
abbrev pub with_object : {A : Type 0} → Draft A → List ℕ → Kind → Draft A
with_object d name kind = record d { objects = d.objects ++ (record { name = name; kind = kind }) ∷ [] }

-- the draft with the open class closed, if there is one
abbrev pub with_closed : {A : Type 0} → Draft A → Option OpenClass → Draft A
with_closed d None = d
with_closed d (Some c) = record d { classes = d.classes ++ closed c ∷ []; current = None }

-- the value of a word, or 0 if it is not a number
abbrev pub first_value : List ℕ → ℤ
first_value word = unwrap_or (read_integer 0x8000_0000 word) (pos 0)

-- the draft with what a line of these words and this form declares
unfoldable pub extended : {A : Type 0} → Draft A → List (List ℕ) → Form → Draft A
extended d words form.Register = with_object d (name_in words) (Register (first_value (value_in words)))
extended d words form.Counter = with_object d (name_in words) (Counter (first_value (value_in words)))
extended d words form.Elements = with_object d (name_in words) Elements
extended d words form.Class = record d { current = Some (opened (name_in words)) }
extended d words form.End = with_closed d d.current
extended d words parsed = record d { current = option_map (with_parsed parsed) d.current }

-- the draft with what a line declares
abbrev pub extended_by : {A : Type 0} → Draft A → List ℕ → Draft A
extended_by d line = extended d (words_of line) (form_of (words_of line))

-- what some lines declare
abbrev pub declared : {A : Type 0} → List (List ℕ) → Draft A
declared lines = fold extended_by nothing_yet lines

-- the objects and classes of the model
abbrev pub parts_of : {A : Type 0} → Draft A → Parts A
parts_of d = record { objects = d.objects; classes = d.classes }
