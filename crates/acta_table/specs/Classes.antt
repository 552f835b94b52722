-- Properties of a model's classes and objects.
use Rattle.std.specs.Prelude.{ℕ, Bool, true, false, Option, slice_get, option_map}
use Rattle.acta_table.specs.declared.event.EventKind.{EventKind}
use Rattle.acta_table.specs.declared.event.EventKind.TheVariants.{Begin, Spawn, Split}
use Rattle.acta_table.specs.declared.model.Class.{Class}
use Rattle.acta_table.specs.declared.model.Extent.{Extent}
use Rattle.acta_table.specs.declared.model.Extent.TheVariants.{Whole}
use Rattle.acta_table.specs.declared.model.Kind.{Kind}
use Rattle.acta_table.specs.declared.model.Object.{Object}
use Rattle.acta_table.specs.declared.model.Scope.{Scope}
use Rattle.acta_table.specs.declared.model.Scope.TheVariants.{NonAncestors}
use Rattle.acta_table.specs.declared.model.AtCommit.{AtCommit}
use Rattle.acta_table.specs.declared.model.AtCommit.TheVariants.{ToParent}
use Rattle.acta_table.specs.declared.model.Parts.{Parts}
use Rattle.acta_table.specs.Kinds.{has_kind}

-- the object with this number
abbrev pub object_at : {A : Type 0} → Parts A → ℕ → Option (Object A)
object_at m object = slice_get m.objects object

-- the class with this number
abbrev pub class_at : {A : Type 0} → Parts A → ℕ → Option (Class A)
class_at m class = slice_get m.classes class

-- the kind of the object with this number
abbrev pub kind_at : {A : Type 0} → Parts A → ℕ → Option Kind
kind_at m object = option_map (λ o. o.kind) (object_at m object)

-- whether a transaction of the class may start by an event of this kind
abbrev pub can_start : {A : Type 0} → EventKind → Class A → Bool
can_start Begin class = class.starts.begin
can_start Spawn class = class.starts.spawned
can_start Split class = class.starts.split
can_start _ class = false

-- whether a transaction of the class may do an event of this kind
abbrev pub can_do : {A : Type 0} → EventKind → Class A → Bool
can_do kind class = has_kind class.may kind

-- whether a delegation must transfer everything that the transaction holds
abbrev pub is_whole : Extent → Bool
is_whole Whole = true
is_whole _ = false

-- whether the operations of ancestors are exempt from the conflict set
abbrev pub exempts : Scope → Bool
exempts NonAncestors = true
exempts _ = false

-- whether a commit transfers the operations to the parent
abbrev pub has_heir : AtCommit → Bool
has_heir ToParent = true
has_heir _ = false
