-- Facts about every checked model: the invariants of its fields' types, and that its parts have no fault.
use Rattle.std.specs.Prelude.{◌≡◌, ◌^◌, ◌<◌, ⊤, FitsSigned, None}
use Rattle.std.specs.Int.{w32}
use Rattle.std.specs.List.{All}
use Rattle.std.specs.List.Sorted.{IsStrictlySortedBy}
use Rattle.acta_table.specs.declared.model.Class.{Class}
use Rattle.acta_table.specs.declared.model.Kind.{Kind}
use Rattle.acta_table.specs.declared.model.Kind.TheVariants.{Register, Counter, Elements}
use Rattle.acta_table.specs.declared.model.Parts.{Parts}
use Rattle.acta_table.specs.declared.policy.Policy.{Policy}
use Rattle.acta_table.specs.declared.policy.Policy.TheVariants.{Refuse, Depend}
use Rattle.acta_table.specs.Faults.{lowest_fault}
use Rattle.acta_table.specs.Starts.{start_edge_cmp}

-- an initial value fits 32 bits
abbrev pub HasFirst : Kind → Type 0
HasFirst (Register first) = FitsSigned w32 first
HasFirst (Counter first) = FitsSigned w32 first
HasFirst Elements = ⊤

-- a policy's kinds are among the twelve
abbrev pub HasDeps : Policy → Type 0
HasDeps Refuse = ⊤
HasDeps (Depend kinds) = kinds < 2 ^ 12

-- the class's sets have only bits that belong to a kind, and its start edges are sorted without repeats
pub record HasSets {A : Type 0} (class : Class A) : Type 0 where
  pub may : class.may < 2 ^ 9
  pub policy : HasDeps class.policy
  pub spawn_edges : IsStrictlySortedBy start_edge_cmp class.spawn_edges
  pub split_edges : IsStrictlySortedBy start_edge_cmp class.split_edges

-- the parts are those of a checked model
pub record AreOfModel {A : Type 0} (m : Parts A) : Type 0 where
  pub faultless : lowest_fault m ≡ None
  pub firsts : All (λ object. HasFirst object.kind) m.objects
  pub sets : All (λ class. HasSets class) m.classes
