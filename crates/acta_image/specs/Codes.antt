-- The codes in an image of the version and of a model's choices.
use Rattle.std.specs.Prelude.{ℕ, ◌+◌, Bool, if◌then◌else◌, List, codes}
use Rattle.std.specs.Int.{w32, cast_unsigned}
use Rattle.acta_table.specs.declared.model.AtCommit.{AtCommit}
use Rattle.acta_table.specs.declared.model.AtCommit.TheVariants.{Keeps, ToParent}
use Rattle.acta_table.specs.declared.model.Extent.{Extent}
use Rattle.acta_table.specs.declared.model.Extent.TheVariants.{Whole, Any}
use Rattle.acta_table.specs.declared.model.Kind.{Kind}
use Rattle.acta_table.specs.declared.model.Kind.TheVariants.{Register, Counter, Elements}
use Rattle.acta_table.specs.declared.model.Scope.{Scope}
use Rattle.acta_table.specs.declared.model.Scope.TheVariants.{Others, NonAncestors}
use Rattle.acta_table.specs.declared.model.Starts.{Starts}
use Rattle.acta_table.specs.declared.policy.Policy.{Policy}
use Rattle.acta_table.specs.declared.policy.Policy.TheVariants.{Refuse, Depend}
use Rattle.acta_image.specs.declared.version.ImageVersion.{ImageVersion}
use Rattle.acta_image.specs.declared.version.ImageVersion.TheVariants.{One, Two}

-- the first bytes of an image
abbrev pub magic : List ℕ
magic = codes "ACTA"

-- the number of the version, after the magic
abbrev pub version_number : ImageVersion → ℕ
version_number One = 1
version_number Two = 2

-- the highest value of a class's set of allowed events: all kinds of event, in version 1 all but permit
abbrev pub most_may : ImageVersion → ℕ
most_may One = 255
most_may Two = 511

-- the kind of an object
abbrev pub object_code : Kind → ℕ
object_code (Register first) = 0
object_code (Counter first) = 1
object_code Elements = 2

-- the object's first value, in two's complement; 0 for a set
abbrev pub first_bits : Kind → ℕ
first_bits (Register first) = cast_unsigned w32 first
first_bits (Counter first) = cast_unsigned w32 first
first_bits Elements = 0

-- the bit, if the test is true
abbrev pub bit_if : Bool → ℕ → ℕ
bit_if test bit = if test then bit else 0

-- how transactions may start
abbrev pub starts_bits : Starts → ℕ
starts_bits s = bit_if s.begin 1 + bit_if s.spawned 2 + bit_if s.split 4

-- the scope
abbrev pub scope_code : Scope → ℕ
scope_code Others = 0
scope_code NonAncestors = 1

-- whether a policy forms edges instead of refusing, and the kinds of those edges
abbrev pub policy_code : Policy → ℕ
policy_code Refuse = 0
policy_code (Depend kinds) = 1

abbrev pub policy_bits : Policy → ℕ
policy_bits Refuse = 0
policy_bits (Depend kinds) = kinds

-- what a commit does: whether the transaction keeps its operations or its parent gets them
abbrev pub commit_code : AtCommit → ℕ
commit_code Keeps = 0
commit_code ToParent = 1

-- how much a delegation transfers
abbrev pub extent_code : Extent → ℕ
extent_code Whole = 0
extent_code Any = 1
