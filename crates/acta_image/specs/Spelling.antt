-- The image of a model in a version: its fields in order, each as its bytes, with numbers big endian.
use Rattle.std.specs.Prelude.{ℕ, ◌≤◌, List, [], ◌∷◌, ◌++◌, length}
use Rattle.std.specs.List.{All, flat_map}
use Rattle.std.specs.Int.{w16, w32, to_be_bytes}
use Rattle.acta_table.specs.declared.model.Class.{Class}
use Rattle.acta_table.specs.declared.model.Object.{Object}
use Rattle.acta_table.specs.declared.model.Parts.{Parts}
use Rattle.acta_table.specs.declared.start_edges.StartEdge.{StartEdge}
use Rattle.acta_table.specs.Dependencies.{code_of}
use Rattle.acta_table.specs.Starts.{rank_of}
use Rattle.acta_image.specs.declared.version.ImageVersion.{ImageVersion}
use Rattle.acta_image.specs.declared.version.ImageVersion.TheVariants.{Two}
use Rattle.acta_image.specs.Codes.{magic, version_number, most_may, object_code, first_bits, starts_bits, scope_code, policy_code, policy_bits, commit_code, extent_code}

-- a field of one byte
abbrev pub byte : ℕ → List ℕ
byte n = n ∷ []

-- an object: the length of its name, the name, its kind, its first value
abbrev pub object_bytes : {A : Type 0} → Object A → List ℕ
object_bytes o = byte (length o.name) ++ (o.name ++ (byte (object_code o.kind) ++ to_be_bytes w32 (first_bits o.kind)))

-- a start edge: the code of its kind, and of the end that depends, 0 for the starter and 1 for the started
abbrev pub row_bytes : StartEdge → List ℕ
row_bytes e = code_of e.kind ∷ rank_of e.dependent ∷ []

-- the number of start edges, and the rows
abbrev pub rows_bytes : List StartEdge → List ℕ
rows_bytes es = byte (length es) ++ flat_map row_bytes es

-- the fields of fixed length of a class: its starts, allowed events, scope, policy with its kinds, commit and delegation
abbrev pub choices : {A : Type 0} → Class A → List ℕ
choices c =
    byte (starts_bits c.starts)
    ++ (to_be_bytes w16 c.may
    ++ (byte (scope_code c.scope)
    ++ (byte (policy_code c.policy)
    ++ (to_be_bytes w16 (policy_bits c.policy)
    ++ (byte (commit_code c.at_commit)
    ++ byte (extent_code c.extent))))))

-- a class: the length of its name, the name, its fields of fixed length, its edges at a spawn and at a split
abbrev pub class_bytes : {A : Type 0} → Class A → List ℕ
class_bytes c =
    byte (length c.name) ++ (c.name ++ (choices c ++ (rows_bytes c.spawn_edges ++ rows_bytes c.split_edges)))

-- the head of an image: the magic, the version, and the numbers of classes and of objects
abbrev pub head : ImageVersion → ℕ → ℕ → List ℕ
head version classes objects = magic ++ (byte (version_number version) ++ (byte classes ++ to_be_bytes w16 objects))

-- whether the model has an image in the version: no class may do an event for which the version has no bit
abbrev pub HasImageIn : {A : Type 0} → ImageVersion → Parts A → Type 0
HasImageIn version m = All (λ c. c.may ≤ most_may version) m.classes

-- the image in a version: the head, the objects, the classes
unfoldable pub image_in : {A : Type 0} → ImageVersion → Parts A → List ℕ
image_in version m =
    head version (length m.classes) (length m.objects)
    ++ (flat_map object_bytes m.objects ++ flat_map class_bytes m.classes)

-- the image in the version that is written, which every model has
abbrev pub image : {A : Type 0} → Parts A → List ℕ
image m = image_in Two m
