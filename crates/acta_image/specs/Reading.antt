-- Reads an image from left to right, field by field. A reader returns a value with the bytes after it, or the first fault
-- with its field.
use Rattle.std.specs.Prelude.{ℕ, zero, suc, ◌+◌, ◌-◌, ◌*◌, Bool, ◌&&◌, ◌==◌, nat_lt, nat_le, List, [], ◌∷◌, length, take, drop, slice_get, slice_index, Option, Some, None, option_map, option_and_then, Result, Ok, Err, if◌then◌else◌}
use Rattle.std.specs.Int.{w16, w32, from_be_bytes, cast_signed}
use Rattle.std.specs.Str.{bytes_eq}
use Rattle.acta_table.specs.declared.model.AtCommit.{AtCommit}
use Rattle.acta_table.specs.declared.model.AtCommit.TheVariants.{Keeps, ToParent}
use Rattle.acta_table.specs.declared.model.Class.{Class}
use Rattle.acta_table.specs.declared.model.Extent.{Extent}
use Rattle.acta_table.specs.declared.model.Extent.TheVariants.{Whole, Any}
use Rattle.acta_table.specs.declared.model.Kind.{Kind}
use Rattle.acta_table.specs.declared.model.Kind.TheVariants.{Register, Counter, Elements}
use Rattle.acta_table.specs.declared.model.Object.{Object}
use Rattle.acta_table.specs.declared.model.ModelFault.{ModelFault}
use Rattle.acta_table.specs.declared.model.Parts.{Parts}
use Rattle.acta_table.specs.declared.model.Scope.{Scope}
use Rattle.acta_table.specs.declared.model.Scope.TheVariants.{Others, NonAncestors}
use Rattle.acta_table.specs.declared.model.Starts.{Starts}
use Rattle.acta_table.specs.declared.policy.Policy.{Policy}
use Rattle.acta_table.specs.declared.policy.Policy.TheVariants.{Refuse, Depend}
use Rattle.acta_table.specs.declared.start_edges.Dependent.{Dependent}
use Rattle.acta_table.specs.declared.start_edges.Dependent.TheVariants.{Starter, Started}
use Rattle.acta_table.specs.declared.start_edges.StartEdge.{StartEdge}
use Rattle.acta_table.specs.declared.limits.TheConstants.{LONGEST_NAME, MOST_CLASSES, MOST_OBJECTS}
use Rattle.acta_table.specs.Dependencies.{code_of, all_kinds}
use Rattle.acta_table.specs.Faults.{is_name, lowest_fault}
use Rattle.acta_table.specs.Kinds.{has_bit}
use Rattle.acta_table.specs.Starts.{rank_of}
use Rattle.acta_image.specs.declared.fault.ImageFault.{ImageFault}
use Rattle.acta_image.specs.declared.fault.ImageFault.TheVariants.{Magic, Version, Truncated, BadField, Trailing, Model}
use Rattle.acta_image.specs.declared.diagnostic.Field.{Field}
use Rattle.acta_image.specs.declared.diagnostic.Field.TheVariants as at
use Rattle.acta_image.specs.declared.diagnostic.ImageDiagnostic.{ImageDiagnostic}
use Rattle.acta_image.specs.declared.loading.Head.{Head}
use Rattle.acta_image.specs.declared.version.ImageVersion.{ImageVersion}
use Rattle.acta_image.specs.declared.version.ImageVersion.TheVariants.{One, Two}
use Rattle.acta_image.specs.Codes.{magic, most_may}
use Rattle.acta_image.specs.Spelling.{image}

-- a reader: the value of the first bytes with the bytes after them, or the first fault with its field
abbrev pub Reader : Type 0 → Type 0
Reader X = List ℕ → Result (X × List ℕ) ImageDiagnostic

-- the second step applied to the value of the first, or the first's fault
abbrev pub and_then : {X Y E : Type 0} → Result X E → (X → Result Y E) → Result Y E
and_then (Ok x) next = next x
and_then (Err fault) next = Err fault

-- one reader, then another that depends on its value
infixl 10 ◌>>=◌
abbrev pub ◌>>=◌ : {X Y : Type 0} → Reader X → (X → Reader Y) → Reader Y
read >>= next = λ bytes. and_then (read bytes) (λ x. next x.0 x.1)

-- reads nothing and returns this value
abbrev pub give : {X : Type 0} → X → Reader X
give x = λ bytes. Ok (x, bytes)

-- the value of a field with the bytes after it, or the fault if the field has no allowed value
abbrev pub found_or : {X : Type 0} → ImageDiagnostic → List ℕ → Option X → Result (X × List ℕ) ImageDiagnostic
found_or fault rest None = Err fault
found_or fault rest (Some x) = Ok (x, rest)

-- the offset of these bytes, the rest of an image of this size
abbrev pub offset_of : ℕ → List ℕ → ℕ
offset_of size bytes = size - length bytes

-- the fault at this field, which begins with these bytes
abbrev pub fault_at : ImageFault → Field → ℕ → List ℕ → ImageDiagnostic
fault_at fault which size bytes = record { fault = fault; field = which; offset = offset_of size bytes }

-- a field of n bytes, and the bytes after it: `Truncated` if fewer are left, and the fault if they encode no allowed value
abbrev pub field_or : {X : Type 0} → ImageFault → Field → ℕ → ℕ → (List ℕ → Option X) → Reader X
field_or fault which size n read bytes =
    if nat_lt (length bytes) n then Err (fault_at Truncated which size bytes)
    else found_or (fault_at fault which size bytes) (drop n bytes) (read (take n bytes))

-- a field whose fault is `BadField` with its offset
abbrev pub field : {X : Type 0} → Field → ℕ → ℕ → (List ℕ → Option X) → Reader X
field which size n read bytes = field_or (BadField (offset_of size bytes)) which size n read bytes

-- the value, if the test is true
abbrev pub some_if : {X : Type 0} → Bool → X → Option X
some_if test x = if test then Some x else None

-- a byte in the range from least to most
abbrev pub byte_in : ℕ → ℕ → List ℕ → Option ℕ
byte_in least most bytes =
    let b = slice_index bytes 0 in
    some_if (nat_le least b && nat_le b most) b

-- a number of two bytes, up to a maximum
abbrev pub number_to : ℕ → List ℕ → Option ℕ
number_to most bytes = some_if (nat_le (from_be_bytes w16 bytes) most) (from_be_bytes w16 bytes)

-- a name
abbrev pub name_by : List ℕ → Option (List ℕ)
name_by bytes = some_if (is_name bytes) bytes

-- a first value, after the code of the kind
abbrev pub kind_in : ℕ → List ℕ → Option Kind
kind_in code bytes =
    let n = from_be_bytes w32 bytes in
    if code == 0 then Some (Register (cast_signed w32 n))
    else if code == 1 then Some (Counter (cast_signed w32 n))
    else some_if (n == 0) Elements

-- how transactions may start, by three bits
abbrev pub starts_by : ℕ → Starts
starts_by bits = record { begin = has_bit bits 0; spawned = has_bit bits 1; split = has_bit bits 2 }

abbrev pub starts_in : List ℕ → Option Starts
starts_in bytes = option_map starts_by (byte_in 0 7 bytes)

-- one of two choices, by a byte that is 0 or 1
abbrev pub choice_in : {X : Type 0} → X → X → List ℕ → Option X
choice_in x y bytes = option_map (λ b. if b == 0 then x else y) (byte_in 0 1 bytes)

abbrev pub scope_in : List ℕ → Option Scope
scope_in bytes = choice_in Others NonAncestors bytes

abbrev pub commit_in : List ℕ → Option AtCommit
commit_in bytes = choice_in Keeps ToParent bytes

abbrev pub extent_in : List ℕ → Option Extent
extent_in bytes = choice_in Whole Any bytes

-- the kinds of a policy, after its code: none if it refuses
abbrev pub policy_in : ℕ → List ℕ → Option Policy
policy_in code bytes =
    let n = from_be_bytes w16 bytes in
    if code == 0 then some_if (n == 0) Refuse else some_if (nat_le n 4095) (Depend n)

-- the end that depends, by a byte that is 0 or 1
abbrev pub dependent_in : ℕ → Option Dependent
dependent_in b = if b == 0 then Some Starter else some_if (b == 1) Started

-- the rank of a start edge in the canonical order
abbrev pub rank : StartEdge → ℕ
rank e = 2 * code_of e.kind + rank_of e.dependent

-- the start edge of two bytes
abbrev pub edge_in : ℕ → ℕ → Option StartEdge
edge_in kind dependent =
    option_and_then (λ k. option_map (λ d. record { kind = k; dependent = d }) (dependent_in dependent)) (slice_get all_kinds kind)

-- the start edge of a row of two bytes, if its rank is at least this
abbrev pub row_in : ℕ → List ℕ → Option StartEdge
row_in least bytes =
    option_and_then (λ e. some_if (nat_le least (rank e)) e) (edge_in (slice_index bytes 0) (slice_index bytes 1))

-- n rows in ascending order of rank, the first of at least this rank
abbrev pub read_rows : Field → ℕ → ℕ → ℕ → Reader (List StartEdge)
read_rows row size least zero = give []
read_rows row size least (suc n) = do
  first ← field row size 2 (row_in least)
  others ← read_rows row size (suc (rank first)) n
  give (first ∷ others)

-- the number of rows, and the rows
unfoldable pub read_edges : Field → Field → ℕ → Reader (List StartEdge)
read_edges counted row size = do
  count ← field counted size 1 (byte_in 0 24)
  read_rows row size 0 count

-- an object
unfoldable pub read_object : {A : Type 0} → ℕ → Reader (Object A)
read_object size = do
  len ← field at.ObjectNameLength size 1 (byte_in 1 LONGEST_NAME)
  name ← field at.ObjectName size len name_by
  code ← field at.ObjectKind size 1 (byte_in 0 2)
  kind ← field at.FirstValue size 4 (kind_in code)
  give (record { name = name; kind = kind })

-- a class, in a version
unfoldable pub read_class : {A : Type 0} → ImageVersion → ℕ → Reader (Class A)
read_class version size = do
  len ← field at.ClassNameLength size 1 (byte_in 1 LONGEST_NAME)
  name ← field at.ClassName size len name_by
  starts ← field at.Starts size 1 starts_in
  may ← field at.May size 2 (number_to (most_may version))
  scope ← field at.Scope size 1 scope_in
  code ← field at.Policy size 1 (byte_in 0 1)
  policy ← field at.PolicyKinds size 2 (policy_in code)
  at_commit ← field at.Commit size 1 commit_in
  extent ← field at.Delegation size 1 extent_in
  spawn_edges ← read_edges at.SpawnEdges at.SpawnEdge size
  split_edges ← read_edges at.SplitEdges at.SplitEdge size
  give (record {
    name = name;
    starts = starts;
    may = may;
    scope = scope;
    policy = policy;
    at_commit = at_commit;
    extent = extent;
    spawn_edges = spawn_edges;
    split_edges = split_edges;
  })

-- n items, each by the same reader
abbrev pub read_items : {X : Type 0} → Reader X → ℕ → Reader (List X)
read_items read zero = give []
read_items read (suc n) = do
  first ← read
  others ← read_items read n
  give (first ∷ others)

-- the magic at the beginning of an image; a wrong byte is reported even if later ones are missing
unfoldable pub read_magic : Reader (List ℕ)
read_magic bytes =
    if bytes_eq (take 4 bytes) (take (length bytes) magic)
    then (if nat_lt (length bytes) 4 then Err (fault_at Truncated at.Magic 0 bytes) else Ok (magic, drop 4 bytes))
    else Err (fault_at Magic at.Magic 0 bytes)

-- the version, by its number
abbrev pub version_in : List ℕ → Option ImageVersion
version_in bytes =
    let n = slice_index bytes 0 in
    if n == 1 then Some One else some_if (n == 2) Two

-- the version after the magic: 1 if the byte is 1, otherwise 2
abbrev pub version_of : List ℕ → ImageVersion
version_of bytes = if slice_index bytes 4 == 1 then One else Two

-- the version and the numbers of classes and of objects, after the magic
unfoldable pub read_head : ℕ → Reader Head
read_head size = do
  start ← read_magic
  version ← field_or Version at.Version size 1 version_in
  classes ← field at.Classes size 1 (byte_in 1 MOST_CLASSES)
  objects ← field at.Objects size 2 (number_to MOST_OBJECTS)
  give (record { version = version; classes = classes; objects = objects })

-- the result without the field of a fault
abbrev pub without_field : {X : Type 0} → Result X ImageDiagnostic → Result X ImageFault
without_field (Ok x) = Ok x
without_field (Err d) = Err d.fault

-- the magic and the head, without the field of a fault
abbrev pub read_header : ℕ → List ℕ → Result (Head × List ℕ) ImageFault
read_header size bytes = without_field (read_head size bytes)

-- the objects and the classes
unfoldable pub read_parts : {A : Type 0} → ℕ → Reader (Parts A)
read_parts size = do
  head ← read_head size
  objects ← read_items (read_object size) head.objects
  classes ← read_items (read_class head.version size) head.classes
  give (record { objects = objects; classes = classes })

-- the parts of an image of this size, if they have no fault of models
abbrev pub checked : {A : Type 0} → ℕ → Parts A → Option ModelFault → Result (Parts A) ImageDiagnostic
checked size m None = Ok m
checked size m (Some fault) = Err (fault_at (Model fault) at.End size [])

-- the parts that were read, if no byte is left and they have no fault of models
abbrev pub finished : {A : Type 0} → ℕ → Parts A × List ℕ → Result (Parts A) ImageDiagnostic
finished size x =
    if length x.1 == 0 then checked size x.0 (lowest_fault x.0)
    else Err (fault_at (Trailing (offset_of size x.1)) at.End size x.1)

-- the model that the bytes encode, or their first fault with its field
unfoldable pub diagnosed : {A : Type 0} → List ℕ → Result (Parts A) ImageDiagnostic
diagnosed bytes = and_then (read_parts (length bytes) bytes) (finished (length bytes))

-- the model that the bytes encode, or their first fault
unfoldable pub loaded : {A : Type 0} → List ℕ → Result (Parts A) ImageFault
loaded bytes = without_field (diagnosed bytes)

-- the image, in the version that is written, of the model that the bytes encode, or their first fault
abbrev pub upgraded : (A : Type 0) → List ℕ → Result (List ℕ) ImageFault
upgraded A bytes = and_then (loaded {A = A} bytes) (λ m. Ok (image m))
