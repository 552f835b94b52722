-- Examples: a model's image in both versions, and the faults of bad images.
use Rattle.std.specs.Prelude.{ℕ, pos, true, false, List, [], ◌∷◌, ◌++◌, map, take, slice_set, Result, Ok, Err, codes, ◌≡◌, refl}
use Rattle.acta_table.specs.declared.model.AtCommit.TheVariants.{Keeps}
use Rattle.acta_table.specs.declared.model.Class.{Class}
use Rattle.acta_table.specs.declared.model.Extent.TheVariants.{Whole}
use Rattle.acta_table.specs.declared.model.Kind.TheVariants.{Register}
use Rattle.acta_table.specs.declared.model.ModelFault.TheVariants.{HeirWithoutSpawn}
use Rattle.acta_table.specs.declared.model.Parts.{Parts}
use Rattle.acta_table.specs.declared.model.Scope.TheVariants.{Others}
use Rattle.acta_table.specs.declared.policy.Policy.TheVariants.{Refuse}
use Rattle.acta_image.specs.declared.fault.ImageFault.{ImageFault}
use Rattle.acta_image.specs.declared.fault.ImageFault.TheVariants.{Magic, Version, Truncated, BadField, Trailing, Model}
use Rattle.acta_image.specs.declared.diagnostic.Field.{Field}
use Rattle.acta_image.specs.declared.diagnostic.Field.TheVariants as at
use Rattle.acta_image.specs.declared.diagnostic.ImageDiagnostic.{ImageDiagnostic}
use Rattle.acta_image.specs.declared.version.ImageVersion.TheVariants.{One}
use Rattle.acta_image.specs.Spelling.{image, image_in}
use Rattle.acta_image.specs.Reading.{read_magic, read_head, read_edges, read_object, read_class, read_parts, diagnosed, loaded, upgraded}

-- a class that starts by begin, with these bits of allowed events
abbrev class : List ℕ → ℕ → Class (Unit {0})
class name may = record { name = name; starts = record { begin = true; spawned = false; split = false }; may = may; scope = Others; policy = Refuse; at_commit = Keeps; extent = Whole; spawn_edges = []; split_edges = [] }

-- one register, and transactions that begin, operate, commit and abort
abbrev flat : Parts (Unit {0})
flat = record { objects = record { name = codes "x"; kind = Register (pos 0) } ∷ []; classes = class (codes "flat") 224 ∷ [] }

abbrev flat_image : List ℕ
flat_image =
    65 ∷ 67 ∷ 84 ∷ 65 ∷ 2 ∷ 1 ∷ 0 ∷ 1 ∷ 1 ∷ 120 ∷ 0 ∷ 0 ∷ 0 ∷ 0 ∷ 0 ∷ 4 ∷ 102 ∷ 108 ∷ 97 ∷ 116 ∷ 1 ∷ 0 ∷ 224 ∷ 0 ∷ 0
    ∷ 0 ∷ 0 ∷ 0 ∷ 0 ∷ 0 ∷ 0 ∷ []

flat_spelled : image flat ≡ flat_image
unfolding image_in
flat_spelled = refl

-- version 1 has another byte after the magic, and is otherwise the same
abbrev old_image : List ℕ
old_image = slice_set flat_image 4 1

old_spelled : image_in One flat ≡ old_image
unfolding image_in
old_spelled = refl

abbrev read : List ℕ → Result (Parts (Unit {0})) ImageFault
read bytes = loaded bytes

flat_read : read flat_image ≡ Ok flat
unfolding read_magic read_head read_edges read_object read_class read_parts diagnosed loaded
flat_read = refl

old_read : read old_image ≡ Ok flat
unfolding read_magic read_head read_edges read_object read_class read_parts diagnosed loaded
old_read = refl

-- an image of version 1 is upgraded to that of version 2, which stays unchanged
flat_upgraded : map (λ bytes. upgraded (Unit {0}) bytes) (old_image ∷ flat_image ∷ []) ≡ Ok flat_image ∷ Ok flat_image ∷ []
unfolding read_magic read_head read_edges read_object read_class read_parts diagnosed loaded image_in
flat_upgraded = refl

-- 256 in the allowed events is a permit, which version 1 lacks; version 2 allows nothing above it
permits : map (λ (p : ℕ × ℕ). read (slice_set (slice_set flat_image 4 p.0) 21 p.1)) ((2, 1) ∷ (1, 1) ∷ (2, 2) ∷ [])
    ≡ Ok (record flat { classes = class (codes "flat") 480 ∷ [] }) ∷ Err (BadField 21) ∷ Err (BadField 21) ∷ []
unfolding read_magic read_head read_edges read_object read_class read_parts diagnosed loaded
permits = refl

-- shorter by any number of bytes
abbrev lengths : List ℕ
lengths = 0 ∷ 3 ∷ 4 ∷ 5 ∷ 6 ∷ 7 ∷ 8 ∷ 9 ∷ 10 ∷ 13 ∷ 15 ∷ 16 ∷ 19 ∷ 21 ∷ 22 ∷ 25 ∷ 29 ∷ 30 ∷ []

cut_short : map (λ n. read (take n flat_image)) lengths ≡ map (λ n. Err Truncated) lengths
unfolding read_magic read_head read_edges read_object read_class read_parts diagnosed loaded
cut_short = refl

-- one byte more, another magic, version, scope, and what a commit does
one_more : read (flat_image ++ 0 ∷ []) ≡ Err (Trailing 31)
unfolding read_magic read_head read_edges read_object read_class read_parts diagnosed loaded
one_more = refl

magic_first : map (λ bytes. read bytes) ((65 ∷ 88 ∷ []) ∷ (65 ∷ 67 ∷ []) ∷ slice_set flat_image 3 0 ∷ []) ≡ Err Magic ∷ Err Truncated ∷ Err Magic ∷ []
unfolding read_magic read_head read_edges read_object read_class read_parts diagnosed loaded
magic_first = refl

turned : map (λ (p : ℕ × ℕ). read (slice_set flat_image p.0 p.1)) ((4, 0) ∷ (4, 3) ∷ (5, 0) ∷ (5, 17) ∷ (7, 0) ∷ (8, 33) ∷ (9, 48) ∷ (10, 3) ∷ (20, 8) ∷ (21, 2) ∷ (23, 2) ∷ (24, 2) ∷ (26, 1) ∷ (27, 1) ∷ (27, 2) ∷ (28, 2) ∷ (29, 25) ∷ [])
    ≡ Err Version ∷ Err Version ∷ Err (BadField 5) ∷ Err (BadField 5) ∷ Err (BadField 15) ∷ Err (BadField 8) ∷ Err (BadField 9) ∷ Err (BadField 10) ∷ Err (BadField 20) ∷ Err (BadField 21) ∷ Err (BadField 23) ∷ Err (BadField 24) ∷ Err (BadField 25) ∷ Err (Model HeirWithoutSpawn) ∷ Err (BadField 27) ∷ Err (BadField 28) ∷ Err (BadField 29) ∷ []
unfolding read_magic read_head read_edges read_object read_class read_parts diagnosed loaded
turned = refl

-- the faulty field and its offset: truncated, with a trailing byte, with a wrong byte, without a valid model
abbrev placed : Result (Parts (Unit {0})) ImageDiagnostic → Field × ℕ
placed (Ok m) = (at.End, 0)
placed (Err d) = (d.field, d.offset)

abbrev placed_in : List ℕ → Field × ℕ
placed_in bytes = placed (diagnosed bytes)

placed_short : map (λ n. placed_in (take n flat_image)) (0 ∷ 3 ∷ 4 ∷ 5 ∷ 7 ∷ 8 ∷ 9 ∷ 13 ∷ 15 ∷ 19 ∷ 22 ∷ 26 ∷ 30 ∷ [])
    ≡ (at.Magic, 0) ∷ (at.Magic, 0) ∷ (at.Version, 4) ∷ (at.Classes, 5) ∷ (at.Objects, 6) ∷ (at.ObjectNameLength, 8) ∷ (at.ObjectName, 9) ∷ (at.FirstValue, 11) ∷ (at.ClassNameLength, 15) ∷ (at.ClassName, 16) ∷ (at.May, 21) ∷ (at.PolicyKinds, 25) ∷ (at.SplitEdges, 30) ∷ []
unfolding read_magic read_head read_edges read_object read_class read_parts diagnosed
placed_short = refl

placed_turned : map (λ (p : ℕ × ℕ). placed_in (slice_set flat_image p.0 p.1)) ((0, 0) ∷ (4, 3) ∷ (10, 3) ∷ (22, 0) ∷ (26, 1) ∷ (27, 1) ∷ (29, 1) ∷ (29, 25) ∷ [])
    ≡ (at.Magic, 0) ∷ (at.Version, 4) ∷ (at.ObjectKind, 10) ∷ (at.End, 0) ∷ (at.PolicyKinds, 25) ∷ (at.End, 31) ∷ (at.SpawnEdge, 30) ∷ (at.SpawnEdges, 29) ∷ []
unfolding read_magic read_head read_edges read_object read_class read_parts diagnosed
placed_turned = refl

placed_after : placed_in (flat_image ++ 0 ∷ []) ≡ (at.End, 31)
unfolding read_magic read_head read_edges read_object read_class read_parts diagnosed
placed_after = refl
