-- An image is loaded as its model, and only images of a model are loaded as it.
use Rattle.std.proofs.Common.{◌≡◌, ℕ, zero, suc, ◌-◌, ◌^◌, ◌<◌, ◌≤◌, Bool, true, false, not, ◌&&◌, ◌||◌, ◌==◌, eqb, List, [], ◌∷◌, ◌++◌, length, map, Option, Some, None, Ok, Err, Result, refl, sym, ap, subst, ◌∙◌, append-nil, arith}
use Rattle.std.specs.Prelude.{nat_lt}
use Rattle.std.specs.List.{All, AllByRecursion, flat_map, list_all, list_any}
use Rattle.std.specs.Option.{option_or}
use Rattle.std.proofs.lemmas.Bool.{eqb-true, and_parts, ltb-false}
use Rattle.std.proofs.lemmas.Bool.Decides.{nat_tests}
use Rattle.std.proofs.lemmas.List.{nil_from_length}
use Rattle.acta_table.specs.declared.model.Class.{Class}
use Rattle.acta_table.specs.declared.model.Kind.{Kind}
use Rattle.acta_table.specs.declared.model.Kind.TheVariants.{Register, Counter, Elements}
use Rattle.acta_table.specs.declared.model.ModelFault.{ModelFault}
use Rattle.acta_table.specs.declared.model.ModelFault.TheVariants.{TooManyClasses, TooManyObjects, DuplicateName, BadName, BeginKindAtStart, HeirWithoutSpawn, BadPolicyKind}
use Rattle.acta_table.specs.declared.model.Object.{Object}
use Rattle.acta_table.specs.declared.model.Parts.{Parts}
use Rattle.acta_table.specs.declared.policy.Policy.{Policy}
use Rattle.acta_table.specs.declared.policy.Policy.TheVariants.{Refuse, Depend}
use Rattle.acta_table.specs.declared.limits.TheConstants.{LONGEST_NAME, MOST_CLASSES, MOST_OBJECTS}
use Rattle.acta_table.specs.Faults.{is_name, has_twice, object_names, class_names, has_begin_kind, lacks_parents, fault_if, lowest_fault}
use Rattle.acta_table.specs.Policies.{is_bad_policy}
use Rattle.acta_table.specs.Typed.{AreOfModel, HasFirst, HasSets}
use Rattle.acta_image.specs.declared.diagnostic.Field.{Field}
use Rattle.acta_image.specs.declared.diagnostic.Field.TheVariants as at
use Rattle.acta_image.specs.declared.diagnostic.ImageDiagnostic.{ImageDiagnostic}
use Rattle.acta_image.specs.declared.fault.ImageFault.{ImageFault}
use Rattle.acta_image.specs.declared.fault.ImageFault.TheVariants.{Version, Trailing}
use Rattle.acta_image.specs.declared.loading.Head.{Head}
use Rattle.acta_image.specs.declared.version.ImageVersion.{ImageVersion}
use Rattle.acta_image.specs.declared.version.ImageVersion.TheVariants.{One, Two}
use Rattle.acta_image.specs.Codes.{magic, most_may, object_code, policy_code}
use Rattle.acta_image.specs.Spelling.{HasImageIn, class_bytes, head, image, image_in, object_bytes}
use Rattle.acta_image.specs.Reading.{◌>>=◌, Reader, checked, diagnosed, fault_at, finished, give, loaded, read_class, read_head, read_items, read_object, read_parts, version_of, without_field}
use Rattle.acta_image.specs.inside.Gives.{AreBytes}
use Rattle.acta_image.proofs.Formats.{then-ok, then-is, done-is, IsFormat, then-format, last-format, parsed-format, items-format}
use Rattle.acta_image.proofs.FieldCodes.{guard-met, fault-format, field-format, byte-code, number-code, name-code, kind-code, version-code, starts-code, scope-format, commit-format, extent-format, policy-code, magic-format}
use Rattle.acta_image.proofs.RowFormats.{edges-format}

name-long : (name : List ℕ) → is_name name ≡ true → (1 ≤ length name) × (length name ≤ LONGEST_NAME)
name-long name e = grind (arith, nat_tests)

kind-small : (k : Kind) → object_code k ≤ 2
kind-small (Register v) = omega arith
kind-small (Counter v) = omega arith
kind-small Elements = omega arith

policy-small : (p : Policy) → policy_code p ≤ 1
policy-small Refuse = omega arith
policy-small (Depend kinds) = omega arith

-- the spellings of an object, and of a class in a version
abbrev ObjectSaid : {A : Type 0} → Object A → Type 0
ObjectSaid o = (is_name o.name ≡ true) × HasFirst o.kind

abbrev ClassSaid : {A : Type 0} → ImageVersion → Class A → Type 0
ClassSaid version c = (is_name c.name ≡ true) × (HasSets c × (c.may ≤ most_may version))

-- every version's kinds of event are among all
most-small : (version : ImageVersion) → most_may version < 2 ^ 9
most-small One = omega arith
most-small Two = omega arith

object-format : {A : Type 0} (size : ℕ) → IsFormat (read_object {A = A} size) object_bytes ObjectSaid
unfolding read_object
object-format {A} size =
    parsed-format
    (then-format (field-format (byte-code 1 LONGEST_NAME) at.ObjectNameLength size) (λ (o : Object A). length o.name) _ _ _
    (λ len l. then-format (field-format (name-code len) at.ObjectName size) (λ (o : Object A). o.name) _ _ _
    (λ name n. then-format (field-format (byte-code 0 2) at.ObjectKind size) (λ (o : Object A). object_code o.kind) _ _ _
    (λ code c. last-format (field-format (kind-code code c.1) at.FirstValue size) (λ (o : Object A). o.kind) (λ kind. record { name = name; kind = kind }) (λ kind. refl))
    (λ code c o r. r.0.1))
    (λ name n o r. ap (λ (x : Object A). x.name) (sym r.1.1)))
    (λ len l o r. r.0.1))
    object_bytes ObjectSaid (λ o. refl) (λ o ok. (ok.1.0.0, ok.1.1.1.0.0))
    (λ o ok. (name-long o.name ok.0, ((ok.0, refl), ((omega arith, kind-small o.kind), ((ok.1, refl), refl)))))

class-format : {A : Type 0} (version : ImageVersion) (size : ℕ) → IsFormat (read_class {A = A} version size) class_bytes (ClassSaid version)
unfolding read_class
class-format {A} version size =
    parsed-format
    (then-format (field-format (byte-code 1 LONGEST_NAME) at.ClassNameLength size) (λ (c : Class A). length c.name) _ _ _
    (λ len l. then-format (field-format (name-code len) at.ClassName size) (λ (c : Class A). c.name) _ _ _
    (λ name n. then-format (field-format starts-code at.Starts size) (λ (c : Class A). c.starts) _ _ _
    (λ starts s. then-format (field-format (number-code (most_may version) (let small = most-small version in omega (arith, small))) at.May size) (λ (c : Class A). c.may) _ _ _
    (λ may y. then-format (field-format scope-format at.Scope size) (λ (c : Class A). c.scope) _ _ _
    (λ scope o. then-format (field-format (byte-code 0 1) at.Policy size) (λ (c : Class A). policy_code c.policy) _ _ _
    (λ code d. then-format (field-format (policy-code code d.1) at.PolicyKinds size) (λ (c : Class A). c.policy) _ _ _
    (λ policy p. then-format (field-format commit-format at.Commit size) (λ (c : Class A). c.at_commit) _ _ _
    (λ at_commit a. then-format (field-format extent-format at.Delegation size) (λ (c : Class A). c.extent) _ _ _
    (λ extent x. then-format (edges-format at.SpawnEdges at.SpawnEdge size) (λ (c : Class A). c.spawn_edges) _ _ _
    (λ spawn_edges e. last-format (edges-format at.SplitEdges at.SplitEdge size) (λ (c : Class A). c.split_edges) (λ split_edges. record { name = name; starts = starts; may = may; scope = scope; policy = policy; at_commit = at_commit; extent = extent; spawn_edges = spawn_edges; split_edges = split_edges }) (λ split_edges. refl))
    (λ spawn_edges e c r. ap (λ (z : Class A). z.spawn_edges) (sym r.1)))
    (λ extent x c r. ap (λ (z : Class A). z.extent) (sym r.1.1)))
    (λ at_commit a c r. ap (λ (z : Class A). z.at_commit) (sym r.1.1.1)))
    (λ policy p c r. ap (λ (z : Class A). z.policy) (sym r.1.1.1.1)))
    (λ code d c r. r.0.1))
    (λ scope o c r. ap (λ (z : Class A). z.scope) (sym r.1.1.1.1.1.1)))
    (λ may y c r. ap (λ (z : Class A). z.may) (sym r.1.1.1.1.1.1.1)))
    (λ starts s c r. ap (λ (z : Class A). z.starts) (sym r.1.1.1.1.1.1.1.1)))
    (λ name n c r. ap (λ (z : Class A). z.name) (sym r.1.1.1.1.1.1.1.1.1)))
    (λ len l c r. r.0.1))
    class_bytes (ClassSaid version) (λ c. refl)
    (λ c ok. (ok.1.0.0, (record { may = let le = ok.1.1.1.0 in let small = most-small version in omega (arith, le, small); policy = ok.1.1.1.1.1.1.0.0; spawn_edges = ok.1.1.1.1.1.1.1.1.1.0; split_edges = ok.1.1.1.1.1.1.1.1.1.1.0 }, ok.1.1.1.0)))
    (λ c ok. (name-long c.name ok.0, ((ok.0, refl), (tt, (ok.1.1, (tt, ((omega arith, policy-small c.policy), ((ok.1.0.policy, refl), (tt, (tt, (ok.1.0.spawn_edges, (ok.1.0.split_edges, refl))))))))))))

-- the spelling after the magic
abbrev HeadSaid : Head → Type 0
HeadSaid h = ((1 ≤ h.classes) × (h.classes ≤ MOST_CLASSES)) × (h.objects ≤ MOST_OBJECTS)

header-format : (size : ℕ) → IsFormat (read_head size) (λ h. head h.version h.classes h.objects) HeadSaid
unfolding read_head
header-format size =
    parsed-format
    (then-format magic-format (λ (h : Head). magic) _ _ _
    (λ start s. then-format (fault-format version-code Version at.Version size) (λ (h : Head). h.version) _ _ _
    (λ version v. then-format (field-format (byte-code 1 MOST_CLASSES) at.Classes size) (λ (h : Head). h.classes) _ _ _
    (λ classes n. last-format (field-format (number-code MOST_OBJECTS (omega arith)) at.Objects size) (λ (h : Head). h.objects) (λ objects. record { version = version; classes = classes; objects = objects }) (λ objects. refl))
    (λ classes n h r. ap (λ (z : Head). z.classes) (sym r.1)))
    (λ version v h r. ap (λ (z : Head). z.version) (sym r.1.1)))
    (λ start s h r. s))
    _ _ (λ h. refl) (λ h ok. (ok.1.1.0, ok.1.1.1.0)) (λ h ok. (refl, (tt, (ok.0, (ok.1, refl)))))

-- the objects and the classes after a head
abbrev behind : {A : Type 0} → Head → ℕ → Reader (Parts A)
behind h size = do
  objects ← read_items (read_object size) h.objects
  classes ← read_items (read_class h.version size) h.classes
  give (record { objects = objects; classes = classes })

-- the spelling of parts by their fields, in a version
record PartsSaid {A : Type 0} (version : ImageVersion) (m : Parts A) : Type 0 where
  classes : (1 ≤ length m.classes) × (length m.classes ≤ MOST_CLASSES)
  objects : length m.objects ≤ MOST_OBJECTS
  of_objects : AllByRecursion ObjectSaid m.objects
  of_classes : AllByRecursion (ClassSaid version) m.classes

-- the spelling of parts after a head
record IsCurrent {A : Type 0} (h : Head) (m : Parts A) : Type 0 where
  classes : length m.classes ≡ h.classes
  objects : length m.objects ≡ h.objects
  of_objects : AllByRecursion ObjectSaid m.objects
  of_classes : AllByRecursion (ClassSaid h.version) m.classes

behind-format : {A : Type 0} (h : Head) (size : ℕ) → IsFormat (behind {A = A} h size) (λ m. flat_map object_bytes m.objects ++ flat_map class_bytes m.classes) (IsCurrent h)
behind-format {A} h size =
    parsed-format
    (then-format (items-format (object-format {A = A} size) h.objects) (λ (m : Parts A). m.objects) _ _ _
    (λ objects o. last-format (items-format (class-format {A = A} h.version size) h.classes) (λ (m : Parts A). m.classes) (λ classes. record { objects = objects; classes = classes }) (λ classes. refl))
    (λ objects o m r. ap (λ (z : Parts A). z.objects) (sym r.1)))
    _ _ (λ m. refl)
    (λ m ok. record { classes = ok.1.0.0; objects = ok.0.0; of_objects = ok.0.1; of_classes = ok.1.0.1 })
    (λ m ok. ((ok.objects, ok.of_objects), ((ok.classes, ok.of_classes), refl)))

-- ---- a model without fault

or-none : (a b : Option ModelFault) → option_or a b ≡ None → (a ≡ None) × (b ≡ None)
or-none None b e = (refl, e)
or-none (Some x) b e = absurd cc

no-fault : (test : Bool) (fault : ModelFault) → fault_if test fault ≡ None → test ≡ false
no-fault true fault e = absurd cc
no-fault false fault e = refl

not-true : (b : Bool) → not b ≡ false → b ≡ true
not-true true e = refl
not-true false e = absurd cc

names-each : {X : Type 0} (name : X → List ℕ) (xs : List X) → list_all is_name (map name xs) ≡ true → AllByRecursion (λ x. is_name (name x) ≡ true) xs
names-each name [] e = tt
names-each name (x ∷ xs) e = let p = and_parts (is_name (name x)) (list_all is_name (map name xs)) e in (p.0, names-each name xs p.1)

all-both : {X : Type 0} (P Q : X → Type 0) (xs : List X) → AllByRecursion P xs → AllByRecursion Q xs → AllByRecursion (λ x. P x × Q x) xs
all-both P Q [] p q = tt
all-both P Q (x ∷ xs) p q = ((p.0, q.0), all-both P Q xs p.1 q.1)

all-seconds : {X : Type 0} (P Q : X → Type 0) (xs : List X) → AllByRecursion (λ x. P x × Q x) xs → AllByRecursion Q xs
all-seconds P Q [] p = tt
all-seconds P Q (x ∷ xs) p = (p.0.1, all-seconds P Q xs p.1)

all-firsts : {X : Type 0} (P Q : X → Type 0) (xs : List X) → AllByRecursion (λ x. P x × Q x) xs → AllByRecursion P xs
all-firsts P Q [] p = tt
all-firsts P Q (x ∷ xs) p = (p.0.0, all-firsts P Q xs p.1)

-- a property of each element, by places and one by one
each : {X : Type 0} (P : X → Type 0) (xs : List X) → All P xs → AllByRecursion P xs
each P [] all = tt
each P (x ∷ xs) all = (all 0 x (omega arith), each P xs (λ k d within. all (suc k) d (omega arith)))

by-place : {X : Type 0} (P : X → Type 0) (xs : List X) → AllByRecursion P xs → All P xs
by-place P [] each k d within = absurd (omega (arith, within))
by-place P (x ∷ xs) each zero d within = each.0
by-place P (x ∷ xs) each (suc k) d within = by-place P xs each.1 k d (omega (arith, within))

parsed-of : {A : Type 0} (version : ImageVersion) (m : Parts A) → AreOfModel m → HasImageIn version m → PartsSaid version m
parsed-of version m has in_version =
    let p8 = or-none _ (fault_if (list_any (λ class. is_bad_policy class.policy) m.classes) BadPolicyKind) has.faultless in
    let p7 = or-none _ (fault_if (list_any lacks_parents m.classes) HeirWithoutSpawn) p8.0 in
    let p6 = or-none _ (fault_if (list_any has_begin_kind m.classes) BeginKindAtStart) p7.0 in
    let p5 = or-none _ (fault_if (not (list_all is_name (object_names m) && list_all is_name (class_names m))) BadName) p6.0 in
    let p4 = or-none _ (fault_if (has_twice (object_names m) || has_twice (class_names m)) DuplicateName) p5.0 in
    let p3 = or-none _ (fault_if (nat_lt MOST_OBJECTS (length m.objects)) TooManyObjects) p4.0 in
    let p2 = or-none _ (fault_if (nat_lt MOST_CLASSES (length m.classes)) TooManyClasses) p3.0 in
    let none = no-fault _ _ p2.0 in
    let many = ltb-false _ _ (no-fault _ _ p2.1) in
    let objects = ltb-false _ _ (no-fault _ _ p3.1) in
    let names = and_parts _ _ (not-true _ (no-fault _ _ p5.1)) in
    record {
      classes = (some-there (length m.classes) none, many);
      objects = objects;
      of_objects = all-both _ _ m.objects (names-each (λ o. o.name) m.objects names.0) (each _ m.objects has.firsts);
      of_classes = all-both _ _ m.classes (names-each (λ c. c.name) m.classes names.1) (all-both _ _ m.classes (each _ m.classes has.sets) (each _ m.classes in_version));
    }
  where
    some-there : (n : ℕ) → (n == 0) ≡ false → 1 ≤ n
    some-there zero e = absurd cc
    some-there (suc n) e = omega arith

-- each model has an image of the version that is written
written-has : {A : Type 0} (m : Parts A) → AreOfModel m → HasImageIn Two m
written-has m has = by-place _ m.classes (none-past m.classes (each _ m.classes has.sets))
  where
    none-past : {A : Type 0} (cs : List (Class A)) → AllByRecursion HasSets cs → AllByRecursion (λ c. c.may ≤ most_may Two) cs
    none-past [] all = tt
    none-past (c ∷ cs) all = (let lt = all.0.may in omega (arith, lt), none-past cs all.1)

parsed-written : {A : Type 0} (m : Parts A) → AreOfModel m → PartsSaid Two m
parsed-written m has = parsed-of Two m has (written-has m has)

-- names are short
short : {X : Type 0} (name : X → List ℕ) (Other : X → Type 0) (xs : List X) → AllByRecursion (λ x. (is_name (name x) ≡ true) × Other x) xs → AllByRecursion (λ x. length (name x) ≤ LONGEST_NAME) xs
short name Other [] all = tt
short name Other (x ∷ xs) all = ((name-long (name x) all.0.0).1, short name Other xs all.1)

pub short-objects : {A : Type 0} (m : Parts A) → AreOfModel m → All (λ o. length o.name ≤ LONGEST_NAME) m.objects
short-objects m has = by-place _ m.objects (short (λ o. o.name) (λ o. HasFirst o.kind) m.objects (parsed-written m has).of_objects)

pub short-classes : {A : Type 0} (m : Parts A) → AreOfModel m → All (λ c. length c.name ≤ LONGEST_NAME) m.classes
short-classes m has = by-place _ m.classes (short (λ c. c.name) (λ c. HasSets c × (c.may ≤ most_may Two)) m.classes (parsed-written m has).of_classes)

-- and few
pub few-names : {A : Type 0} (m : Parts A) → AreOfModel m → (length m.classes ≤ MOST_CLASSES) × (length m.objects ≤ MOST_OBJECTS)
few-names m has = let parsed = parsed-written m has in (parsed.classes.1, parsed.objects)

-- ---- the laws

diagnosed-again : {A : Type 0} (version : ImageVersion) (m : Parts A) → AreOfModel m → HasImageIn version m → diagnosed (image_in version m) ≡ Ok m
unfolding diagnosed read_parts image_in
diagnosed-again {A} version m has in_version =
    let size = length (image_in version m) in
    let parsed = parsed-of version m has in_version in
    let h : Head = record { version = version; classes = length m.classes; objects = length m.objects } in
    let text = flat_map object_bytes m.objects ++ flat_map class_bytes m.classes in
    let first = (header-format size).again h text (parsed.classes, parsed.objects) in
    let others = (behind-format {A = A} h size).again m [] (record { classes = refl; objects = refl; of_objects = parsed.of_objects; of_classes = parsed.of_classes }) in
    let whole = ap (λ (rest : List ℕ). behind {A = A} h size rest) (sym (append-nil text)) ∙ others in
    let read = then-is (read_head size (image_in version m)) (λ (x : Head × List ℕ). behind {A = A} x.0 size x.1) (h, text) (Ok (m, [])) first whole in
    then-is (read_parts {A = A} size (image_in version m)) (finished size) (m, []) (Ok m) read (ap (λ (o : Option ModelFault). checked size m o) has.faultless)

pub image-again : {A : Type 0} (version : ImageVersion) (m : Parts A) → AreOfModel m → HasImageIn version m → loaded (image_in version m) ≡ Ok m
unfolding loaded
image-again {A} version m has in_version = ap without_field (diagnosed-again version m has in_version)

pub written-again : {A : Type 0} (m : Parts A) → AreOfModel m → loaded (image m) ≡ Ok m
written-again m has = image-again Two m has (written-has m has)

checked-ok : {A : Type 0} (size : ℕ) (m n : Parts A) (o : Option ModelFault) → checked size m o ≡ Ok n → (o ≡ None) × (m ≡ n)
checked-ok size m n None e = (refl, done-is m n e)
checked-ok size m n (Some fault) e = absurd cc

-- without the field, a result has a fault exactly if it had one with the field
without_field-ok : {X : Type 0} (r : Result X ImageDiagnostic) (x : X) → without_field r ≡ Ok x → r ≡ Ok x
without_field-ok (Ok y) x e = cc
without_field-ok (Err d) x e = absurd cc

pub without_field-err : {X : Type 0} (r : Result X ImageDiagnostic) (fault : ImageFault) → without_field r ≡ Err fault → (d : ImageDiagnostic) × (r ≡ Err d) × (d.fault ≡ fault)
without_field-err (Ok y) fault e = absurd cc
without_field-err (Err d) fault e = (d, refl, cc)

-- an image names its version
version-named : (version : ImageVersion) (classes objects : ℕ) (rest : List ℕ) → version_of (head version classes objects ++ rest) ≡ version
version-named One classes objects rest = refl
version-named Two classes objects rest = refl

pub image-only : {A : Type 0} (m : Parts A) (bytes : List ℕ) → AreBytes bytes → loaded bytes ≡ Ok m → AreOfModel m × (HasImageIn (version_of bytes) m × (image_in (version_of bytes) m ≡ bytes))
unfolding loaded diagnosed read_parts image_in
image-only {A} m bytes fits e =
    let size = length bytes in
    let a = then-ok (read_parts {A = A} size bytes) (finished size) m (without_field-ok (diagnosed bytes) m e) in
    let n = a.0.0 in
    let g = guard-met (eqb (length a.0.1) 0) (fault_at (Trailing (size - length a.0.1)) at.End size a.0.1) (checked size n (lowest_fault n)) m a.2 in
    let c = checked-ok size n m (lowest_fault n) g.1 in
    let nothing : a.0.1 ≡ [] = nil_from_length a.0.1 (eqb-true _ _ g.0) in
    let b = then-ok (read_head size bytes) (λ (x : Head × List ℕ). behind {A = A} x.0 size x.1) a.0 a.1 in
    let h = b.0.0 in
    let s = (header-format size).takes bytes h b.0.1 fits b.1 in
    let t = (behind-format {A = A} h size).takes b.0.1 n a.0.1 s.0.fits b.2 in
    let has : AreOfModel n = record { firsts = by-place _ n.objects (all-seconds _ _ n.objects t.1.of_objects); sets = by-place _ n.classes (all-firsts _ _ n.classes (all-seconds _ _ n.classes t.1.of_classes)); faultless = c.0 } in
    let in_version : HasImageIn h.version n = by-place _ n.classes (all-seconds _ _ n.classes (all-seconds _ _ n.classes t.1.of_classes)) in
    let begun = λ (classes objects : ℕ). head h.version classes objects in
    let text = flat_map object_bytes n.objects ++ flat_map class_bytes n.classes in
    let named : version_of bytes ≡ h.version = ap version_of s.0.parts ∙ version-named h.version h.classes h.objects b.0.1 in
    let rest : b.0.1 ≡ text = t.0.parts ∙ ap (λ (r : List ℕ). text ++ r) nothing ∙ append-nil text in
    let same : image_in h.version n ≡ bytes = ap (λ (k : ℕ). begun k (length n.objects) ++ text) t.1.classes ∙ ap (λ (k : ℕ). begun h.classes k ++ text) t.1.objects ∙ sym (s.0.parts ∙ ap (λ (r : List ℕ). begun h.classes h.objects ++ r) rest) in
    subst (λ (x : Parts A). AreOfModel x × (HasImageIn (version_of bytes) x × (image_in (version_of bytes) x ≡ bytes))) c.1
    (has, subst (λ (v : ImageVersion). HasImageIn v n × (image_in v n ≡ bytes)) (sym named) (in_version, same))
