-- Each field of fixed length: the value of its bytes, and the bytes of its values.
use Rattle.std.proofs.Common.{◌≡◌, ℕ, zero, suc, ◌^◌, ◌<◌, ◌≤◌, Bool, true, false, cond, ltb, leb, ◌&&◌, ◌==◌, List, [], ◌∷◌, ◌++◌, length, take, drop, Option, Some, None, Result, Ok, Err, refl, sym, ap, subst, ◌∙◌, arith, ℤ}
use Rattle.std.specs.Prelude.{nat_le, nat_eq, bit_and, not, ◌-◌, FitsSigned, ⊤, if◌then◌else◌, option_map, slice_index}
use Rattle.std.specs.Int.{w16, w32, from_be_bytes, to_be_bytes, cast_unsigned, cast_signed}
use Rattle.std.specs.Str.{bytes_eq}
use Rattle.std.proofs.lemmas.Bool.{ltb-false, le-ltb, leb-true, le-leb, eqb-true, and_parts}
use Rattle.std.proofs.lemmas.List.{take_all, take_at, drop_at, take-append-drop, length-append, length-take}
use Rattle.std.proofs.lemmas.Nat.{be_bytes_2, be_bytes_4, from_be_bytes-to_be_bytes_2, from_be_bytes-to_be_bytes_4}
use Rattle.std.proofs.lemmas.Int.{of_z-to_z, to_z-of_z}
use Rattle.std.proofs.Math.Facts.{Fits-of_z, sfits_to_z}
use Rattle.std.proofs.lemmas.Slice.Eq.{bytes_eq-Decides}
use Rattle.acta_table.specs.declared.model.AtCommit.{AtCommit}
use Rattle.acta_table.specs.declared.model.AtCommit.TheVariants.{Keeps, ToParent}
use Rattle.acta_table.specs.declared.model.Extent.{Extent}
use Rattle.acta_table.specs.declared.model.Extent.TheVariants.{Whole, Any}
use Rattle.acta_table.specs.declared.model.Kind.{Kind}
use Rattle.acta_table.specs.declared.model.Kind.TheVariants.{Register, Counter, Elements}
use Rattle.acta_table.specs.declared.model.Scope.{Scope}
use Rattle.acta_table.specs.declared.model.Scope.TheVariants.{Others, NonAncestors}
use Rattle.acta_table.specs.declared.policy.Policy.{Policy}
use Rattle.acta_table.specs.declared.policy.Policy.TheVariants.{Refuse, Depend}
use Rattle.acta_table.specs.Faults.{is_name}
use Rattle.acta_table.specs.Typed.{HasDeps, HasFirst}
use Rattle.acta_image.specs.declared.diagnostic.Field.{Field}
use Rattle.acta_image.specs.declared.diagnostic.Field.TheVariants as at
use Rattle.acta_image.specs.declared.diagnostic.ImageDiagnostic.{ImageDiagnostic}
use Rattle.acta_image.specs.declared.fault.ImageFault.{ImageFault}
use Rattle.acta_image.specs.declared.fault.ImageFault.TheVariants.{BadField, Magic, Truncated}
use Rattle.acta_image.specs.declared.version.ImageVersion.{ImageVersion}
use Rattle.acta_image.specs.declared.version.ImageVersion.TheVariants.{One, Two}
use Rattle.acta_image.specs.Codes.{magic, version_number, object_code, first_bits, starts_bits, scope_code, policy_code, policy_bits, commit_code, extent_code}
use Rattle.acta_image.specs.Spelling.{byte}
use Rattle.acta_image.specs.Reading.{fault_at, found_or, field_or, field, some_if, byte_in, number_to, name_by, kind_in, starts_by, starts_in, choice_in, scope_in, commit_in, extent_in, policy_in, read_magic, version_in}
use Rattle.acta_image.specs.inside.Gives.{AreBytes}
use Rattle.acta_image.proofs.Formats.{bytes-drop, bytes-take, done, done-is, Takes, IsFormat}

pub guard-ok : {X : Type 0} (b : Bool) (d : ImageDiagnostic) (r : Result X ImageDiagnostic) (y : X) → cond b (Err d) r ≡ Ok y → (b ≡ false) × (r ≡ Ok y)
guard-ok true d r y e = absurd cc
guard-ok false d r y e = (refl, e)

pub guard-met : {X : Type 0} (b : Bool) (d : ImageDiagnostic) (r : Result X ImageDiagnostic) (y : X) → cond b r (Err d) ≡ Ok y → (b ≡ true) × (r ≡ Ok y)
guard-met true d r y e = (refl, e)
guard-met false d r y e = absurd cc

pub some-ok : {X : Type 0} (b : Bool) (x y : X) → some_if b x ≡ Some y → (b ≡ true) × (x ≡ y)
some-ok true x y e = (refl, cc)
some-ok false x y e = absurd cc

abbrev pub some : {X : Type 0} → X → Option X
some x = Some x

pub some-is : {X : Type 0} (x y : X) → some x ≡ some y → x ≡ y
some-is x y e = cc

pub found-ok : {X : Type 0} (d : ImageDiagnostic) (rest : List ℕ) (o : Option X) (x : X) (r : List ℕ) → found_or d rest o ≡ Ok (x, r) → (o ≡ Some x) × (rest ≡ r)
found-ok d rest None x r e = absurd cc
found-ok {X} d rest (Some y) x r e =
    let p : (y, rest) ≡ (x, r) = done-is (y, rest) (x, r) e in
    (ap (λ (q : X × List ℕ). Some q.0) p, ap (λ (q : X × List ℕ). q.1) p)

-- n bytes encode an allowed value, and each value has one encoding
pub record IsCode {X : Type 0} (n : ℕ) (read : List ℕ → Option X) (spell : X → List ℕ) (Allowed : X → Type 0) : Type 0 where
  pub len : (x : X) → Allowed x → length (spell x) ≡ n
  pub again : (x : X) → Allowed x → read (spell x) ≡ Some x
  pub back : (bs : List ℕ) → AreBytes bs → length bs ≡ n → (x : X) → read bs ≡ Some x → (spell x ≡ bs) × Allowed x

-- a field of such bytes
module _ {X : Type 0} {n : ℕ} {read : List ℕ → Option X} {spell : X → List ℕ} {Allowed : X → Type 0} (code : IsCode n read spell Allowed) where
  field-takes : (d : ImageFault) (which : Field) (size : ℕ) (bytes : List ℕ) (x : X) (rest : List ℕ) → AreBytes bytes → field_or d which size n read bytes ≡ Ok (x, rest) → Takes bytes (spell x) rest × Allowed x
  field-takes d which size bytes x rest fits e =
      let g = guard-ok (ltb (length bytes) n) (fault_at Truncated which size bytes) (found_or (fault_at d which size bytes) (drop n bytes) (read (take n bytes))) (x, rest) e in
      let f = found-ok (fault_at d which size bytes) (drop n bytes) (read (take n bytes)) x rest g.1 in
      let long : n ≤ length bytes = ltb-false _ _ g.0 in
      let b = code.back (take n bytes) (bytes-take n bytes fits) (omega (arith, length-take n bytes)) x f.0 in
      (record { parts = rw (b.0, ← f.1) (sym (take-append-drop n bytes)); fits = rw (← f.1) (bytes-drop n bytes fits) }, b.1)

  field-again : (d : ImageFault) (which : Field) (size : ℕ) (x : X) (rest : List ℕ) → Allowed x → field_or d which size n read (spell x ++ rest) ≡ Ok (x, rest)
  field-again d which size x rest ok =
      let len = code.len x ok in
      let long : ltb (length (spell x ++ rest)) n ≡ false = le-ltb _ _ (omega (arith, length-append (spell x) rest)) in
      rw (long, take_at (spell x) rest n len, drop_at (spell x) rest n len, code.again x ok) refl

  pub fault-format : (d : ImageFault) (which : Field) (size : ℕ) → IsFormat (field_or d which size n read) spell Allowed
  fault-format d which size = record { takes = field-takes d which size; again = field-again d which size }

  pub field-format : (which : Field) (size : ℕ) → IsFormat (field which size n read) spell Allowed
  field-format which size = record { takes = λ bytes. field-takes _ which size bytes; again = λ x rest. field-again _ which size x rest }

-- ---- the values of each field's bytes

pub byte-code : (least most : ℕ) → IsCode 1 (byte_in least most) byte (λ b. (least ≤ b) × (b ≤ most))
byte-code least most = record {
  len = λ b ok. refl;
  again = λ b ok. rw (le-leb _ _ ok.0, le-leb _ _ ok.1) refl;
  back = λ bs fits one b e. byte-back bs one b e;
}
  where
    byte-back : (bs : List ℕ) → length bs ≡ 1 → (b : ℕ) → byte_in least most bs ≡ Some b → (byte b ≡ bs) × ((least ≤ b) × (b ≤ most))
    byte-back [] one b e = absurd (omega (arith, one))
    byte-back (x ∷ y ∷ more) one b e = absurd (omega (arith, one))
    byte-back (x ∷ []) one b e =
        let s = some-ok (leb least x && leb x most) x b e in
        let t = and_parts (leb least x) (leb x most) s.0 in
        (ap byte (sym s.1), subst (λ (z : ℕ). (least ≤ z) × (z ≤ most)) s.1 (leb-true _ _ t.0, leb-true _ _ t.1))

pub number-code : (most : ℕ) → most < 2 ^ 16 → IsCode 2 (number_to most) (to_be_bytes w16) (λ n. n ≤ most)
number-code most small = record {
  len = λ n ok. refl;
  again = λ n ok. rw (from_be_bytes-to_be_bytes_2 n (omega (arith, ok, small)), le-leb _ _ ok) refl;
  back = λ bs fits two n e. let s = some-ok (leb (from_be_bytes w16 bs) most) (from_be_bytes w16 bs) n e in (be_bytes_2 bs n two fits (sym s.1), subst (λ (x : ℕ). x ≤ most) s.1 (leb-true _ _ s.0));
}

pub name-code : (n : ℕ) → IsCode n name_by (λ name. name) (λ name. (is_name name ≡ true) × (length name ≡ n))
name-code n = record {
  len = λ name ok. ok.1;
  again = λ name ok. rw ok.0 refl;
  back = λ bs fits len name e. let s = some-ok (is_name bs) bs name e in (sym s.1, subst (λ (x : List ℕ). (is_name x ≡ true) × (length x ≡ n)) s.1 (s.0, len));
}

first-again : (v : ℤ) → FitsSigned w32 v → cast_signed w32 (from_be_bytes w32 (to_be_bytes w32 (cast_unsigned w32 v))) ≡ v
first-again v fits = let f = Fits-of_z fits in let lt : cast_unsigned w32 v < 2 ^ 32 = f.fits in rw (from_be_bytes-to_be_bytes_4 (cast_unsigned w32 v) lt) (to_z-of_z w32 v fits)

four-below : (bs : List ℕ) → AreBytes bs → from_be_bytes w32 bs < 2 ^ 32
four-below bs fits = omega (arith, fits 0, fits 1, fits 2, fits 3)

signed-back : (bs : List ℕ) → AreBytes bs → length bs ≡ 4 → to_be_bytes w32 (cast_unsigned w32 (cast_signed w32 (from_be_bytes w32 bs))) ≡ bs
signed-back bs fits four = rw (of_z-to_z w32 (from_be_bytes w32 bs) (four-below bs fits)) (be_bytes_4 bs (from_be_bytes w32 bs) four fits refl)

abbrev pub IsOf : ℕ → Kind → Type 0
IsOf code k = HasFirst k × (object_code k ≡ code)

kind-again : (code : ℕ) (k : Kind) → IsOf code k → kind_in code (to_be_bytes w32 (first_bits k)) ≡ Some k
kind-again code (Register v) ok = rw (← ok.1) (ap (λ (z : ℤ). some (Register z)) (first-again v ok.0))
kind-again code (Counter v) ok = rw (← ok.1) (ap (λ (z : ℤ). some (Counter z)) (first-again v ok.0))
kind-again code Elements ok = rw (← ok.1) refl

kind-back : (code : ℕ) → code ≤ 2 → (bs : List ℕ) → AreBytes bs → length bs ≡ 4 → (k : Kind) → kind_in code bs ≡ Some k → (to_be_bytes w32 (first_bits k) ≡ bs) × IsOf code k
kind-back zero le bs fits four k e =
    subst (λ (x : Kind). (to_be_bytes w32 (first_bits x) ≡ bs) × IsOf 0 x) (some-is (Register (cast_signed w32 (from_be_bytes w32 bs))) k e) (signed-back bs fits four, (sfits_to_z {w = w32} (record { fits = four-below bs fits }), refl))
kind-back (suc zero) le bs fits four k e =
    subst (λ (x : Kind). (to_be_bytes w32 (first_bits x) ≡ bs) × IsOf 1 x) (some-is (Counter (cast_signed w32 (from_be_bytes w32 bs))) k e) (signed-back bs fits four, (sfits_to_z {w = w32} (record { fits = four-below bs fits }), refl))
kind-back (suc (suc zero)) le bs fits four k e =
    let s = some-ok (from_be_bytes w32 bs == 0) Elements k e in
    subst (λ (x : Kind). (to_be_bytes w32 (first_bits x) ≡ bs) × IsOf 2 x) s.1 (be_bytes_4 bs 0 four fits (sym (eqb-true _ _ s.0)), (tt, refl))
kind-back (suc (suc (suc n))) le bs fits four k e = absurd (omega (arith, le))

pub kind-code : (code : ℕ) → code ≤ 2 → IsCode 4 (kind_in code) (λ k. to_be_bytes w32 (first_bits k)) (IsOf code)
kind-code code le = record {
  len = λ k ok. refl;
  again = λ k ok. kind-again code k ok;
  back = λ bs fits four k e. kind-back code le bs fits four k e;
}

-- the version, by its number
version-back : (bs : List ℕ) → length bs ≡ 1 → (v : ImageVersion) → version_in bs ≡ Some v → byte (version_number v) ≡ bs
version-back [] one v e = absurd (omega (arith, one))
version-back (x ∷ y ∷ more) one v e = absurd (omega (arith, one))
version-back (x ∷ []) one v e = of_test (x == 1) refl e
  where
    of_test : (t : Bool) → (x == 1) ≡ t → (if t then Some One else some_if (x == 2) Two) ≡ Some v → byte (version_number v) ≡ x ∷ []
    of_test true is f = ap (λ (w : ImageVersion). byte (version_number w)) (sym (some-is One v f)) ∙ ap byte (sym (eqb-true _ _ is))
    of_test false is f = let s = some-ok (x == 2) Two v f in ap (λ (w : ImageVersion). byte (version_number w)) (sym s.1) ∙ ap byte (sym (eqb-true _ _ s.0))

version-again : (v : ImageVersion) → version_in (byte (version_number v)) ≡ Some v
version-again One = refl
version-again Two = refl

pub version-code : IsCode 1 version_in (λ v. byte (version_number v)) (λ v. ⊤)
version-code = record {
  len = λ v ok. refl;
  again = λ v ok. version-again v;
  back = λ bs fits one v e. (version-back bs one v e, tt);
}

-- one byte that is read by a function of its number
of-byte : {X : Type 0} (most : ℕ) (of : ℕ → X) (code : X → ℕ) → ((x : X) → code x ≤ most) → ((x : X) → of (code x) ≡ x) → ((b : ℕ) → b ≤ most → code (of b) ≡ b)
    → IsCode 1 (λ bs. option_map of (byte_in 0 most bs)) (λ x. byte (code x)) (λ x. ⊤)
of-byte {X} most of code within again back = record {
  len = λ x ok. refl;
  again = λ x ok.
      ap (λ (b : Bool). option_map of (some_if (b && nat_le (code x) most) (code x))) (le-leb 0 (code x) (omega arith))
      ∙ ap (λ (b : Bool). option_map of (some_if b (code x))) (le-leb _ _ (within x)) ∙ ap some (again x);
  back = λ bs fits one x e.
      let m = mapped (byte_in 0 most bs) x e in
      let r = (byte-code 0 most).back bs fits one m.0 m.1 in
      (ap (λ (y : X). byte (code y)) (sym m.2) ∙ ap byte (back m.0 r.1.1) ∙ r.0, tt);
}
  where
    mapped : (o : Option ℕ) (x : X) → option_map of o ≡ Some x → (b : ℕ) × (o ≡ Some b) × (of b ≡ x)
    mapped None x e = absurd cc
    mapped (Some b) x e = (b, refl, some-is (of b) x e)

starts-within : (b c d : Bool) → starts_bits (record { begin = b; spawned = c; split = d }) ≤ 7
starts-within true true true = omega arith
starts-within true true false = omega arith
starts-within true false true = omega arith
starts-within true false false = omega arith
starts-within false true true = omega arith
starts-within false true false = omega arith
starts-within false false true = omega arith
starts-within false false false = omega arith

starts-again : (b c d : Bool) → starts_by (starts_bits (record { begin = b; spawned = c; split = d })) ≡ record { begin = b; spawned = c; split = d }
starts-again true true true = refl
starts-again true true false = refl
starts-again true false true = refl
starts-again true false false = refl
starts-again false true true = refl
starts-again false true false = refl
starts-again false false true = refl
starts-again false false false = refl

-- the bits of a byte, each by itself
pub starts-bits : (b : ℕ) → b ≤ 7 → starts_by b ≡ record { begin = not (nat_eq (bit_and b 1) 0); spawned = not (nat_eq (bit_and b 2) 0); split = not (nat_eq (bit_and b 4) 0) }
starts-bits zero le = refl
starts-bits (suc zero) le = refl
starts-bits (suc (suc zero)) le = refl
starts-bits (suc (suc (suc zero))) le = refl
starts-bits (suc (suc (suc (suc zero)))) le = refl
starts-bits (suc (suc (suc (suc (suc zero))))) le = refl
starts-bits (suc (suc (suc (suc (suc (suc zero)))))) le = refl
starts-bits (suc (suc (suc (suc (suc (suc (suc zero))))))) le = refl
starts-bits (suc (suc (suc (suc (suc (suc (suc (suc n)))))))) le = absurd (omega (arith, le))

-- how transactions may start, by a byte of at most three bits
pub starts-field : (size : ℕ) (bytes : List ℕ) (b : ℕ) (rest : List ℕ) → field at.Starts size 1 (byte_in 0 7) bytes ≡ Ok (b, rest)
    → field at.Starts size 1 starts_in bytes ≡ Ok (record { begin = not (nat_eq (bit_and b 1) 0); spawned = not (nat_eq (bit_and b 2) 0); split = not (nat_eq (bit_and b 4) 0) }, rest)
starts-field size bytes b rest e =
    let fault = fault_at (BadField (size - length bytes)) at.Starts size bytes in
    let g = guard-ok (ltb (length bytes) 1) (fault_at Truncated at.Starts size bytes) (found_or fault (drop 1 bytes) (byte_in 0 7 (take 1 bytes))) (b, rest) e in
    let f = found-ok fault (drop 1 bytes) (byte_in 0 7 (take 1 bytes)) b rest g.1 in
    let first = slice_index (take 1 bytes) 0 in
    let s = some-ok (leb 0 first && leb first 7) first b f.0 in
    let small : b ≤ 7 = subst (λ (x : ℕ). x ≤ 7) s.1 (leb-true _ _ (and_parts (leb 0 first) (leb first 7) s.0).1) in
    rw (g.0, f.0, f.1) (ap (λ starts. done (starts, rest)) (starts-bits b small))

starts-back : (b : ℕ) → b ≤ 7 → starts_bits (starts_by b) ≡ b
starts-back zero le = refl
starts-back (suc zero) le = refl
starts-back (suc (suc zero)) le = refl
starts-back (suc (suc (suc zero))) le = refl
starts-back (suc (suc (suc (suc zero)))) le = refl
starts-back (suc (suc (suc (suc (suc zero))))) le = refl
starts-back (suc (suc (suc (suc (suc (suc zero)))))) le = refl
starts-back (suc (suc (suc (suc (suc (suc (suc zero))))))) le = refl
starts-back (suc (suc (suc (suc (suc (suc (suc (suc n)))))))) le = absurd (omega (arith, le))

pub starts-code : IsCode 1 starts_in (λ s. byte (starts_bits s)) (λ s. ⊤)
starts-code = of-byte 7 starts_by starts_bits (λ s. starts-within s.begin s.spawned s.split) (λ s. starts-again s.begin s.spawned s.split) starts-back

-- one of two
choice-code : {X : Type 0} (x y : X) (code : X → ℕ) → code x ≡ 0 → code y ≡ 1 → ((z : X) → code z ≤ 1) → ((z : X) → (if code z == 0 then x else y) ≡ z) → IsCode 1 (choice_in x y) (λ z. byte (code z)) (λ z. ⊤)
choice-code {X} x y code zeroth first within again = of-byte 1 (λ b. if b == 0 then x else y) code within again choice-back
  where
    choice-back : (b : ℕ) → b ≤ 1 → code (if b == 0 then x else y) ≡ b
    choice-back zero le = zeroth
    choice-back (suc zero) le = first
    choice-back (suc (suc b)) le = absurd (omega (arith, le))

scope-within : (s : Scope) → scope_code s ≤ 1
scope-within Others = omega arith
scope-within NonAncestors = omega arith

scope-again : (s : Scope) → (if scope_code s == 0 then Others else NonAncestors) ≡ s
scope-again Others = refl
scope-again NonAncestors = refl

pub scope-format : IsCode 1 scope_in (λ s. byte (scope_code s)) (λ s. ⊤)
scope-format = choice-code Others NonAncestors scope_code refl refl scope-within scope-again

commit-within : (a : AtCommit) → commit_code a ≤ 1
commit-within Keeps = omega arith
commit-within ToParent = omega arith

commit-again : (a : AtCommit) → (if commit_code a == 0 then Keeps else ToParent) ≡ a
commit-again Keeps = refl
commit-again ToParent = refl

pub commit-format : IsCode 1 commit_in (λ a. byte (commit_code a)) (λ a. ⊤)
commit-format = choice-code Keeps ToParent commit_code refl refl commit-within commit-again

extent-within : (x : Extent) → extent_code x ≤ 1
extent-within Whole = omega arith
extent-within Any = omega arith

extent-again : (x : Extent) → (if extent_code x == 0 then Whole else Any) ≡ x
extent-again Whole = refl
extent-again Any = refl

pub extent-format : IsCode 1 extent_in (λ x. byte (extent_code x)) (λ x. ⊤)
extent-format = choice-code Whole Any extent_code refl refl extent-within extent-again

-- the kinds of a policy, after its code
abbrev pub IsPolicyOf : ℕ → Policy → Type 0
IsPolicyOf code p = HasDeps p × (policy_code p ≡ code)

policy-again : (code : ℕ) (p : Policy) → IsPolicyOf code p → policy_in code (to_be_bytes w16 (policy_bits p)) ≡ Some p
policy-again code Refuse ok = rw (← ok.1) refl
policy-again code (Depend kinds) ok =
    let same = from_be_bytes-to_be_bytes_2 kinds (omega (arith, ok.0)) in
    rw (← ok.1) (ap (λ (n : ℕ). some_if (nat_le n 4095) (Depend n)) same ∙ ap (λ (b : Bool). some_if b (Depend kinds)) (le-leb kinds 4095 (omega (arith, ok.0))))

policy-back : (code : ℕ) → code ≤ 1 → (bs : List ℕ) → AreBytes bs → length bs ≡ 2 → (p : Policy) → policy_in code bs ≡ Some p → (to_be_bytes w16 (policy_bits p) ≡ bs) × IsPolicyOf code p
policy-back zero le bs fits two p e =
    let s = some-ok (from_be_bytes w16 bs == 0) Refuse p e in
    subst (λ (x : Policy). (to_be_bytes w16 (policy_bits x) ≡ bs) × IsPolicyOf 0 x) s.1 (be_bytes_2 bs 0 two fits (sym (eqb-true _ _ s.0)), (tt, refl))
policy-back (suc zero) le bs fits two p e =
    let s = some-ok (leb (from_be_bytes w16 bs) 4095) (Depend (from_be_bytes w16 bs)) p e in
    subst (λ (x : Policy). (to_be_bytes w16 (policy_bits x) ≡ bs) × IsPolicyOf 1 x) s.1 (be_bytes_2 bs (from_be_bytes w16 bs) two fits refl, (let low = leb-true _ _ s.0 in omega (arith, low), refl))
policy-back (suc (suc n)) le bs fits two p e = absurd (omega (arith, le))

pub policy-code : (code : ℕ) → code ≤ 1 → IsCode 2 (policy_in code) (λ p. to_be_bytes w16 (policy_bits p)) (IsPolicyOf code)
policy-code code le = record {
  len = λ p ok. refl;
  again = λ p ok. policy-again code p ok;
  back = λ bs fits two p e. policy-back code le bs fits two p e;
}

-- ---- the magic

same-true : (xs ys : List ℕ) → bytes_eq xs ys ≡ true → xs ≡ ys
same-true xs ys e = grind (arith, bytes_eq-Decides xs ys)

magic-takes : (bytes : List ℕ) (x rest : List ℕ) → AreBytes bytes → read_magic bytes ≡ Ok (x, rest) → Takes bytes magic rest × (magic ≡ x)
unfolding read_magic
magic-takes bytes x rest fits e =
    let g = guard-met (bytes_eq (take 4 bytes) (take (length bytes) magic)) (fault_at Magic at.Magic 0 bytes) (cond (ltb (length bytes) 4) (Err (fault_at Truncated at.Magic 0 bytes)) (Ok (magic, drop 4 bytes))) (x, rest) e in
    let h = guard-ok (ltb (length bytes) 4) (fault_at Truncated at.Magic 0 bytes) (Ok (magic, drop 4 bytes)) (x, rest) g.1 in
    let long : 4 ≤ length bytes = ltb-false _ _ h.0 in
    let whole : take (length bytes) magic ≡ magic = take_all (length bytes) magic long in
    let front : magic ≡ take 4 bytes = sym (same-true _ _ g.0 ∙ whole) in
    let p = done-is (magic, drop 4 bytes) (x, rest) h.1 in
    let r : drop 4 bytes ≡ rest = ap (λ (q : List ℕ × List ℕ). q.1) p in
    (record { parts = sym (take-append-drop 4 bytes) ∙ ap (λ (t : List ℕ). t ++ drop 4 bytes) (sym front) ∙ ap (λ (t : List ℕ). magic ++ t) r; fits = rw (← r) (bytes-drop 4 bytes fits) }, ap (λ (q : List ℕ × List ℕ). q.0) p)

magic-again : (rest : List ℕ) → read_magic (magic ++ rest) ≡ Ok (magic, rest)
unfolding read_magic
magic-again rest =
    let long : 4 ≤ length (magic ++ rest) = omega (arith, length-append magic rest) in
    let same : bytes_eq magic (take (length (magic ++ rest)) magic) ≡ true = ap (λ (t : List ℕ). bytes_eq magic t) (take_all (length (magic ++ rest)) magic long) in
    let bytes = magic ++ rest in
    let inner : Result (List ℕ × List ℕ) ImageDiagnostic = cond (ltb (length bytes) 4) (Err (fault_at Truncated at.Magic 0 bytes)) (Ok (magic, rest)) in
    ap (λ (b : Bool). cond b inner (Err (fault_at Magic at.Magic 0 bytes))) same ∙ ap (λ (b : Bool). cond b (Err (fault_at Truncated at.Magic 0 bytes)) (done (magic, rest))) (le-ltb (length (magic ++ rest)) 4 long)

pub magic-format : IsFormat read_magic (λ x. magic) (λ x. magic ≡ x)
magic-format = record {
  takes = magic-takes;
  again = λ x rest is. magic-again rest ∙ ap (λ (y : List ℕ). done (y, rest)) is;
}
