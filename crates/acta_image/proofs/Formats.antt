-- A reader that matches a spelling, and how such pairs are combined one after the other.
use Rattle.std.proofs.Common.{◌≡◌, ℕ, zero, suc, ◌+◌, List, [], ◌∷◌, ◌++◌, length, take, drop, Result, Ok, Err, refl, sym, ap, subst, ◌∙◌, append_assoc, arith, inl, inr}
use Rattle.std.specs.List.{flat_map, AllByRecursion}
use Rattle.std.proofs.lemmas.Bool.{cases_lt}
use Rattle.std.proofs.lemmas.List.{get_or-drop, get_or-take, get_or_past, length-take}
use Rattle.std.proofs.lemmas.List.Concat.{flat_map-cons}
use Rattle.acta_image.specs.declared.diagnostic.ImageDiagnostic.{ImageDiagnostic}
use Rattle.acta_image.specs.inside.Gives.{AreBytes}
use Rattle.acta_image.specs.Reading.{Reader, and_then, ◌>>=◌, give, read_items}

pub bytes-drop : (n : ℕ) (bytes : List ℕ) → AreBytes bytes → AreBytes (drop n bytes)
bytes-drop n bytes fits i = rw get_or-drop (fits (n + i))

pub bytes-take : (n : ℕ) (bytes : List ℕ) → AreBytes bytes → AreBytes (take n bytes)
bytes-take n bytes fits i =
    elim (cases_lt i n) [
      | inl lt ↦ rw (get_or-take n bytes i 0 lt) (fits i)
      | inr le ↦ rw (get_or_past (take n bytes) i 0 (omega (arith, length-take n bytes))) (omega arith)
    ]

-- the value of a step that had no fault
pub then-ok : {X Y : Type 0} (r : Result X ImageDiagnostic) (next : X → Result Y ImageDiagnostic) (y : Y) → and_then r next ≡ Ok y → (x : X) × (r ≡ Ok x) × (next x ≡ Ok y)
then-ok (Ok x) next y e = (x, refl, e)
then-ok (Err fault) next y e = absurd cc

pub then-is : {X Y : Type 0} (r : Result X ImageDiagnostic) (next : X → Result Y ImageDiagnostic) (x : X) (z : Result Y ImageDiagnostic) → r ≡ Ok x → next x ≡ z → and_then r next ≡ z
then-is r next x z e f = rw e f

abbrev pub done : {X : Type 0} → X → Result X ImageDiagnostic
done x = Ok x

pub done-is : {X : Type 0} (x y : X) → done x ≡ done y → x ≡ y
done-is x y e = cc

-- the bytes that a reader took from the front
pub record Takes (bytes text rest : List ℕ) : Type 0 where
  pub parts : bytes ≡ text ++ rest
  pub fits : AreBytes rest

pub takes-then : (a x b y c : List ℕ) → Takes a x b → Takes b y c → Takes a (x ++ y) c
takes-then a x b y c p q = record { parts = p.parts ∙ ap (λ (t : List ℕ). x ++ t) q.parts ∙ sym (append_assoc x y c); fits = q.fits }

-- a value that is read is allowed, and was spelled so; an allowed value is read from its spelling
pub record IsFormat {X : Type 0} (read : Reader X) (spell : X → List ℕ) (Allowed : X → Type 0) : Type 0 where
  pub takes : (bytes : List ℕ) (x : X) (rest : List ℕ) → AreBytes bytes → read bytes ≡ Ok (x, rest) → Takes bytes (spell x) rest × Allowed x
  pub again : (x : X) (rest : List ℕ) → Allowed x → read (spell x ++ rest) ≡ Ok (x, rest)

-- one part of a value, and then the others, which determine it
pub then-format : {X Y : Type 0} {read : Reader X} {spell : X → List ℕ} {Allowed : X → Type 0} → IsFormat read spell Allowed →
    (part : Y → X) (next : X → Reader Y) (others : Y → List ℕ) (Others : X → Y → Type 0) → ((x : X) → Allowed x → IsFormat (next x) others (Others x)) → ((x : X) → Allowed x → (y : Y) → Others x y → part y ≡ x) →
    IsFormat (read >>= next) (λ y. spell (part y) ++ others y) (λ y. Allowed (part y) × Others (part y) y)
then-format {X} {Y} {read} {spell} {Allowed} first part next others Others rest part-is = record {
  takes = λ bytes y after fits e.
      let a = then-ok (read bytes) (λ (x : X × List ℕ). next x.0 x.1) (y, after) e in
      let x = a.0.0 in
      let t = first.takes bytes x a.0.1 fits a.1 in
      let u = (rest x t.1).takes a.0.1 y after t.0.fits a.2 in
      let is = part-is x t.1 y u.1 in (
        subst (λ (z : X). Takes bytes (spell z ++ others y) after) (sym is) (takes-then bytes (spell x) a.0.1 (others y) after t.0 u.0),
        subst (λ (z : X). Allowed z × Others z y) (sym is) (t.1, u.1),
      );
  again = λ y after ok.
      ap (read >>= next) (append_assoc (spell (part y)) (others y) after)
      ∙ then-is (read (spell (part y) ++ (others y ++ after))) (λ (x : X × List ℕ). next x.0 x.1) (part y, others y ++ after) (Ok (y, after))
      (first.again (part y) (others y ++ after) ok.0) ((rest (part y) ok.0).again y after ok.1);
}

-- the last part of a value
pub last-format : {X Y : Type 0} {read : Reader X} {spell : X → List ℕ} {Allowed : X → Type 0} → IsFormat read spell Allowed →
    (part : Y → X) (make : X → Y) → ((x : X) → part (make x) ≡ x) →
    IsFormat (read >>= λ x. give (make x)) (λ y. spell (part y)) (λ y. Allowed (part y) × (make (part y) ≡ y))
last-format {X} {Y} {read} {spell} {Allowed} last part make part-made = record {
  takes = λ bytes y after fits e.
      let a = then-ok (read bytes) (λ (x : X × List ℕ). done (make x.0, x.1)) (y, after) e in
      let x = a.0.0 in
      let t = last.takes bytes x a.0.1 fits a.1 in
      let p = done-is (make x, a.0.1) (y, after) a.2 in
      let is : part y ≡ x = ap (λ (q : Y × List ℕ). part q.0) (sym p) ∙ part-made x in
      let end : a.0.1 ≡ after = ap (λ (q : Y × List ℕ). q.1) p in
      let made : make (part y) ≡ y = ap make is ∙ ap (λ (q : Y × List ℕ). q.0) p in
      (subst (λ (z : X). Takes bytes (spell z) after) (sym is) (subst (λ (r : List ℕ). Takes bytes (spell x) r) end t.0), (subst Allowed (sym is) t.1, made));
  again = λ y after ok.
      then-is (read (spell (part y) ++ after)) (λ (x : X × List ℕ). done (make x.0, x.1)) (part y, after) (Ok (y, after))
      (last.again (part y) after ok.0) (ap (λ (z : Y). done (z, after)) ok.1);
}

-- the same, with other definitions of spelling and allowed values
pub parsed-format : {X : Type 0} {read : Reader X} {spell : X → List ℕ} {Allowed : X → Type 0} → IsFormat read spell Allowed → (other : X → List ℕ) (Other : X → Type 0)
    → ((x : X) → spell x ≡ other x) → ((x : X) → Allowed x → Other x) → ((x : X) → Other x → Allowed x) → IsFormat read other Other
parsed-format {X} {read} {spell} {Allowed} format other Other same to from = record {
  takes = λ bytes x rest fits e. let t = format.takes bytes x rest fits e in (subst (λ (text : List ℕ). Takes bytes text rest) (same x) t.0, to x t.1);
  again = λ x rest ok. ap (λ (text : List ℕ). read (text ++ rest)) (sym (same x)) ∙ format.again x rest (from x ok);
}

-- n items
pub items-format : {X : Type 0} {read : Reader X} {spell : X → List ℕ} {Allowed : X → Type 0} → IsFormat read spell Allowed → (n : ℕ)
    → IsFormat (read_items read n) (flat_map spell) (λ xs. (length xs ≡ n) × AllByRecursion Allowed xs)
items-format {X} {read} {spell} {Allowed} format n = record { takes = items-take n; again = λ xs rest ok. items-again n xs rest ok.0 ok.1 }
  where
    items-take : (n : ℕ) (bytes : List ℕ) (xs : List X) (rest : List ℕ) → AreBytes bytes → read_items read n bytes ≡ Ok (xs, rest) → Takes bytes (flat_map spell xs) rest × ((length xs ≡ n) × AllByRecursion Allowed xs)
    items-take zero bytes xs rest fits e =
        subst (λ (y : List X × List ℕ). Takes bytes (flat_map spell y.0) y.1 × ((length y.0 ≡ 0) × AllByRecursion Allowed y.0)) (done-is ([], bytes) (xs, rest) e) (record { parts = refl; fits = fits }, (refl, tt))
    items-take (suc n) bytes xs rest fits e =
        let a = then-ok (read bytes) (λ (x : X × List ℕ). and_then (read_items read n x.1) (λ (others : List X × List ℕ). done (x.0 ∷ others.0, others.1))) (xs, rest) e in
        let b = then-ok (read_items read n a.0.1) (λ (others : List X × List ℕ). done (a.0.0 ∷ others.0, others.1)) (xs, rest) a.2 in
        let first = format.takes bytes a.0.0 a.0.1 fits a.1 in
        let second = items-take n a.0.1 b.0.0 b.0.1 first.0.fits b.1 in
        let both = takes-then bytes (spell a.0.0) a.0.1 (flat_map spell b.0.0) b.0.1 first.0 second.0 in
        subst (λ (y : List X × List ℕ). Takes bytes (flat_map spell y.0) y.1 × ((length y.0 ≡ suc n) × AllByRecursion Allowed y.0)) (done-is (a.0.0 ∷ b.0.0, b.0.1) (xs, rest) b.2)
        (rw flat_map-cons both, (ap suc second.1.0, (first.1, second.1.1)))

    items-again : (n : ℕ) (xs : List X) (rest : List ℕ) → length xs ≡ n → AllByRecursion Allowed xs → read_items read n (flat_map spell xs ++ rest) ≡ Ok (xs, rest)
    items-again zero [] rest len ok = refl
    items-again zero (x ∷ xs) rest len ok = absurd (omega (arith, len))
    items-again (suc n) [] rest len ok = absurd (omega (arith, len))
    items-again (suc n) (x ∷ xs) rest len ok =
        ap (read_items read (suc n)) (ap (λ (t : List ℕ). t ++ rest) (flat_map-cons spell x xs) ∙ append_assoc (spell x) (flat_map spell xs) rest)
        ∙ then-is (read (spell x ++ (flat_map spell xs ++ rest))) (λ (y : X × List ℕ). and_then (read_items read n y.1) (λ (others : List X × List ℕ). done (y.0 ∷ others.0, others.1))) (x, flat_map spell xs ++ rest) (Ok (x ∷ xs, rest))
        (format.again x (flat_map spell xs ++ rest) ok.0)
        (then-is (read_items read n (flat_map spell xs ++ rest)) (λ (others : List X × List ℕ). done (x ∷ others.0, others.1)) (xs, rest) (Ok (x ∷ xs, rest)) (items-again n xs rest (omega (arith, len)) ok.1) refl)
