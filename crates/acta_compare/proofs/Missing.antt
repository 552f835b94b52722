-- Whether a list contains an item, found by one look after another.
use Rattle.std.proofs.Common.{◌≡◌, ◌<◌, ◌≤◌, ℕ, zero, suc, ◌+◌, Bool, true, false, true≢false, ◌||◌, Decides, List, [], ◌∷◌, length, Option, Some, None, refl, sym, ap, subst, ◌∙◌, ◌⊎◌, inl, inr, arith}
use Rattle.std.specs.Prelude.{slice_get, unwrap_or}
use Rattle.std.specs.List.{Contains, list_any, range_with_len}
use Rattle.std.proofs.lemmas.List.Elements.{Contains-append_right}
use Rattle.std.proofs.lemmas.List.FromFn.{get_or-range_with_len, length-range_with_len}
use Rattle.std.proofs.lemmas.Option.{get_or_from_slice_get, slice_get-get_or, slice_get_cases, slice_get_past, slice_get_within}

-- none of the items before the place i is this one
abbrev pub IsNotBefore : {X : Type 0} → List X → ℕ → X → Type 0
IsNotBefore xs i x = (k : ℕ) → k < i → slice_get xs k ≡ Some x → ⊥

split-less : (k i : ℕ) → k < i + 1 → (k ≡ i) ⊎ (k < i)
split-less k i less = grind arith

pub not-next : {X : Type 0} (xs : List X) (i : ℕ) (x y : X) → slice_get xs i ≡ Some y → (y ≡ x → ⊥) → IsNotBefore xs i x → IsNotBefore xs (i + 1) x
not-next xs i x y there differs none k less is = elim (split-less k i less) [
  | inl same ↦ differs (ap (λ o. unwrap_or o x) (sym there ∙ (ap (slice_get xs) (sym same) ∙ is)))
  | inr before ↦ none k before is
]

-- the list contains the item at a place
pub contains-at : {X : Type 0} (xs : List X) (i : ℕ) (x : X) → slice_get xs i ≡ Some x → Contains xs x
contains-at xs i x there = (i, slice_get_within xs i x there, get_or_from_slice_get xs i x x there)

-- an item that was not found at any place is not in the list
pub not-contained : {X : Type 0} (xs : List X) (i : ℕ) (x : X) → length xs ≤ i → IsNotBefore xs i x → Contains xs x → ⊥
not-contained xs i x past none within =
    let (k, less, is) = within in
    none k (omega arith) (slice_get-get_or xs k x less ∙ ap Some is)

none-some : {X : Type 0} (o : Option X) (x : X) → o ≡ None → o ≡ Some x → ⊥
none-some None x none some = cc
none-some (Some y) x none some = cc

-- where there is no item, the list has ended
pub ended-at : {X : Type 0} (xs : List X) (i : ℕ) → slice_get xs i ≡ None → length xs ≤ i
ended-at xs i none = elim (slice_get_cases xs i).1 [
  | inl there ↦ let (x, less, is, same) = there in absurd (none-some (slice_get xs i) x none is)
  | inr past ↦ past.0
]

-- the places of a list are at their own places
pub place-at : (n i : ℕ) → i < n → slice_get (range_with_len 0 n) i ≡ Some i
place-at n i less =
    let within : i < length (range_with_len 0 n) = subst (λ (m : ℕ). i < m) (sym (length-range_with_len 0 n)) less in
    let plain : 0 + i ≡ i = omega arith in
    slice_get-get_or (range_with_len 0 n) i 0 within ∙ ap Some (get_or-range_with_len 0 n i 0 less ∙ plain)

pub places-past : (n i : ℕ) → n ≤ i → slice_get (range_with_len 0 n) i ≡ None
places-past n i past = slice_get_past (range_with_len 0 n) i (subst (λ (m : ℕ). m ≤ i) (sym (length-range_with_len 0 n)) past)

or-right : (a b : Bool) → b ≡ true → (a || b) ≡ true
or-right true b is = refl
or-right false b is = is

-- a test that decides whether two items are equal finds exactly the items of the list
module _ {X : Type 0} (E : X → X → Bool) (decides : (a b : X) → Decides (E a b) (a ≡ b)) where
  pub any-contained : (xs : List X) (x : X) → Contains xs x → list_any (λ y. E y x) xs ≡ true
  any-contained [] x (k, less, is) = absurd (omega arith)
  any-contained (y ∷ ys) x (zero, less, is) = ap (λ (b : Bool). b || list_any (λ z. E z x) ys) ((decides y x).1 is)
  any-contained (y ∷ ys) x (suc k, less, is) = or-right (E y x) (list_any (λ z. E z x) ys) (any-contained ys x (k, omega arith, is))

  pub contained-any : (xs : List X) (x : X) → list_any (λ y. E y x) xs ≡ true → Contains xs x
  contained-any [] x found = cc
  contained-any (y ∷ ys) x found = by (E y x) refl found (contained-any ys x)
    where
      by : (b : Bool) → E y x ≡ b → (b || list_any (λ z. E z x) ys) ≡ true → (list_any (λ z. E z x) ys ≡ true → Contains ys x) → Contains (y ∷ ys) x
      by true same h rest = (0, omega arith, (decides y x).0 same)
      by false other h rest = Contains-append_right (y ∷ []) ys x (rest h)

  -- the same of what `contains` answers
  pub missing-by : (xs ys : List X) (x : X) → ys ≡ xs → false ≡ list_any (λ y. E y x) ys → Contains xs x → ⊥
  missing-by xs ys x are none within = true≢false (sym (none ∙ ap (list_any (λ y. E y x)) are ∙ any-contained xs x within))

  pub there-by : (xs ys : List X) (x : X) → ys ≡ xs → true ≡ list_any (λ y. E y x) ys → Contains xs x
  there-by xs ys x are some = contained-any xs x (sym (some ∙ ap (list_any (λ y. E y x)) are))
