-- The last place of a number in a list, after a push or a pop.
use Rattle.std.proofs.Common.{◌≡◌, ℕ, zero, suc, ◌+◌, ◌<◌, ◌≤◌, Bool, true, false, ◌==◌, List, [], ◌∷◌, ◌++◌, length, take, get_or, slice_set, refl, sym, ap, ◌∙◌, inl, inr, arith, if◌then◌else◌, add-one}
use Rattle.std.proofs.lemmas.Bool.{cond_both, cases_eq, cases_lt, eq-eqb, ne_eqb, eqb-true}
use Rattle.std.proofs.lemmas.List.{get_or_append_left, get_or-take, get_or_push, get_or_past, get_or-set_same, get_or-set_other, length_push, length-take-le}
use Rattle.acta_deps.specs.inside.Places.{latest}

-- one place more: if t is there, and if another is
at-same : (ts : List ℕ) (t n : ℕ) → get_or ts n 0 ≡ t → latest ts t (suc n) ≡ suc n
at-same ts t n e = ap (λ b. if b then suc n else latest ts t n) (eq-eqb (get_or ts n 0) t e)

at-other : (ts : List ℕ) (t n : ℕ) → (get_or ts n 0 == t) ≡ false → latest ts t (suc n) ≡ latest ts t n
at-other ts t n e = ap (λ b. if b then suc n else latest ts t n) e

pub latest_le : (ts : List ℕ) (t n : ℕ) → latest ts t n ≤ n
latest_le ts t zero = omega arith
latest_le ts t (suc n) =
    let h : latest ts t n ≤ n = latest_le ts t n in
    cond_both (get_or ts n 0 == t) (suc n) (latest ts t n) (λ x. x ≤ suc n) (λ _. omega arith) (λ _. omega arith)

-- lists with a common prefix have the same places there
latest_same : (ts us : List ℕ) (t n : ℕ) → ((k : ℕ) → k < n → get_or ts k 0 ≡ get_or us k 0) → latest ts t n ≡ latest us t n
latest_same ts us t zero h = refl
latest_same ts us t (suc n) h =
    λ i. if h n (omega arith) i == t then suc n else latest_same ts us t n (λ k l. h k (omega arith)) i

latest_front : (ts us : List ℕ) (t n : ℕ) → n ≤ length ts → latest (ts ++ us) t n ≡ latest ts t n
latest_front ts us t n h = latest_same (ts ++ us) ts t n (λ k l. get_or_append_left ts us 0 k (omega arith))

latest_take : (ts : List ℕ) (m t n : ℕ) → n ≤ m → latest (take m ts) t n ≡ latest ts t n
latest_take ts m t n h = latest_same (take m ts) ts t n (λ k l. get_or-take m ts k 0 (omega arith))

-- t's last place is not before any place of t
latest_after : (ts : List ℕ) (t n k : ℕ) → k < n → get_or ts k 0 ≡ t → k < latest ts t n
latest_after ts t zero k h e = absurd (omega arith)
latest_after ts t (suc n) k h e =
    elim (cases_eq k n) [
      | inl same ↦ let is : latest ts t (suc n) ≡ suc n = at-same ts t n (ap (λ m. get_or ts m 0) (sym same) ∙ e) in omega arith
      | inr other ↦
          let before : k < latest ts t n = latest_after ts t n k (omega arith) e in
          cond_both (get_or ts n 0 == t) (suc n) (latest ts t n) (λ x. k < x) (λ _. omega arith) (λ _. before)
    ]

-- t is at its last place: by whether it is at the next place, and whether it occurs before
at-latest-by : (ts : List ℕ) (t n m : ℕ) (b : Bool) → (get_or ts n 0 == t) ≡ b → latest ts t (suc n) ≡ suc m → (latest ts t n ≡ suc m → get_or ts m 0 ≡ t) → get_or ts m 0 ≡ t
at-latest-by ts t n m true e h before =
    let one : latest ts t (suc n) ≡ suc n = at-same ts t n (eqb-true _ _ e) in
    let same : m ≡ n = omega arith in
    ap (λ k. get_or ts k 0) same ∙ eqb-true (get_or ts n 0) t e
at-latest-by ts t n m false e h before = before (sym (at-other ts t n e) ∙ h)

pub at_latest : (ts : List ℕ) (t n m : ℕ) → latest ts t n ≡ suc m → get_or ts m 0 ≡ t
at_latest ts t zero m h = absurd (omega arith)
at_latest ts t (suc n) m h = at-latest-by ts t n m (get_or ts n 0 == t) refl h (at_latest ts t n m)

-- every transaction in the list has an entry in the table of last places
pub in_table : (ts last : List ℕ) → ((t : ℕ) → get_or last t 0 ≡ latest ts t (length ts)) → (k : ℕ) → k < length ts → get_or ts k 0 < length last
in_table ts last lasts k h =
    elim (cases_lt (get_or ts k 0) (length last)) [
      | inl within ↦ within
      | inr past ↦
          let t : ℕ = get_or ts k 0 in
          let none : get_or last t 0 ≡ 0 = get_or_past last t 0 past in
          let is : get_or last t 0 ≡ latest ts t (length ts) = lasts t in
          let behind : k < latest ts t (length ts) = latest_after ts t (length ts) k h refl in
          absurd (omega arith)
    ]

long : (ts : List ℕ) (t : ℕ) → length (ts ++ t ∷ []) ≡ suc (length ts)
long ts t = length_push ts t ∙ add-one (length ts)

-- the last places after one number is appended
pub last_pushed : (ts last : List ℕ) (t : ℕ) → t < length last → ((u : ℕ) → get_or last u 0 ≡ latest ts u (length ts)) → (u : ℕ) → get_or (slice_set last t (length (ts ++ t ∷ []))) u 0 ≡ latest (ts ++ t ∷ []) u (length (ts ++ t ∷ []))
last_pushed ts last t h lasts u =
    elim (cases_eq u t) [
      | inl same ↦
          ap (λ v. get_or (slice_set last t (length (ts ++ t ∷ []))) v 0) same
          ∙ get_or-set_same last t (length (ts ++ t ∷ [])) 0 h
          ∙ long ts t
          ∙ sym (at-same (ts ++ t ∷ []) u (length ts) (get_or_push ts t 0 (length ts) refl ∙ sym same))
          ∙ ap (latest (ts ++ t ∷ []) u) (sym (long ts t))
      | inr other ↦
          get_or-set_other last t u (length (ts ++ t ∷ [])) 0 other
          ∙ lasts u
          ∙ sym (latest_front ts (t ∷ []) u (length ts) (omega arith))
          ∙ sym (at-other (ts ++ t ∷ []) u (length ts) (ne_eqb _ _ (λ e. other (sym e ∙ get_or_push ts t 0 (length ts) refl))))
          ∙ ap (latest (ts ++ t ∷ []) u) (sym (long ts t))
    ]

-- the places before those
pub before_pushed : (ts before : List ℕ) (t x : ℕ) → length before ≡ length ts → x ≡ latest ts t (length ts) → ((k : ℕ) → k < length ts → get_or before k 0 ≡ latest ts (get_or ts k 0) k) → (k : ℕ) → k < length (ts ++ t ∷ []) → get_or (before ++ x ∷ []) k 0 ≡ latest (ts ++ t ∷ []) (get_or (ts ++ t ∷ []) k 0) k
before_pushed ts before t x linked is befores k h =
    let all : length (ts ++ t ∷ []) ≡ length ts + 1 = length_push ts t in
    elim (cases_lt k (length ts)) [
      | inl front ↦
          get_or_append_left before (x ∷ []) 0 k (omega arith)
          ∙ befores k front
          ∙ sym (latest_front ts (t ∷ []) (get_or ts k 0) k (omega arith))
          ∙ ap (λ u. latest (ts ++ t ∷ []) u k) (sym (get_or_append_left ts (t ∷ []) 0 k front))
      | inr end ↦
          let last : k ≡ length ts = omega arith in
          get_or_push before x 0 k (linked ∙ sym last)
          ∙ is
          ∙ sym (latest_front ts (t ∷ []) t (length ts) (omega arith))
          ∙ ap (latest (ts ++ t ∷ []) t) (sym last)
          ∙ ap (λ u. latest (ts ++ t ∷ []) u k) (sym (get_or_push ts t 0 k (sym last)))
    ]

-- the last places after the last number is removed
pub last_popped : (ts last : List ℕ) (n x : ℕ) → length ts ≡ suc n → get_or ts n 0 < length last → x ≡ latest ts (get_or ts n 0) n → ((u : ℕ) → get_or last u 0 ≡ latest ts u (length ts)) → (u : ℕ) → get_or (slice_set last (get_or ts n 0) x) u 0 ≡ latest (take n ts) u (length (take n ts))
last_popped ts last n x all h is lasts u =
    let t : ℕ = get_or ts n 0 in
    let rest : length (take n ts) ≡ n = length-take-le n ts (omega arith) in
    let front : latest ts u n ≡ latest (take n ts) u (length (take n ts)) = sym (latest_take ts n u n (omega arith)) ∙ ap (latest (take n ts) u) (sym rest) in
    elim (cases_eq u t) [
      | inl same ↦
          ap (λ v. get_or (slice_set last t x) v 0) same
          ∙ get_or-set_same last t x 0 h
          ∙ is
          ∙ ap (λ v. latest ts v n) (sym same)
          ∙ front
      | inr other ↦
          get_or-set_other last t u x 0 other
          ∙ lasts u
          ∙ ap (latest ts u) all
          ∙ at-other ts u n (ne_eqb _ _ (λ e. other (sym e)))
          ∙ front
    ]

-- the earlier places of the transactions that remain
pub before_popped : (ts before : List ℕ) (n : ℕ) → n ≤ length ts → ((k : ℕ) → k < length ts → get_or before k 0 ≡ latest ts (get_or ts k 0) k) → (k : ℕ) → k < length (take n ts) → get_or (take n before) k 0 ≡ latest (take n ts) (get_or (take n ts) k 0) k
before_popped ts before n h befores k l =
    let rest : length (take n ts) ≡ n = length-take-le n ts h in
    get_or-take n before k 0 (omega arith)
    ∙ befores k (omega arith)
    ∙ sym (latest_take ts n (get_or ts k 0) k (omega arith))
    ∙ ap (λ u. latest (take n ts) u k) (sym (get_or-take n ts k 0 (omega arith)))
