-- The first `=` among words, and the kept item of the words.
use Rattle.std.proofs.Common.{◌≡◌, ◌≤◌, ◌+◌, ◌-◌, ℕ, suc, Bool, true, false, ◌||◌, not, cond, nat_lt, List, [], ◌∷◌, map, take, drop, length, position, Some, None, refl, sym, ap, ◌∙◌, arith}
use Rattle.std.specs.List.{list_any, position_or_len, before_first, after_first}
use Rattle.std.proofs.lemmas.Bool.Decides.{nat_tests}
use Rattle.std.proofs.lemmas.List.{length-map, length-drop, take-map, take_all, drop-map}
use Rattle.acta_table.specs.declared.model.Parts.{Parts}
use Rattle.acta_script.specs.Diagnosis.{wrong_event, wrong_return, lower_of, wrong_kept}
use Rattle.acta_script.specs.Reading.{◌>>=◌, is_equals, parse_event, parse_return, both, with_return, plain, parse_kept}

pub position_or_len-map : {X Y : Type 0} (p : Y → Bool) (f : X → Y) (xs : List X) → position_or_len p (map f xs) ≡ position_or_len (λ x. p (f x)) xs
position_or_len-map p f [] = refl
position_or_len-map p f (x ∷ xs) = ap (λ n. cond (not (p (f x))) (1 + n) 0) (position_or_len-map p f xs)

any_from_first : (found : Bool) (k n : ℕ) (rest : Bool) → rest ≡ nat_lt k n → (found || rest) ≡ nat_lt (cond (not found) (1 + k) 0) (suc n)
any_from_first true k n rest same = grind (arith, nat_tests)
any_from_first false k n rest same = grind (arith, nat_tests)

-- whether one of them is such a one
pub any-first : {X : Type 0} (p : X → Bool) (xs : List X) → list_any p xs ≡ nat_lt (position_or_len p xs) (length xs)
any-first p [] = refl
any-first p (x ∷ xs) = any_from_first (p x) (position_or_len p xs) (length xs) (list_any p xs) (any-first p xs)

found : (b : Bool) (k at : ℕ) → cond b (Some k) None ≡ Some at → (b ≡ true) × (k ≡ at)
found true k at e = (refl, cc)
found false k at e = absurd (cc)

lacking : (b : Bool) (k : ℕ) → cond b (Some k) None ≡ None → b ≡ false
lacking true k e = cc
lacking false k e = refl

module _ {A X : Type 0} (m : Parts A) (f : X → List ℕ) (xs : List X) where
  any-sign : list_any is_equals (map f xs) ≡ nat_lt (position_or_len (λ x. is_equals (f x)) xs) (length xs)
  any-sign = any-first is_equals (map f xs) ∙ (λ i. nat_lt (position_or_len-map is_equals f xs i) (length-map xs f i))

  -- words with a `=` are the words of an event, and those of its return
  pub kept-with_sign : (at : ℕ) → position (λ x. is_equals (f x)) xs ≡ Some at → parse_kept m (map f xs) ≡ both with_return (parse_event m (map f (take at xs))) (parse_return (map f (take (length xs - (at + 1)) (drop (at + 1) xs))))
  unfolding parse_kept
  kept-with_sign at is =
      let cut = found (nat_lt (position_or_len (λ x. is_equals (f x)) xs) (length xs)) (position_or_len (λ x. is_equals (f x)) xs) at is in
      let place = position_or_len-map is_equals f xs ∙ cut.1 in
      let few : length (drop (at + 1) xs) ≤ length xs - (at + 1) = omega (arith, length-drop (at + 1) xs) in
      ap (λ (b : Bool). cond b (both with_return (parse_event m (before_first is_equals (map f xs))) (parse_return (after_first is_equals (map f xs)))) (parse_event m (map f xs) >>= plain)) (any-sign ∙ cut.0)
      ∙ ap (λ (n : ℕ). both with_return (parse_event m (take n (map f xs))) (parse_return (drop (n + 1) (map f xs)))) place
      ∙ (λ i. both with_return (parse_event m (take-map f at xs i)) (parse_return (drop-map f (at + 1) xs i)))
      ∙ ap (λ (ys : List X). both with_return (parse_event m (map f (take at xs))) (parse_return (map f ys))) (sym (take_all (length xs - (at + 1)) (drop (at + 1) xs) few))

  -- words without a `=` are those of an event alone
  pub kept-without_sign : position (λ x. is_equals (f x)) xs ≡ None → parse_kept m (map f xs) ≡ (parse_event m (map f xs) >>= plain)
  unfolding parse_kept
  kept-without_sign is =
      ap (λ (b : Bool). cond b (both with_return (parse_event m (before_first is_equals (map f xs))) (parse_return (after_first is_equals (map f xs)))) (parse_event m (map f xs) >>= plain))
      (any-sign ∙ lacking (nat_lt (position_or_len (λ x. is_equals (f x)) xs) (length xs)) (position_or_len (λ x. is_equals (f x)) xs) is)

  -- the diagnosis of words with a `=` is that of the event, or that of the return
  pub wrong-with_sign : (at : ℕ) → position (λ x. is_equals (f x)) xs ≡ Some at → wrong_kept m (map f xs) ≡ lower_of (wrong_event m 0 (map f (take at xs))) (wrong_return m (at + 1) (map f (take (length xs - (at + 1)) (drop (at + 1) xs))))
  wrong-with_sign at is =
      let cut = found (nat_lt (position_or_len (λ x. is_equals (f x)) xs) (length xs)) (position_or_len (λ x. is_equals (f x)) xs) at is in
      let place = position_or_len-map is_equals f xs ∙ cut.1 in
      let few : length (drop (at + 1) xs) ≤ length xs - (at + 1) = omega (arith, length-drop (at + 1) xs) in
      ap (λ (b : Bool). cond b (lower_of (wrong_event m 0 (before_first is_equals (map f xs))) (wrong_return m (position_or_len is_equals (map f xs) + 1) (after_first is_equals (map f xs)))) (wrong_event m 0 (map f xs))) (any-sign ∙ cut.0)
      ∙ ap (λ (n : ℕ). lower_of (wrong_event m 0 (take n (map f xs))) (wrong_return m (n + 1) (drop (n + 1) (map f xs)))) place
      ∙ (λ i. lower_of (wrong_event m 0 (take-map f at xs i)) (wrong_return m (at + 1) (drop-map f (at + 1) xs i)))
      ∙ ap (λ (ys : List X). lower_of (wrong_event m 0 (map f (take at xs))) (wrong_return m (at + 1) (map f ys))) (sym (take_all (length xs - (at + 1)) (drop (at + 1) xs) few))

  pub wrong-without_sign : position (λ x. is_equals (f x)) xs ≡ None → wrong_kept m (map f xs) ≡ wrong_event m 0 (map f xs)
  wrong-without_sign is =
      ap (λ (b : Bool). cond b (lower_of (wrong_event m 0 (before_first is_equals (map f xs))) (wrong_return m (position_or_len is_equals (map f xs) + 1) (after_first is_equals (map f xs)))) (wrong_event m 0 (map f xs)))
      (any-sign ∙ lacking (nat_lt (position_or_len (λ x. is_equals (f x)) xs) (length xs)) (position_or_len (λ x. is_equals (f x)) xs) is)
