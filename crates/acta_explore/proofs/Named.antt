-- Operations that an event names, by the lines that did them.
use Rattle.std.proofs.Common.{◌≡◌, ℕ, ◌+◌, ◌<◌, zero, suc, Bool, true, false, ◌&&◌, ◌||◌, ◌==◌, List, [], ◌∷◌, map, length, refl, sym, ap, ◌∙◌, arith}
use Rattle.std.specs.Prelude.{⊤, if◌then◌else◌}
use Rattle.std.specs.List.{list_any}
use Rattle.std.specs.Option.{option_map_or}
use Rattle.std.specs.Prelude.{slice_get}
use Rattle.std.proofs.lemmas.Bool.{eq-eqb, ne_eqb}
use Rattle.acta_table.specs.declared.event.OpNo.{OpNo}
use Rattle.acta_table.specs.declared.event.TxnId.{TxnId}
use Rattle.acta_table.specs.Numbered.{item_at}
use Rattle.acta_table.specs.Sets.{is_named, numbers_of}
use Rattle.acta_sets.specs.declared.held_op.HeldOp.{HeldOp}
use Rattle.acta_sets.specs.Operations.{moved_from}
use Rattle.acta_explore.specs.declared.key.LineOp.{LineOp}
use Rattle.acta_explore.specs.Equivalence.{by_line}
use Rattle.acta_explore.proofs.Anys.{any_from, any_from-or, any_from-same, any_from-none}

-- the operations are named exactly where their lines are, where the first has the number n
abbrev pub AreNamed : (ℕ → Bool) → List OpNo → ℕ → List ℕ → Type 0
AreNamed named ops n [] = ⊤
AreNamed named ops n (l ∷ ls) = (is_named ops n ≡ named l) × AreNamed named ops (n + 1) ls

or-false : (b : Bool) → (b || false) ≡ b
or-false true = refl
or-false false = refl

and-or : (a b c : Bool) → ((a || b) && c) ≡ ((a && c) || (b && c))
and-or true b true = refl
and-or true true false = refl
and-or true false false = refl
and-or false b c = refl

module _ {X : Type 0} where
  -- an item at a number, as a search with numbers
  at-past : (test : X → Bool) (o n : ℕ) (xs : List X) → o < n → any_from n (λ k x. (o == k) && test x) xs ≡ false
  at-past test o n [] less = refl
  at-past test o n (x ∷ xs) less =
      ap (λ (b : Bool). (b && test x) || any_from (n + 1) (λ k x. (o == k) && test x) xs) (ne_eqb o n (λ e. omega arith))
      ∙ at-past test o (n + 1) xs (omega arith)

  pub at-any : (test : X → Bool) (k n : ℕ) (xs : List X) → any_from n (λ m x. (n + k == m) && test x) xs ≡ option_map_or test (slice_get xs k) false
  at-any test k n [] = refl
  at-any test zero n (x ∷ xs) =
      let e : n + 0 ≡ n = omega arith in
      ap (λ (m : ℕ). ((m == n) && test x) || any_from (n + 1) (λ j x. (m == j) && test x) xs) e
      ∙ (ap (λ (b : Bool). (b && test x) || any_from (n + 1) (λ j x. (n == j) && test x) xs) (eq-eqb n n refl)
      ∙ (ap (λ (b : Bool). test x || b) (at-past test n (n + 1) xs (omega arith)) ∙ or-false (test x)))
  at-any test (suc k) n (x ∷ xs) =
      let e : n + suc k ≡ (n + 1) + k = omega arith in
      ap (λ (m : ℕ). ((m == n) && test x) || any_from (n + 1) (λ j x. (m == j) && test x) xs) e
      ∙ (ap (λ (b : Bool). (b && test x) || any_from (n + 1) (λ j x. ((n + 1) + k == j) && test x) xs) (ne_eqb ((n + 1) + k) n (λ same. omega arith))
      ∙ at-any test k (n + 1) xs)

  pub item-any : (test : X → Bool) (o : ℕ) (xs : List X) → option_map_or test (item_at xs o) false ≡ any_from 1 (λ m x. (o == m) && test x) xs
  item-any test zero xs = sym (at-past test 0 1 xs (omega arith))
  item-any test (suc k) xs =
      let e : suc k ≡ 1 + k = omega arith in
      sym (ap (λ (o : ℕ). any_from 1 (λ m x. (o == m) && test x) xs) e ∙ at-any test k 1 xs)

  -- some item that is named passes
  pub named-any : (test : X → Bool) (ops : List OpNo) (xs : List X) → list_any (λ n. option_map_or test (item_at xs n) false) (numbers_of ops) ≡ any_from 1 (λ n x. is_named ops n && test x) xs
  named-any test [] xs = sym (any_from-none 1 xs)
  named-any test (o ∷ ops) xs =
      (λ i. item-any test o.0 xs i || named-any test ops xs i)
      ∙ (sym (any_from-or 1 (λ m x. (o.0 == m) && test x) (λ m x. is_named ops m && test x) xs)
      ∙ any_from-same 1 (λ m x. ((o.0 == m) && test x) || (is_named ops m && test x)) (λ m x. is_named (o ∷ ops) m && test x) (λ m x. sym (and-or (o.0 == m) (is_named ops m) (test x))) xs)

one-less : {m n : ℕ} → suc m ≡ suc n → m ≡ n
one-less e = omega arith

-- by the lines
pub lines-any : (named : ℕ → Bool) (ops : List OpNo) (f : Bool → HeldOp → Bool) (n : ℕ) (ls : List ℕ) (xs : List HeldOp) → length ls ≡ length xs → AreNamed named ops n ls → any_from n (λ k x. f (is_named ops k) x) xs ≡ list_any (λ o. f (named o.line) o.held) (by_line ls xs)
lines-any named ops f n [] [] e are = refl
lines-any named ops f n [] (x ∷ xs) e are = absurd cc
lines-any named ops f n (l ∷ ls) [] e are = absurd cc
lines-any named ops f n (l ∷ ls) (x ∷ xs) e are = λ i. f (are.0 i) x || lines-any named ops f (n + 1) ls xs (one-less e) are.1 i

-- handed on, where the line is named
abbrev pub given_line : (ℕ → Bool) → TxnId → LineOp → LineOp
given_line named u o = record { line = o.line; held = if named o.line then record o.held { holder = u } else o.held }

pub moved-lines : (named : ℕ → Bool) (ops : List OpNo) (u : TxnId) (n : ℕ) (ls : List ℕ) (xs : List HeldOp) → AreNamed named ops n ls → by_line ls (moved_from n ops u xs) ≡ map (given_line named u) (by_line ls xs)
moved-lines named ops u n [] xs are = refl
moved-lines named ops u n (l ∷ ls) [] are = refl
moved-lines named ops u n (l ∷ ls) (x ∷ xs) are = λ i. (record { line = l; held = if are.0 i then record x { holder = u } else x }) ∷ moved-lines named ops u (n + 1) ls xs are.1 i

pub length-moved : (ops : List OpNo) (u : TxnId) (n : ℕ) (xs : List HeldOp) → length (moved_from n ops u xs) ≡ length xs
length-moved ops u n [] = refl
length-moved ops u n (x ∷ xs) = ap suc (length-moved ops u (n + 1) xs)
