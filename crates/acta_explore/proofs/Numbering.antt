-- The machine's numbers for the operations of lines.
use Rattle.std.proofs.Common.{◌≡◌, ◌<◌, ℕ, ◌+◌, zero, suc, Bool, true, false, ◌||◌, not, ◌==◌, List, [], ◌∷◌, map, length, fold, get_or, Option, Some, None, is_none, cond, ◌≤◌, refl, sym, ap, ◌∙◌, arith, inl, inr}
use Rattle.std.specs.Prelude.{option_and_then, unwrap_or}
use Rattle.std.specs.List.{list_any, position_from}
use Rattle.std.specs.Ordering.{nat_cmp}
use Rattle.std.specs.BTreeSet.{insert_key}
use Rattle.std.proofs.lemmas.Bool.{eqb-true, eq-eqb, ne_eqb}
use Rattle.std.proofs.lemmas.Option.{slice_get_cases}
use Rattle.acta_table.specs.declared.event.OpNo.{OpNo}
use Rattle.acta_table.specs.Numbered.{ascending, item_at}
use Rattle.acta_table.specs.Sets.{each_once, is_named, numbered, numbers_of}
use Rattle.acta_table.proofs.AscendingSets.{any-inserted}
use Rattle.acta_sets.specs.declared.held_op.HeldOp.{HeldOp}
use Rattle.acta_sets.specs.Operations.{operation_at}
use Rattle.acta_explore.specs.Equivalence.{by_line, AreSameByObject}
use Rattle.acta_explore.proofs.Anys.{any-map}
pub use Rattle.acta_explore.specs.inside.Numbered.{Differ}
use Rattle.acta_explore.proofs.Named.{AreNamed}
use Rattle.acta_explore.proofs.OrderedSets.{or-three, or-false}
use Rattle.acta_explore.proofs.Pairs.{Pairs, all-at}
use Rattle.acta_explore.proofs.Tagged.{any-same}

any-put : (test : ℕ → Bool) (keys ns : List ℕ) → list_any test (fold (insert_key nat_cmp) keys ns) ≡ (list_any test ns || list_any test keys)
any-put test keys [] = refl
any-put test keys (n ∷ ns) =
    any-put test (insert_key nat_cmp keys n) ns
    ∙ (ap (λ (b : Bool). list_any test ns || b) (any-inserted test keys n)
    ∙ or-three (list_any test ns) (test n) (list_any test keys))

pub any-ascending : (test : ℕ → Bool) (ns : List ℕ) → list_any test (ascending ns) ≡ list_any test ns
any-ascending test ns = any-put test [] ns ∙ or-false (list_any test ns)

numbers-numbered : (ns : List ℕ) → numbers_of (numbered ns) ≡ ns
numbers-numbered [] = refl
numbers-numbered (n ∷ ns) = ap (λ (ms : List ℕ). n ∷ ms) (numbers-numbered ns)

-- a set of operations passes a test if some of the operations do
pub any-each_once : (test : ℕ → Bool) (ops : List OpNo) → list_any test (numbers_of (each_once ops)) ≡ list_any test (numbers_of ops)
any-each_once test ops = ap (list_any test) (numbers-numbered (ascending (numbers_of ops))) ∙ any-ascending test (numbers_of ops)

named-numbers : (ops : List OpNo) (n : ℕ) → is_named ops n ≡ list_any (λ k. k == n) (numbers_of ops)
named-numbers ops n = sym (any-map (λ o. o.0) (λ k. k == n) ops)

-- the number of a line among those that did operations, or 0
abbrev pub number_among : List ℕ → Option ℕ → ℕ
number_among ls line = unwrap_or (option_and_then (λ l. position_from (λ m. m == l) 1 ls) line) 0

-- whether it is this line
abbrev pub is_line : ℕ → Option ℕ → Bool
is_line l None = false
is_line l (Some k) = l == k

true-false : true ≡ false → ⊥
true-false e = cc

past-step : (n j : ℕ) (b : Bool) (o : Option ℕ) → j < n → (unwrap_or o 0 ≡ j → ⊥) → unwrap_or (cond b (Some n) o) 0 ≡ j → ⊥
past-step n j true o less later e = omega arith
past-step n j false o less later e = later e

-- no line has a number below the first
past-zero : (l n : ℕ) (ls : List ℕ) (j : ℕ) → (j ≡ 0 → ⊥) → j < n → unwrap_or (position_from (λ m. m == l) n ls) 0 ≡ j → ⊥
past-zero l n [] j some less e = some (sym e)
past-zero l n (k ∷ ls) j some less e = past-step n j (k == l) (position_from (λ m. m == l) (n + 1) ls) less (past-zero l (n + 1) ls j some (omega arith)) e

first-step : (n : ℕ) (o : Option ℕ) (b : Bool) → (unwrap_or o 0 ≡ n + 0 → ⊥) → (unwrap_or (cond b (Some n) o) 0 == n + 0) ≡ b
first-step n o true later = eq-eqb n (n + 0) (omega arith)
first-step n o false later = ne_eqb (unwrap_or o 0) (n + 0) later

later-step : (l n k x j : ℕ) (o : Option ℕ) (b : Bool) → (k == l) ≡ b → (k == x) ≡ false → (unwrap_or o 0 == n + suc j) ≡ (x == l) → (unwrap_or (cond b (Some n) o) 0 == n + suc j) ≡ (x == l)
later-step l n k x j o true e other later =
    let same : k ≡ l = eqb-true k l e in
    ne_eqb n (n + suc j) (λ eq. omega arith) ∙ sym (ne_eqb x l (λ eq. true-false (sym (eq-eqb k x (same ∙ sym eq)) ∙ other)))
later-step l n k x j o false e other later = later

-- of different lines, the one at place j has the number j + n, and no other
pub number-at : (l n : ℕ) (ls : List ℕ) (j : ℕ) → 1 ≤ n → j < length ls → Pairs Differ ls → (unwrap_or (position_from (λ m. m == l) n ls) 0 == n + j) ≡ (get_or ls j 0 == l)
number-at l n [] j one within differ = absurd (omega arith)
number-at l n (k ∷ ls) zero one within differ =
    first-step n (position_from (λ m. m == l) (n + 1) ls) (k == l) (past-zero l (n + 1) ls (n + 0) (λ z. omega arith) (omega arith))
number-at l n (k ∷ ls) (suc j) one within differ =
    let e : n + suc j ≡ (n + 1) + j = omega arith in
    let later : (unwrap_or (position_from (λ m. m == l) (n + 1) ls) 0 == n + suc j) ≡ (get_or ls j 0 == l) =
    ap (λ (i : ℕ). unwrap_or (position_from (λ m. m == l) (n + 1) ls) 0 == i) e ∙ number-at l (n + 1) ls j (omega arith) (omega arith) differ.1 in
    later-step l n k (get_or ls j 0) j (position_from (λ m. m == l) (n + 1) ls) (k == l) refl (all-at (Differ k) ls j 0 (omega arith) differ.0) later

-- the operations of these lines, as the machine numbers them
abbrev pub numbered_lines : List ℕ → List (Option ℕ) → List OpNo
numbered_lines ls lines = map (λ line. record { 0 = number_among ls line }) lines

-- whether one of the lines is this one
abbrev pub is_line_named : List (Option ℕ) → ℕ → Bool
is_line_named lines l = list_any (is_line l) lines

line-at : (ls : List ℕ) (j : ℕ) (line : Option ℕ) → j < length ls → Pairs Differ ls → (number_among ls line == 1 + j) ≡ is_line (get_or ls j 0) line
line-at ls j None within differ = ne_eqb 0 (1 + j) (λ e. omega arith)
line-at ls j (Some l) within differ = number-at l 1 ls j (omega arith) within differ

lines-at : (ls : List ℕ) (j : ℕ) (lines : List (Option ℕ)) → j < length ls → Pairs Differ ls → is_named (numbered_lines ls lines) (1 + j) ≡ is_line_named lines (get_or ls j 0)
lines-at ls j [] within differ = refl
lines-at ls j (line ∷ lines) within differ = λ i. line-at ls j line within differ i || lines-at ls j lines within differ i

set-at : (ops : List OpNo) (n : ℕ) → is_named (each_once ops) n ≡ is_named ops n
set-at ops n = named-numbers (each_once ops) n ∙ (any-each_once (λ k. k == n) ops ∙ sym (named-numbers ops n))

are-named-from : (named : ℕ → Bool) (ops : List OpNo) (n : ℕ) (ls : List ℕ) → ((j : ℕ) → j < length ls → is_named ops (n + j) ≡ named (get_or ls j 0)) → AreNamed named ops n ls
are-named-from named ops n [] f = tt
are-named-from named ops n (l ∷ ls) f =
    let e : n + 0 ≡ n = omega arith in (
      ap (is_named ops) (sym e) ∙ f 0 (omega arith),
      are-named-from named ops (n + 1) ls (λ j within.
          let e : (n + 1) + j ≡ n + suc j = omega arith in
          ap (is_named ops) e ∙ f (suc j) (omega arith)),
    )

-- the operations of some lines are named exactly where the lines are
pub are-named : (ls : List ℕ) (lines : List (Option ℕ)) → Pairs Differ ls → AreNamed (is_line_named lines) (each_once (numbered_lines ls lines)) 1 ls
are-named ls lines differ =
    are-named-from (is_line_named lines) (each_once (numbered_lines ls lines)) 1 ls (λ j within. set-at (numbered_lines ls lines) (1 + j) ∙ lines-at ls j lines within differ)

-- whether the line did no operation
abbrev pub is_lost : List ℕ → Option ℕ → Bool
is_lost ls None = true
is_lost ls (Some l) = not (list_any (λ m. m == l) ls)

lost-step : {X : Type 0} (n : ℕ) (b : Bool) (o : Option ℕ) (c : Bool) (at : ℕ → Option X) → is_none (at n) ≡ false → is_none (at (unwrap_or o 0)) ≡ not c → is_none (at (unwrap_or (cond b (Some n) o) 0)) ≡ not (b || c)
lost-step n true o c at there later = there
lost-step n false o c at there later = later

item-there : {X : Type 0} (xs : List X) (n : ℕ) → 1 ≤ n → n < 1 + length xs → is_none (item_at xs n) ≡ false
item-there xs zero one within = absurd (omega arith)
item-there xs (suc k) one within = elim ((slice_get_cases xs k).1) [
  | inl found ↦ ap is_none found.2
  | inr past ↦ let (long, is) = past in absurd (omega arith)
]

lost-from : {X : Type 0} (xs : List X) (l n : ℕ) (ls : List ℕ) → 1 ≤ n → (n + length ls ≡ 1 + length xs) → is_none (item_at xs (unwrap_or (position_from (λ m. m == l) n ls) 0)) ≡ not (list_any (λ m. m == l) ls)
lost-from xs l n [] one long = refl
lost-from xs l n (k ∷ ls) one long =
    lost-step n (k == l) (position_from (λ m. m == l) (n + 1) ls) (list_any (λ m. m == l) ls) (item_at xs) (item-there xs n one (omega arith)) (lost-from xs l (n + 1) ls (omega arith) (omega arith))

lost-one : {X : Type 0} (xs : List X) (ls : List ℕ) (line : Option ℕ) → length ls ≡ length xs → is_none (item_at xs (number_among ls line)) ≡ is_lost ls line
lost-one xs ls None long = refl
lost-one xs ls (Some l) long = lost-from xs l 1 ls (omega arith) (omega arith)

lost-all : {X : Type 0} (xs : List X) (ls : List ℕ) (lines : List (Option ℕ)) → length ls ≡ length xs → list_any (λ n. is_none (item_at xs n)) (numbers_of (numbered_lines ls lines)) ≡ list_any (is_lost ls) lines
lost-all xs ls [] long = refl
lost-all xs ls (line ∷ lines) long = λ i. lost-one xs ls line long i || lost-all xs ls lines long i

-- an operation that is named is not there where its line did none
pub unknown-lines : (xs : List HeldOp) (ls : List ℕ) (lines : List (Option ℕ)) → length ls ≡ length xs → list_any (λ n. is_none (operation_at xs n)) (numbers_of (each_once (numbered_lines ls lines))) ≡ list_any (is_lost ls) lines
unknown-lines xs ls lines long = any-each_once (λ n. is_none (operation_at xs n)) (numbered_lines ls lines) ∙ lost-all xs ls lines long

lines-of : (ls : List ℕ) (xs : List HeldOp) → length ls ≡ length xs → map (λ o. o.line) (by_line ls xs) ≡ ls
lines-of [] [] e = refl
lines-of [] (x ∷ xs) e = absurd cc
lines-of (l ∷ ls) [] e = absurd cc
lines-of (l ∷ ls) (x ∷ xs) e = ap (λ (ks : List ℕ). l ∷ ks) (lines-of ls xs cc)

-- the same lines did operations
pub any-line : (test : ℕ → Bool) (ls ks : List ℕ) (xs ys : List HeldOp) → length ls ≡ length xs → length ks ≡ length ys → AreSameByObject (by_line ls xs) (by_line ks ys) → list_any test ls ≡ list_any test ks
any-line test ls ks xs ys here there same =
    ap (list_any test) (sym (lines-of ls xs here))
    ∙ (any-map (λ o. o.line) test (by_line ls xs)
    ∙ (any-same (λ o. test o.line) (by_line ls xs) (by_line ks ys) same
    ∙ (sym (any-map (λ o. o.line) test (by_line ks ys)) ∙ ap (list_any test) (lines-of ks ys there))))

lost-same : (ls ks : List ℕ) → ((test : ℕ → Bool) → list_any test ls ≡ list_any test ks) → (line : Option ℕ) → is_lost ls line ≡ is_lost ks line
lost-same ls ks same None = refl
lost-same ls ks same (Some l) = ap not (same (λ m. m == l))

any-agree : {X : Type 0} (p q : X → Bool) → ((x : X) → p x ≡ q x) → (xs : List X) → list_any p xs ≡ list_any q xs
any-agree p q same xs i = list_any (λ x. same x i) xs

pub unknown-same : (ls ks : List ℕ) (xs ys : List HeldOp) (lines : List (Option ℕ)) → length ls ≡ length xs → length ks ≡ length ys → AreSameByObject (by_line ls xs) (by_line ks ys) →
    list_any (λ n. is_none (operation_at xs n)) (numbers_of (each_once (numbered_lines ls lines))) ≡ list_any (λ n. is_none (operation_at ys n)) (numbers_of (each_once (numbered_lines ks lines)))
unknown-same ls ks xs ys lines here there same =
    unknown-lines xs ls lines here
    ∙ (any-agree (is_lost ls) (is_lost ks) (lost-same ls ks (λ test. any-line test ls ks xs ys here there same)) lines
    ∙ sym (unknown-lines ys ks lines there))
