-- The cases that no operation of a list is named, and that all are.
use Rattle.std.specs.Prelude.{◌≡◌, ℕ, ◌==◌, Bool, true, false, not, ◌&&◌, ◌||◌, List, [], ◌∷◌, ◌++◌, length, filter, find, Some, None}
use Rattle.std.specs.List.{list_all, list_any}
use Rattle.std.proofs.Common.{arith, cond, refl, sym, ap, ◌∙◌}
use Rattle.std.proofs.lemmas.Bool.{eqb-true, and_parts}
use Rattle.std.proofs.lemmas.Bool.Decides.{Decides-eqb}
use Rattle.std.proofs.lemmas.List.{append_assoc}
use Rattle.std.proofs.lemmas.List.Folds.{list_any-append}
use Rattle.acta_table.specs.declared.event.OpNo.{OpNo}
use Rattle.acta_table.specs.Sets.{numbers_of, is_named}
use Rattle.acta_sets.specs.inside.Held.{named_of, without}

none_in : (named : List OpNo) → true ≡ (length named == 0) → named ≡ []
none_in [] e = refl
none_in (n ∷ named) e = let none : length (n ∷ named) ≡ 0 = eqb-true (length (n ∷ named)) 0 (sym e) in absurd (omega arith)

none_named : (ops : List ℕ) → named_of [] ops ≡ []
none_named [] = refl
none_named (o ∷ ops) = none_named ops

all_without : (ops : List ℕ) → without [] ops ≡ ops
all_without [] = refl
all_without (o ∷ ops) = ap (λ (rest : List ℕ). o ∷ rest) (all_without ops)

-- no item of the list is named
pub named_of-none : (named : List OpNo) (ops : List ℕ) → true ≡ (length named == 0) → named_of named ops ≡ []
named_of-none named ops e = ap (λ (ns : List OpNo). named_of ns ops) (none_in named e) ∙ none_named ops

-- and all of the list is left
pub without-none : (named : List OpNo) (ops : List ℕ) → true ≡ (length named == 0) → without named ops ≡ ops
without-none named ops e = ap (λ (ns : List OpNo). without ns ops) (none_in named e) ∙ all_without ops

or_true : (b : Bool) → (b || true) ≡ true
or_true true = refl
or_true false = refl

-- each of the named operations is named
self_named : (front ops : List OpNo) → list_all (is_named (front ++ ops)) (numbers_of ops) ≡ true
self_named front [] = refl
self_named front (o ∷ ops) =
    let here : is_named (front ++ o ∷ ops) o.0 ≡ true =
    list_any-append (λ (p : OpNo). p.0 == o.0) front (o ∷ ops) ∙ ap (λ b. list_any (λ (p : OpNo). p.0 == o.0) front || (b || list_any (λ (p : OpNo). p.0 == o.0) ops)) ((Decides-eqb o.0 o.0).1 refl) ∙ or_true (list_any (λ (p : OpNo). p.0 == o.0) front) in
    let rest : list_all (is_named (front ++ o ∷ ops)) (numbers_of ops) ≡ true =
    ap (λ (named : List OpNo). list_all (is_named named) (numbers_of ops)) (sym (append_assoc front (o ∷ []) ops)) ∙ self_named (front ++ o ∷ []) ops in
    ap (λ b. b && list_all (is_named (front ++ o ∷ ops)) (numbers_of ops)) here ∙ rest

all_kept : (p : ℕ → Bool) (ns : List ℕ) → list_all p ns ≡ true → filter p ns ≡ ns
all_kept p [] e = refl
all_kept p (n ∷ ns) e =
    let parts = and_parts (p n) (list_all p ns) e in
    ap (λ b. cond b (n ∷ filter p ns) (filter p ns)) parts.0 ∙ ap (λ (rest : List ℕ). n ∷ rest) (all_kept p ns parts.1)

none_kept : (p : ℕ → Bool) (ns : List ℕ) → list_all p ns ≡ true → filter (λ n. not (p n)) ns ≡ []
none_kept p [] e = refl
none_kept p (n ∷ ns) e =
    let parts = and_parts (p n) (list_all p ns) e in
    ap (λ b. cond (not b) (n ∷ filter (λ k. not (p k)) ns) (filter (λ k. not (p k)) ns)) parts.0 ∙ none_kept p ns parts.1

none_found : (p : ℕ → Bool) (ns : List ℕ) → list_all p ns ≡ true → find (λ n. not (p n)) ns ≡ None
none_found p [] e = refl
none_found p (n ∷ ns) e =
    let parts = and_parts (p n) (list_all p ns) e in
    ap (λ b. cond (not b) (Some n) (find (λ k. not (p k)) ns)) parts.0 ∙ none_found p ns parts.1

-- all items of the list are named
pub named_of-all : (named : List OpNo) (ops : List ℕ) → ops ≡ numbers_of named → named_of named ops ≡ ops
named_of-all named ops e = all_kept (is_named named) ops (ap (list_all (is_named named)) e ∙ self_named [] named)

-- and none of the list is left
pub without-all : (named : List OpNo) (ops : List ℕ) → ops ≡ numbers_of named → without named ops ≡ []
without-all named ops e = none_kept (is_named named) ops (ap (list_all (is_named named)) e ∙ self_named [] named)

pub unnamed-none : (named : List OpNo) (ops : List ℕ) → ops ≡ numbers_of named → find (λ n. not (is_named named n)) ops ≡ None
unnamed-none named ops e = none_found (is_named named) ops (ap (list_all (is_named named)) e ∙ self_named [] named)
