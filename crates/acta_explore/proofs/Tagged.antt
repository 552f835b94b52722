-- Operations with the lines that did them.
use Rattle.std.proofs.Common.{◌≡◌, ℕ, Bool, true, false, ◌||◌, List, [], ◌∷◌, map, filter, length, refl, sym, ap, ◌∙◌, cond}
use Rattle.std.specs.List.{list_any}
use Rattle.std.proofs.lemmas.Bool.{eq-eqb}
use Rattle.acta_sets.specs.declared.held_op.HeldOp.{HeldOp}
use Rattle.acta_explore.specs.declared.key.LineOp.{LineOp}
use Rattle.acta_explore.specs.Equivalence.{by_line, is_on, AreSameByObject}
use Rattle.acta_explore.proofs.Anys.{any-map}

-- without their lines
pub held-by_line : (ls : List ℕ) (xs : List HeldOp) → length ls ≡ length xs → map (λ o. o.held) (by_line ls xs) ≡ xs
held-by_line [] [] e = refl
held-by_line [] (x ∷ xs) e = absurd cc
held-by_line (l ∷ ls) [] e = absurd cc
held-by_line (l ∷ ls) (x ∷ xs) e = ap (λ (ys : List HeldOp). x ∷ ys) (held-by_line ls xs cc)

any-held : (test : HeldOp → Bool) (ls : List ℕ) (xs : List HeldOp) → length ls ≡ length xs → list_any test xs ≡ list_any (λ o. test o.held) (by_line ls xs)
any-held test ls xs e = ap (list_any test) (sym (held-by_line ls xs e)) ∙ any-map (λ o. o.held) test (by_line ls xs)

-- some element that passes is on some object
record IsSomewhere (test : LineOp → Bool) (xs : List LineOp) : Type 0 where
  ob : ℕ
  on : list_any test (filter (is_on ob) xs) ≡ true

further : (test : LineOp → Bool) (ob : ℕ) (x : LineOp) (xs : List LineOp) (b : Bool) → list_any test (filter (is_on ob) xs) ≡ true → list_any test (cond b (x ∷ filter (is_on ob) xs) (filter (is_on ob) xs)) ≡ true
further test ob x xs true e = second (test x) (list_any test (filter (is_on ob) xs)) e
  where
    second : (a b : Bool) → b ≡ true → (a || b) ≡ true
    second true b e = refl
    second false b e = e
further test ob x xs false e = e

somewhere-step : (test : LineOp → Bool) (x : LineOp) (xs : List LineOp) → (list_any test xs ≡ true → IsSomewhere test xs) → (b : Bool) → test x ≡ b → (b || list_any test xs) ≡ true → IsSomewhere test (x ∷ xs)
somewhere-step test x xs later true e h = record {
  ob = x.held.ob.0;
  on = ap (λ (b : Bool). list_any test (cond b (x ∷ filter (is_on x.held.ob.0) xs) (filter (is_on x.held.ob.0) xs))) (eq-eqb x.held.ob.0 x.held.ob.0 refl)
      ∙ ap (λ (b : Bool). b || list_any test (filter (is_on x.held.ob.0) xs)) e;
}
somewhere-step test x xs later false e h =
    let there = later h in
    record { ob = there.ob; on = further test there.ob x xs (is_on there.ob x) there.on }

somewhere : (test : LineOp → Bool) (xs : List LineOp) → list_any test xs ≡ true → IsSomewhere test xs
somewhere test [] e = absurd cc
somewhere test (x ∷ xs) e = somewhere-step test x xs (somewhere test xs) (test x) refl e

-- and one of those on an object is one of all
anywhere-step : (test : LineOp → Bool) (x : LineOp) (xs ys : List LineOp) (b : Bool) → (list_any test ys ≡ true → list_any test xs ≡ true) → list_any test (cond b (x ∷ ys) ys) ≡ true → (test x || list_any test xs) ≡ true
anywhere-step test x xs ys true later e = either (test x) (list_any test ys) (list_any test xs) later e
  where
    either : (a b c : Bool) → (b ≡ true → c ≡ true) → (a || b) ≡ true → (a || c) ≡ true
    either true b c f e = refl
    either false b c f e = f e
anywhere-step test x xs ys false later e = second (test x) (list_any test xs) (later e)
  where
    second : (a b : Bool) → b ≡ true → (a || b) ≡ true
    second true b e = refl
    second false b e = e

anywhere : (test : LineOp → Bool) (ob : ℕ) (xs : List LineOp) → list_any test (filter (is_on ob) xs) ≡ true → list_any test xs ≡ true
anywhere test ob [] e = e
anywhere test ob (x ∷ xs) e = anywhere-step test x xs (filter (is_on ob) xs) (is_on ob x) (anywhere test ob xs) e

across : (test : LineOp → Bool) (xs ys : List LineOp) → AreSameByObject xs ys → list_any test xs ≡ true → list_any test ys ≡ true
across test xs ys same e =
    let there = somewhere test xs e in
    anywhere test there.ob ys (ap (list_any test) (sym (same there.ob)) ∙ there.on)

one-answer : (a b : Bool) → (a ≡ true → b ≡ true) → (b ≡ true → a ≡ true) → a ≡ b
one-answer true b f g = sym (f refl)
one-answer false true f g = g refl
one-answer false false f g = refl

-- lists with the same operations on each object pass the same tests
pub any-same : (test : LineOp → Bool) (xs ys : List LineOp) → AreSameByObject xs ys → list_any test xs ≡ list_any test ys
any-same test xs ys same =
    one-answer (list_any test xs) (list_any test ys) (across test xs ys same) (across test ys xs (λ ob. sym (same ob)))

-- of the operations alone
pub held-same : (test : HeldOp → Bool) (ls ks : List ℕ) (xs ys : List HeldOp) → length ls ≡ length xs → length ks ≡ length ys → AreSameByObject (by_line ls xs) (by_line ks ys) → list_any test xs ≡ list_any test ys
held-same test ls ks xs ys here there same =
    any-held test ls xs here ∙ (any-same (λ o. test o.held) (by_line ls xs) (by_line ks ys) same ∙ sym (any-held test ks ys there))
