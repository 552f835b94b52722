-- The memory with one state more; and packed marks determine the marks.
use Rattle.std.proofs.Common.{arith, ◌≡◌, ℕ, zero, suc, ◌+◌, ◌-◌, ◌*◌, ◌/◌, ◌<◌, ◌≤◌, Bool, true, false, List, [], ◌∷◌, ◌++◌, length, get_or, take, drop, map, fold, refl, sym, ap, ◌∙◌, subst}
use Rattle.std.specs.List.{Contains}
use Rattle.std.proofs.lemmas.List.{append_assoc, append-nil, map-append, length-append, length-map, length-take, length-drop, take-append-drop}
use Rattle.acta_order.specs.declared.memo.Entry.{Entry}
use Rattle.acta_order.specs.Memos.{Grows, IsShared}
use Rattle.acta_order.specs.Packed.{with_bit, number_of, packed}
use Rattle.acta_order.specs.Remembered.{Remembered, Common, common_at, state_of, remembered, AreShared}

-- shared parts keep their places

get-before : {X : Type 0} (xs ys : List X) (i : ℕ) (d : X) → i < length xs → get_or (xs ++ ys) i d ≡ get_or xs i d
get-before [] ys i d within = absurd (omega (arith, within))
get-before (x ∷ xs) ys zero d within = refl
get-before (x ∷ xs) ys (suc i) d within = get-before xs ys i d (omega (arith, within))

pub grows-same : {A : Type 0} (old new : List (Common A)) → new ≡ old → Grows old new
grows-same {A} old new is = record {
  longer = let e = ap (λ (xs : List (Common A)). length xs) is in omega (arith, e);
  same = λ i within. ap (λ (xs : List (Common A)). common_at xs i) is;
}

pub grows-push : {A : Type 0} (old new : List (Common A)) (c : Common A) → new ≡ old ++ c ∷ [] → Grows old new
grows-push {A} old new c is = record {
  longer = let e = ap (λ (xs : List (Common A)). length xs) is ∙ length-append old (c ∷ []) in omega (arith, e);
  same = λ i within. ap (λ (xs : List (Common A)). common_at xs i) is ∙ get-before old (c ∷ []) i (record { rest = []; changes = [] }) within;
}

pub remembered-grown : {A : Type 0} (old new : List (Common A)) (es : List Entry) → Grows old new → AreShared old es → remembered new es ≡ remembered old es
remembered-grown old new [] grows shared = refl
remembered-grown {A} old new (e ∷ es) grows shared =
    let same = grows.same e.shared shared.0 in
    let rest = remembered-grown old new es grows shared.1 in
    (λ i. record { words = e.word ∷ (same i).rest; changes = (same i).changes } ∷ rest i)

pub shared-grown : {A : Type 0} (old new : List (Common A)) (es : List Entry) → Grows old new → AreShared old es → AreShared new es
shared-grown old new [] grows shared = tt
shared-grown old new (e ∷ es) grows shared = (let l = grows.longer in let w = shared.0 in omega (arith, l, w), shared-grown old new es grows shared.1)

pub shared-more : {A : Type 0} (new : List (Common A)) (es : List Entry) (e : Entry) → AreShared new es → e.shared < length new → AreShared new (es ++ e ∷ [])
shared-more new [] e shared within = (within, tt)
shared-more new (x ∷ es) e shared within = (shared.0, shared-more new es e shared.1 within)

-- an entry that is shared so is this state
pub state-is : {A : Type 0} (shared : List (Common A)) (word place : ℕ) (rest : List ℕ) (changes : List _) → IsShared shared rest changes place → state_of shared (record { word = word; shared = place }) ≡ record { words = word ∷ rest; changes = changes }
state-is shared word place rest changes is = λ i. record { words = word ∷ (is.is i).rest; changes = (is.is i).changes }

pub put-more : {A : Type 0} (old new : List (Common A)) (es more : List Entry) (word place : ℕ) (rest : List ℕ) (changes : List _) → Grows old new → AreShared old es → IsShared new rest changes place → more ≡ es ++ (record { word = word; shared = place }) ∷ []
    → remembered new more ≡ remembered old es ++ (record { words = word ∷ rest; changes = changes }) ∷ []
put-more {A} old new es more word place rest changes grows shared is grown =
    ap (remembered new) grown ∙ map-append (state_of new) es ((record { word = word; shared = place }) ∷ [])
    ∙ (λ i. remembered-grown old new es grows shared i ++ state-is new word place rest changes is i ∷ [])

get-map : {X Y : Type 0} (f : X → Y) (xs : List X) (i : ℕ) (x d : X) (e : Y) → i < length xs → get_or (map f xs) i e ≡ f (get_or xs i d)
get-map f [] i x d e within = absurd (omega (arith, within))
get-map f (y ∷ xs) zero x d e within = refl
get-map f (y ∷ xs) (suc i) x d e within = get-map f xs i x d e (omega (arith, within))

contains-map : {X Y : Type 0} (f : X → Y) (xs : List X) (x : X) → Contains xs x → Contains (map f xs) (f x)
contains-map f xs x there = (
  there.0,
  (let e = length-map xs f in let w = there.1 in omega (arith, e, w)),
  get-map f xs there.0 x x (f x) there.1 ∙ ap f there.2,
)

pub contains-state : {A : Type 0} (shared : List (Common A)) (es : List Entry) (word place : ℕ) (rest : List ℕ) (changes : List _) → IsShared shared rest changes place → Contains es (record { word = word; shared = place }) → Contains (remembered shared es) (record { words = word ∷ rest; changes = changes })
contains-state {A} shared es word place rest changes is there =
    subst (λ (e : Remembered A). Contains (remembered shared es) e) (state-is shared word place rest changes is)
    (contains-map (state_of shared) es (record { word = word; shared = place }) there)

-- bits

same-fold : (xs ys : List Bool) (a b : ℕ) → length xs ≡ length ys → fold with_bit a xs ≡ fold with_bit b ys → (a ≡ b) × (xs ≡ ys)
same-fold [] [] a b long is = (is, refl)
same-fold [] (y ∷ ys) a b long is = absurd (omega (arith, long))
same-fold (x ∷ xs) [] a b long is = absurd (omega (arith, long))
same-fold (x ∷ xs) (y ∷ ys) a b long is =
    let rest = same-fold xs ys (with_bit a x) (with_bit b y) (omega (arith, long)) is in
    of x y rest.0 rest.1
  where
    of : (x y : Bool) → with_bit a x ≡ with_bit b y → xs ≡ ys → (a ≡ b) × (x ∷ xs ≡ y ∷ ys)
    of true true e same = (omega (arith, e), λ i. true ∷ same i)
    of true false e same = absurd (omega (arith, e))
    of false true e same = absurd (omega (arith, e))
    of false false e same = (omega (arith, e), λ i. false ∷ same i)

nothing : (xs : List Bool) → length xs ≤ 0 → xs ≡ []
nothing [] none = refl
nothing (x ∷ xs) none = absurd (omega (arith, none))

pub same-packed : (n : ℕ) (xs ys : List Bool) → length xs ≡ length ys → length xs ≤ 64 * n → packed n xs ≡ packed n ys → xs ≡ ys
same-packed zero xs ys long few is = nothing xs (omega (arith, few)) ∙ sym (nothing ys (omega (arith, few, long)))
same-packed (suc n) xs ys long few is =
    let tx = length-take 64 xs in
    let ty = length-take 64 ys in
    let dx = length-drop 64 xs in
    let dy = length-drop 64 ys in
    let first = (same-fold (take 64 xs) (take 64 ys) 0 0 (omega (arith, tx, ty, long)) (ap (λ (ws : List ℕ). get_or ws 0 0) is)).1 in
    let later = same-packed n (drop 64 xs) (drop 64 ys) (omega (arith, dx, dy, long)) (omega (arith, dx, few)) (ap (λ (ws : List ℕ). drop 1 ws) is) in
    sym (take-append-drop 64 xs) ∙ (λ i. first i ++ later i) ∙ take-append-drop 64 ys

pub words-enough : (marks : List Bool) (size : ℕ) → length marks ≡ size → length marks ≤ 64 * (size / 64 + 1)
words-enough marks size long = omega (arith, long)

-- words, one more
pub packed-next : (n i : ℕ) (words more : List ℕ) (marks left first behind : List Bool) (word : ℕ) → i < n → first ≡ take 64 left → behind ≡ drop 64 left → word ≡ number_of first → more ≡ words ++ word ∷ [] → words ++ packed (n - i) left ≡ packed n marks
    → more ++ packed (n - (i + 1)) behind ≡ packed n marks
packed-next n i words more marks left first behind word within front back is grown before =
    let count : suc (n - (i + 1)) ≡ n - i = omega (arith, within) in
    (λ k. grown k ++ packed (n - (i + 1)) (back k)) ∙ append_assoc words (word ∷ []) (packed (n - (i + 1)) (drop 64 left))
    ∙ ap (λ w. words ++ w ∷ packed (n - (i + 1)) (drop 64 left)) (is ∙ ap number_of front)
    ∙ ap (λ m. words ++ packed m left) count ∙ before

pub packed-end : (n i : ℕ) (words : List ℕ) (marks left : List Bool) → n ≤ i → words ++ packed (n - i) left ≡ packed n marks → words ≡ packed n marks
packed-end n i words marks left past before =
    let none : n - i ≡ 0 = omega (arith, past) in
    sym (ap (λ m. words ++ packed m left) none ∙ append-nil words) ∙ before
