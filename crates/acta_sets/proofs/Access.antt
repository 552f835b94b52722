-- The lists of what each transaction holds, after an operation is added, ended or transferred.
--     length-numbers_by            how many numbers there are
--     each_changed    what is done to each of some numbers, one after another, is done to all that pass
--     joined_is                    two lists put together
--     AreHeld-...                  the lists of all transactions
use Rattle.std.specs.Prelude.{◌≡◌, ◌<◌, ◌≤◌, ℕ, zero, suc, ◌+◌, Bool, true, false, not, ◌&&◌, ◌||◌, nat_lt, ◌==◌, ◌⊎◌, List, [], ◌∷◌, ◌++◌, map, length, get_or, set, fold, filter, slice_get, if◌then◌else◌}
use Rattle.std.proofs.Common.{arith, refl, sym, ap, subst, ◌∙◌, ⊎_elim, inl, inr}
use Rattle.std.proofs.lemmas.Grind.{common_steps}
use Rattle.std.proofs.lemmas.Bool.{cases_eq, ne_eqb, eq-eqb, and_parts}
use Rattle.std.proofs.lemmas.Bool.Decides.{nat_tests}
use Rattle.smallvec.specs.SmallVec.{SmallVec}
use Rattle.acta_table.specs.declared.event.TxnId.{TxnId}
use Rattle.acta_table.specs.declared.event.OpNo.{OpNo}
use Rattle.acta_table.specs.Numbered.{numbers_from, numbers_where}
use Rattle.acta_sets.specs.declared.held_op.HeldOp.{HeldOp}
use Rattle.acta_table.specs.declared.answer.Fate.{Fate}
use Rattle.acta_table.specs.Fates.{is_open}
use Rattle.acta_table.specs.Sets.{is_named}
use Rattle.std.specs.List.{list_all}
use Rattle.std.specs.Option.{option_map_or}
use Rattle.acta_sets.specs.Operations.{is_held, are_held, operation_at, ended, ended_op, transferred, transferred_op, moved, moved_from, transferred_of, transferred_from}
use Rattle.acta_sets.specs.inside.Held.{list_at, AreHeld, numbers_by, changed_from, changed_each, merge, last_below, is_below, joined, with_fate, held_by, without}

-- a test that does not see numbers
pub numbers_by-all : (test : HeldOp → Bool) (n : ℕ) (items : List HeldOp) → numbers_by (λ _ i. test i) n items ≡ numbers_from test n items
numbers_by-all test n [] = refl
numbers_by-all test n (i ∷ items) = ap (λ l. if test i then n ∷ l else l) (numbers_by-all test (n + 1) items)

pub numbers_by-same : (p q : ℕ → HeldOp → Bool) (n : ℕ) (items : List HeldOp) → ((k : ℕ) (i : HeldOp) → p k i ≡ q k i) → numbers_by p n items ≡ numbers_by q n items
numbers_by-same p q n [] same = refl
numbers_by-same p q n (i ∷ items) same =
    ap (λ b. if b then n ∷ numbers_by p (n + 1) items else numbers_by p (n + 1) items) (same n i)
    ∙ ap (λ l. if q n i then n ∷ l else l) (numbers_by-same p q (n + 1) items same)

-- there are no more numbers than operations
fewer_step : (b : Bool) (n k : ℕ) (ns : List ℕ) → length ns ≤ k → length (if b then n ∷ ns else ns) ≤ suc k
fewer_step true n k ns le = omega (arith, le)
fewer_step false n k ns le = omega (arith, le)

pub length-numbers_by : (test : ℕ → HeldOp → Bool) (n : ℕ) (items : List HeldOp) → length (numbers_by test n items) ≤ length items
length-numbers_by test n [] = omega arith
length-numbers_by test n (i ∷ items) = fewer_step (test n i) n (length items) (numbers_by test (n + 1) items) (length-numbers_by test (n + 1) items)

-- changing an item whose number is below all others changes none of them
changed_below : (f : HeldOp → HeldOp) (o n : ℕ) (items : List HeldOp) → o < n → changed_from (λ k _. k == o) f n items ≡ items
changed_below f o n [] lt = refl
changed_below f o n (i ∷ items) lt =
    let off : (n == o) ≡ false = ne_eqb n o (λ e. omega (arith, e)) in
    ap (λ b. (if b then f i else i) ∷ changed_from (λ k _. k == o) f (n + 1) items) off
    ∙ ap (λ l. i ∷ l) (changed_below f o (n + 1) items (omega arith))

abbrev each_from : (HeldOp → HeldOp) → ℕ → List HeldOp → List ℕ → List HeldOp
each_from f n items ops = fold (λ is o. changed_from (λ k _. k == o) f n is) items ops

-- later changes leave the first item unchanged
past_step : (test : ℕ → HeldOp → Bool) (f : HeldOp → HeldOp) (n m : ℕ) (i : HeldOp) (items others : List HeldOp) (b : Bool) → n < m
    → ((is : List HeldOp) → each_from f n (i ∷ is) (numbers_by test (m + 1) others) ≡ i ∷ each_from f (n + 1) is (numbers_by test (m + 1) others))
    → each_from f n (i ∷ items) (if b then m ∷ numbers_by test (m + 1) others else numbers_by test (m + 1) others)
    ≡ i ∷ each_from f (n + 1) items (if b then m ∷ numbers_by test (m + 1) others else numbers_by test (m + 1) others)
past_step test f n m i items others true lt later =
    ap (λ b. each_from f n ((if b then f i else i) ∷ changed_from (λ k _. k == m) f (n + 1) items) (numbers_by test (m + 1) others)) (ne_eqb n m (λ e. omega (arith, e)))
    ∙ later (changed_from (λ k _. k == m) f (n + 1) items)
past_step test f n m i items others false lt later = later items

each_past : (test : ℕ → HeldOp → Bool) (f : HeldOp → HeldOp) (n m : ℕ) (i : HeldOp) (items others : List HeldOp) → n < m
    → each_from f n (i ∷ items) (numbers_by test m others) ≡ i ∷ each_from f (n + 1) items (numbers_by test m others)
each_past test f n m i items [] lt = refl
each_past test f n m i items (j ∷ others) lt =
    past_step test f n m i items others (test m j) lt (λ is. each_past test f n (m + 1) i is others (omega (arith, lt)))

-- changing each of the items that pass the test is changing those that pass
changed_step : (test : ℕ → HeldOp → Bool) (f : HeldOp → HeldOp) (n : ℕ) (i : HeldOp) (items : List HeldOp) (b : Bool)
    → each_from f (n + 1) items (numbers_by test (n + 1) items) ≡ changed_from test f (n + 1) items
    → each_from f n (i ∷ items) (if b then n ∷ numbers_by test (n + 1) items else numbers_by test (n + 1) items)
    ≡ (if b then f i else i) ∷ changed_from test f (n + 1) items
changed_step test f n i items true later =
    let on : (n == n) ≡ true = grind (arith, nat_tests) in
    ap (λ b. each_from f n ((if b then f i else i) ∷ changed_from (λ k _. k == n) f (n + 1) items) (numbers_by test (n + 1) items)) on
    ∙ ap (λ l. each_from f n (f i ∷ l) (numbers_by test (n + 1) items)) (changed_below f n (n + 1) items (omega arith))
    ∙ each_past test f n (n + 1) (f i) items items (omega arith)
    ∙ ap (λ l. f i ∷ l) later
changed_step test f n i items false later =
    each_past test f n (n + 1) i items items (omega arith) ∙ ap (λ l. i ∷ l) later

pub each_changed : (test : ℕ → HeldOp → Bool) (f : HeldOp → HeldOp) (n : ℕ) (items : List HeldOp)
    → each_from f n items (numbers_by test n items) ≡ changed_from test f n items
each_changed test f n [] = refl
each_changed test f n (i ∷ items) = changed_step test f n i items (test n i) (each_changed test f (n + 1) items)

-- two lists joined
merge_low : (q : ℕ → HeldOp → Bool) (k j : ℕ) (ns : List ℕ) (items : List HeldOp) → k < j → merge (k ∷ ns) (numbers_by q j items) ≡ k ∷ merge ns (numbers_by q j items)
merge_low q k j ns [] lt = refl
merge_low q k j ns (i ∷ items) lt = low_step (q j i) (merge_low q k (j + 1) ns items (omega arith))
  where
    low_step : (b : Bool) → merge (k ∷ ns) (numbers_by q (j + 1) items) ≡ k ∷ merge ns (numbers_by q (j + 1) items)
        → merge (k ∷ ns) (if b then j ∷ numbers_by q (j + 1) items else numbers_by q (j + 1) items) ≡ k ∷ merge ns (if b then j ∷ numbers_by q (j + 1) items else numbers_by q (j + 1) items)
    low_step true later =
        let on : nat_lt k j ≡ true = grind (arith, nat_tests, lt) in
        ap (λ b. if b then k ∷ merge ns (j ∷ numbers_by q (j + 1) items) else j ∷ merge (k ∷ ns) (numbers_by q (j + 1) items)) on
    low_step false later = later

merge_high : (p : ℕ → HeldOp → Bool) (k j : ℕ) (ms : List ℕ) (items : List HeldOp) → k < j → merge (numbers_by p j items) (k ∷ ms) ≡ k ∷ merge (numbers_by p j items) ms
merge_high p k j ms [] lt = refl
merge_high p k j ms (i ∷ items) lt = high_step (p j i) (merge_high p k (j + 1) ms items (omega arith))
  where
    high_step : (b : Bool) → merge (numbers_by p (j + 1) items) (k ∷ ms) ≡ k ∷ merge (numbers_by p (j + 1) items) ms
        → merge (if b then j ∷ numbers_by p (j + 1) items else numbers_by p (j + 1) items) (k ∷ ms) ≡ k ∷ merge (if b then j ∷ numbers_by p (j + 1) items else numbers_by p (j + 1) items) ms
    high_step true later =
        let off : nat_lt j k ≡ false = grind (arith, nat_tests, lt) in
        ap (λ b. if b then j ∷ merge (numbers_by p (j + 1) items) (k ∷ ms) else k ∷ merge (j ∷ numbers_by p (j + 1) items) ms) off
    high_step false later = later

merged_step : (n : ℕ) (b c : Bool) (ns ms both : List ℕ) → (b && c) ≡ false → merge ns ms ≡ both
    → merge (n ∷ ns) ms ≡ n ∷ merge ns ms → merge ns (n ∷ ms) ≡ n ∷ merge ns ms
    → merge (if b then n ∷ ns else ns) (if c then n ∷ ms else ms) ≡ (if b || c then n ∷ both else both)
merged_step n true true ns ms both apart later low high = cc
merged_step n true false ns ms both apart later low high = low ∙ ap (λ l. n ∷ l) later
merged_step n false true ns ms both apart later low high = high ∙ ap (λ l. n ∷ l) later
merged_step n false false ns ms both apart later low high = later

merged_is : (p q : ℕ → HeldOp → Bool) (n : ℕ) (items : List HeldOp) → ((k : ℕ) (i : HeldOp) → (p k i && q k i) ≡ false)
    → merge (numbers_by p n items) (numbers_by q n items) ≡ numbers_by (λ k i. p k i || q k i) n items
merged_is p q n [] apart = refl
merged_is p q n (i ∷ items) apart =
    merged_step n (p n i) (q n i) (numbers_by p (n + 1) items) (numbers_by q (n + 1) items) (numbers_by (λ k i. p k i || q k i) (n + 1) items) (apart n i)
    (merged_is p q (n + 1) items apart) (merge_low q n (n + 1) (numbers_by p (n + 1) items) items (omega arith)) (merge_high p n (n + 1) (numbers_by q (n + 1) items) items (omega arith))

-- if the last of one list is below the first of the other, they may be concatenated
lower_step : (k n : ℕ) (b : Bool) (ns : List ℕ) → k ≤ n → (last_below ns k ≡ true → ns ≡ []) → last_below (if b then n ∷ ns else ns) k ≡ true → (if b then n ∷ ns else ns) ≡ []
lower_step k n true [] le later is = let off : nat_lt n k ≡ false = grind (arith, nat_tests, le) in cc
lower_step k n true (m ∷ ns) le later is = let none : m ∷ ns ≡ [] = later is in cc
lower_step k n false ns le later is = later is

no_lower : (p : ℕ → HeldOp → Bool) (k n : ℕ) (items : List HeldOp) → k ≤ n → last_below (numbers_by p n items) k ≡ true → numbers_by p n items ≡ []
no_lower p k n [] le is = refl
no_lower p k n (i ∷ items) le is = lower_step k n (p n i) (numbers_by p (n + 1) items) le (no_lower p k (n + 1) items (omega arith)) is

nothing_below : (ms : List ℕ) → is_below [] ms ≡ true
nothing_below [] = refl
nothing_below (m ∷ ms) = refl

still_below : (n : ℕ) (ns ms : List ℕ) → is_below (n ∷ ns) ms ≡ true → is_below ns ms ≡ true
still_below n ns [] is = refl
still_below n [] (m ∷ ms) is = refl
still_below n (o ∷ ns) (m ∷ ms) is = is

below_step : (p q : ℕ → HeldOp → Bool) (n : ℕ) (items : List HeldOp) (b c : Bool) (both : List ℕ) → (b && c) ≡ false
    → is_below (if b then n ∷ numbers_by p (n + 1) items else numbers_by p (n + 1) items) (if c then n ∷ numbers_by q (n + 1) items else numbers_by q (n + 1) items) ≡ true
    → (is_below (numbers_by p (n + 1) items) (numbers_by q (n + 1) items) ≡ true → numbers_by p (n + 1) items ++ numbers_by q (n + 1) items ≡ both)
    → (if b then n ∷ numbers_by p (n + 1) items else numbers_by p (n + 1) items) ++ (if c then n ∷ numbers_by q (n + 1) items else numbers_by q (n + 1) items) ≡ (if b || c then n ∷ both else both)
below_step p q n items true true both apart is later = cc
below_step p q n items true false both apart is later = ap (λ l. n ∷ l) (later (still_below n (numbers_by p (n + 1) items) (numbers_by q (n + 1) items) is))
below_step p q n items false true both apart is later =
    let none : numbers_by p (n + 1) items ≡ [] = no_lower p n (n + 1) items (omega arith) is in
    let rest : numbers_by q (n + 1) items ≡ both = ap (λ l. l ++ numbers_by q (n + 1) items) (sym none) ∙ later (ap (λ l. is_below l (numbers_by q (n + 1) items)) none ∙ nothing_below (numbers_by q (n + 1) items)) in
    ap (λ l. l ++ n ∷ numbers_by q (n + 1) items) none ∙ ap (λ l. n ∷ l) rest
below_step p q n items false false both apart is later = later is

appended_is : (p q : ℕ → HeldOp → Bool) (n : ℕ) (items : List HeldOp) → ((k : ℕ) (i : HeldOp) → (p k i && q k i) ≡ false)
    → is_below (numbers_by p n items) (numbers_by q n items) ≡ true → numbers_by p n items ++ numbers_by q n items ≡ numbers_by (λ k i. p k i || q k i) n items
appended_is p q n [] apart is = refl
appended_is p q n (i ∷ items) apart is =
    below_step p q n items (p n i) (q n i) (numbers_by (λ k i. p k i || q k i) (n + 1) items) (apart n i) is (appended_is p q (n + 1) items apart)

joined_step : (b : Bool) (ns ms both : List ℕ) → (b ≡ true → ns ++ ms ≡ both) → merge ns ms ≡ both → (if b then ns ++ ms else merge ns ms) ≡ both
joined_step true ns ms both one other = one refl
joined_step false ns ms both one other = other

pub joined_is : (p q : ℕ → HeldOp → Bool) (n : ℕ) (items : List HeldOp) → ((k : ℕ) (i : HeldOp) → (p k i && q k i) ≡ false)
    → joined (numbers_by p n items) (numbers_by q n items) ≡ numbers_by (λ k i. p k i || q k i) n items
joined_is p q n items apart =
    joined_step (is_below (numbers_by p n items) (numbers_by q n items)) (numbers_by p n items) (numbers_by q n items) (numbers_by (λ k i. p k i || q k i) n items)
    (appended_is p q n items apart) (merged_is p q n items apart)

-- one item is replaced
pub set-changed : (f : HeldOp → HeldOp) (o n k : ℕ) (items : List HeldOp) (d : HeldOp) → o ≡ n + k → k < length items
    → set items k (f (get_or items k d)) ≡ changed_from (λ m _. m == o) f n items
set-changed f o n k [] d at lt = refl
set-changed f o n zero (i ∷ items) d at lt =
    let on : (n == o) ≡ true = grind (arith, nat_tests, at) in
    ap (λ l. f i ∷ l) (sym (changed_below f o (n + 1) items (omega arith))) ∙ ap (λ b. (if b then f i else i) ∷ changed_from (λ m _. m == o) f (n + 1) items) (sym on)
set-changed f o n (suc k) (i ∷ items) d at lt =
    let off : (n == o) ≡ false = ne_eqb n o (λ e. omega (arith, e, at)) in
    ap (λ l. i ∷ l) (set-changed f o (n + 1) k items d (omega (arith, at)) (omega (arith, lt)))
    ∙ ap (λ b. (if b then f i else i) ∷ changed_from (λ m _. m == o) f (n + 1) items) (sym off)

pub changed_none : (f : HeldOp → HeldOp) (o n : ℕ) (items : List HeldOp) → (o < n) ⊎ (n + length items ≤ o) → items ≡ changed_from (λ m _. m == o) f n items
changed_none f o n items (inl lt) = sym (changed_below f o n items lt)
changed_none f o n [] (inr le) = refl
changed_none f o n (i ∷ items) (inr le) =
    let off : (n == o) ≡ false = ne_eqb n o (λ e. omega (arith, e, le)) in
    ap (λ l. i ∷ l) (changed_none f o (n + 1) items (inr (omega (arith, le))))
    ∙ ap (λ b. (if b then f i else i) ∷ changed_from (λ m _. m == o) f (n + 1) items) (sym off)

-- each transaction's numbers after one more operation
pub numbers_from-append : (test : HeldOp → Bool) (n : ℕ) (items : List HeldOp) (i : HeldOp)
    → numbers_from test n (items ++ i ∷ []) ≡ numbers_from test n items ++ (if test i then (n + length items) ∷ [] else [])
numbers_from-append test n [] i = grind (arith, common_steps)
numbers_from-append test n (j ∷ items) i = let later = numbers_from-append test (n + 1) items i in grind (arith, common_steps, later)

pub AreHeld-same : (items : List HeldOp) (held held' : List (SmallVec ℕ)) → AreHeld items held → ((t : ℕ) → list_at held' t ≡ list_at held t) → AreHeld items held'
AreHeld-same items held held' is same t = same t ∙ is t

pub AreHeld-added : (items : List HeldOp) (held held' : List (SmallVec ℕ)) (i : HeldOp) (n : ℕ)
    → n ≡ 1 + length items → AreHeld items held → is_open i.fate ≡ true
    → ((v : ℕ) → list_at held' v ≡ (if v == i.holder.0 then list_at held i.holder.0 ++ n ∷ [] else list_at held v)) → AreHeld (items ++ i ∷ []) held'
AreHeld-added items held held' i n long_by is opened after t =
    let more = numbers_from-append (is_held t) 1 items i in
    let here = is t in
    let there = is i.holder.0 in
    let now = after t in
    grind (arith, common_steps, nat_tests, more, here, there, now)

-- all that t holds ends
access_ended : (t u : ℕ) (fate : Fate) (n : ℕ) (items : List HeldOp) → is_open fate ≡ false
    → numbers_from (is_held u) n (map (ended_op t fate) items) ≡ (if u == t then [] else numbers_from (is_held u) n items)
access_ended t u fate n [] closed = grind (arith, common_steps)
access_ended t u fate n (i ∷ items) closed = let later = access_ended t u fate (n + 1) items closed in grind (arith, common_steps, later)

pub AreHeld-ended : (items : List HeldOp) (held held' : List (SmallVec ℕ)) (t : ℕ) (fate : Fate)
    → AreHeld items held → is_open fate ≡ false → ((v : ℕ) → list_at held' v ≡ (if v == t then [] else list_at held v)) → AreHeld (ended t fate items) held'
AreHeld-ended items held held' t fate is closed after u =
    let later = access_ended t u fate 1 items closed in
    let here = is u in
    let now = after u in
    grind (arith, common_steps, nat_tests, later, here, now)

twice : (b : Bool) (x i : HeldOp) → (if b then (if b then x else i) else i) ≡ (if b then x else i)
twice true x i = refl
twice false x i = refl

changed-ended : (t : ℕ) (fate : Fate) (n : ℕ) (items : List HeldOp) → changed_from (λ _ i. is_held t i) (ended_op t fate) n items ≡ ended t fate items
changed-ended t fate n [] = refl
changed-ended t fate n (i ∷ items) =
    ap (λ (j : HeldOp). j ∷ changed_from (λ _ i. is_held t i) (ended_op t fate) (n + 1) items) (twice (is_held t i) (with_fate fate i) i)
    ∙ ap (λ l. ended_op t fate i ∷ l) (changed-ended t fate (n + 1) items)

pub each-ended : (t : ℕ) (fate : Fate) (items : List HeldOp) (ops : List ℕ) → ops ≡ numbers_where (is_held t) items → changed_each (ended_op t fate) items ops ≡ ended t fate items
each-ended t fate items ops is =
    ap (changed_each (ended_op t fate) items) (is ∙ sym (numbers_by-all (is_held t) 1 items))
    ∙ each_changed (λ _ i. is_held t i) (ended_op t fate) 1 items
    ∙ changed-ended t fate 1 items

-- u gets the operations that pass the test, all of which t holds
changed-numbers : (q : HeldOp → Bool) (p : ℕ → HeldOp → Bool) (f : HeldOp → HeldOp) (n : ℕ) (items : List HeldOp)
    → numbers_from q n (changed_from p f n items) ≡ numbers_by (λ k i. q (if p k i then f i else i)) n items
changed-numbers q p f n [] = refl
changed-numbers q p f n (i ∷ items) = ap (λ l. if q (if p n i then f i else i) then n ∷ l else l) (changed-numbers q p f (n + 1) items)

left_by : (t u : TxnId) (b : Bool) (i : HeldOp) → (t.0 ≡ u.0 → ⊥) → (b ≡ true → is_held t.0 i ≡ true)
    → is_held t.0 (if b then record i { holder = u } else i) ≡ (is_held t.0 i && not b)
left_by t u true i apart from = let was = from refl in let off : (u.0 == t.0) ≡ false = ne_eqb u.0 t.0 (λ e. apart (sym e)) in grind (arith, common_steps, nat_tests, was, off)
left_by t u false i apart from = grind (arith, common_steps)

come_to : (t u : TxnId) (b : Bool) (i : HeldOp) → (b ≡ true → is_held t.0 i ≡ true)
    → is_held u.0 (if b then record i { holder = u } else i) ≡ (is_held u.0 i || b)
come_to t u true i from = let was = from refl in grind (arith, common_steps, nat_tests, was)
come_to t u false i from = grind (arith, common_steps)

kept_by : (t u : TxnId) (v : ℕ) (b : Bool) (i : HeldOp) → (v ≡ t.0 → ⊥) → (v ≡ u.0 → ⊥) → (b ≡ true → is_held t.0 i ≡ true)
    → is_held v (if b then record i { holder = u } else i) ≡ is_held v i
kept_by t u v true i apart apart' from = let was = from refl in let off : (u.0 == v) ≡ false = ne_eqb u.0 v (λ e. apart' (sym e)) in grind (arith, common_steps, nat_tests, was, off, apart)
kept_by t u v false i apart apart' from = refl

-- u gets `given`, which t holds
abbrev pub AllHeld : (ℕ → HeldOp → Bool) → ℕ → Type 0
AllHeld p t = (k : ℕ) (i : HeldOp) → p k i ≡ true → is_held t i ≡ true

apart_step : (t u : TxnId) (b : Bool) (i : HeldOp) → (t.0 ≡ u.0 → ⊥) → (b ≡ true → is_held t.0 i ≡ true) → (is_held u.0 i && b) ≡ false
apart_step t u true i apart from = let was = from refl in grind (arith, common_steps, nat_tests, was, apart)
apart_step t u false i apart from = grind (arith, common_steps)

apart_in : (t u : TxnId) (p : ℕ → HeldOp → Bool) → (t.0 ≡ u.0 → ⊥) → AllHeld p t.0 → (k : ℕ) (i : HeldOp) → (is_held u.0 i && p k i) ≡ false
apart_in t u p apart from k i = apart_step t u (p k i) i apart (from k i)

pub AreHeld-given : (items : List HeldOp) (held held' : List (SmallVec ℕ)) (t u : TxnId) (p : ℕ → HeldOp → Bool) (given left : List ℕ)
    → AreHeld items held → (t.0 ≡ u.0 → ⊥) → AllHeld p t.0
    → given ≡ numbers_by p 1 items → left ≡ numbers_by (λ k i. is_held t.0 i && not (p k i)) 1 items
    → ((v : ℕ) → list_at held' v ≡ (if v == t.0 then left else if v == u.0 then joined (list_at held u.0) given else list_at held v))
    → AreHeld (changed_from p (held_by u) 1 items) held'
AreHeld-given items held held' t u p given left is apart from given_is left_is after v =
    let joint = joined (list_at held u.0) given in
    let on : (w : ℕ) → (w == w) ≡ true = λ w. eq-eqb w w refl in
    ⊎_elim
    (λ (same : v ≡ t.0). subst (λ w. list_at held' w ≡ numbers_from (is_held w) 1 (changed_from p (held_by u) 1 items)) (sym same)
    (after t.0
    ∙ ap (λ b. if b then left else if t.0 == u.0 then joint else list_at held t.0) (on t.0)
    ∙ left_is
    ∙ sym (numbers_by-same (λ k i. is_held t.0 (if p k i then record i { holder = u } else i)) (λ k i. is_held t.0 i && not (p k i)) 1 items (λ k i. left_by t u (p k i) i apart (from k i)))
    ∙ sym (changed-numbers (is_held t.0) p (held_by u) 1 items)))
    (λ (other : v ≡ t.0 → ⊥). ⊎_elim
    (λ (same : v ≡ u.0). subst (λ w. list_at held' w ≡ numbers_from (is_held w) 1 (changed_from p (held_by u) 1 items)) (sym same)
    (after u.0
    ∙ ap (λ b. if b then left else if u.0 == u.0 then joint else list_at held u.0) (ne_eqb u.0 t.0 (λ e. apart (sym e)))
    ∙ ap (λ b. if b then joint else list_at held u.0) (on u.0)
    ∙ ap (joined (list_at held u.0)) given_is
    ∙ ap (λ l. joined l (numbers_by p 1 items)) (is u.0 ∙ sym (numbers_by-all (is_held u.0) 1 items))
    ∙ joined_is (λ _ i. is_held u.0 i) p 1 items (apart_in t u p apart from)
    ∙ sym (numbers_by-same (λ k i. is_held u.0 (if p k i then record i { holder = u } else i)) (λ k i. is_held u.0 i || p k i) 1 items (λ k i. come_to t u (p k i) i (from k i)))
    ∙ sym (changed-numbers (is_held u.0) p (held_by u) 1 items)))
    (λ (off : v ≡ u.0 → ⊥).
    after v
    ∙ ap (λ b. if b then left else if v == u.0 then joint else list_at held v) (ne_eqb v t.0 other)
    ∙ ap (λ b. if b then joint else list_at held v) (ne_eqb v u.0 off)
    ∙ is v
    ∙ sym (numbers_by-all (is_held v) 1 items)
    ∙ sym (numbers_by-same (λ k i. is_held v (if p k i then record i { holder = u } else i)) (λ _ i. is_held v i) 1 items (λ k i. kept_by t u v (p k i) i other off (from k i)))
    ∙ sym (changed-numbers (is_held v) p (held_by u) 1 items))
    (cases_eq v u.0))
    (cases_eq v t.0)

-- filtering by a test that every item passes changes nothing
held_if : (b c : Bool) (x i : HeldOp) → (b ≡ true → c ≡ true) → (if b then (if c then x else i) else i) ≡ (if b then x else i)
held_if true true x i from = refl
held_if true false x i from = let no : false ≡ true = from refl in cc
held_if false c x i from = refl

changed-held : (p : ℕ → HeldOp → Bool) (t : ℕ) (u : TxnId) (n : ℕ) (items : List HeldOp) → AllHeld p t → changed_from p (transferred_op t u) n items ≡ changed_from p (held_by u) n items
changed-held p t u n [] from = refl
changed-held p t u n (i ∷ items) from =
    ap (λ (j : HeldOp). j ∷ changed_from p (transferred_op t u) (n + 1) items) (held_if (p n i) (is_held t i) (held_by u i) i (from n i))
    ∙ ap (λ l. (if p n i then held_by u i else i) ∷ l) (changed-held p t u (n + 1) items from)

pub each-given : (p : ℕ → HeldOp → Bool) (t : ℕ) (u : TxnId) (items : List HeldOp) (ops : List ℕ) → AllHeld p t → ops ≡ numbers_by p 1 items → changed_each (transferred_op t u) items ops ≡ changed_from p (held_by u) 1 items
each-given p t u items ops from is = ap (changed_each (transferred_op t u) items) is ∙ each_changed p (transferred_op t u) 1 items ∙ changed-held p t u 1 items from

pub named_held : (t : ℕ) (ops : List OpNo) → AllHeld (λ k i. is_held t i && is_named ops k) t
named_held t ops k i both = (and_parts (is_held t i) (is_named ops k) both).0

-- all that t holds
pub changed-transferred : (t : ℕ) (u : TxnId) (n : ℕ) (items : List HeldOp) → changed_from (λ _ i. is_held t i) (held_by u) n items ≡ transferred t u items
changed-transferred t u n [] = refl
changed-transferred t u n (i ∷ items) = ap (λ l. transferred_op t u i ∷ l) (changed-transferred t u (n + 1) items)

nothing_left : (b : Bool) → (b && not b) ≡ false
nothing_left true = refl
nothing_left false = refl

numbers_by-never : (n : ℕ) (items : List HeldOp) → numbers_by (λ _ _. false) n items ≡ []
numbers_by-never n [] = refl
numbers_by-never n (i ∷ items) = numbers_by-never (n + 1) items

pub none_left : (t n : ℕ) (items : List HeldOp) → [] ≡ numbers_by (λ _ i. is_held t i && not (is_held t i)) n items
none_left t n items = sym (numbers_by-same (λ _ i. is_held t i && not (is_held t i)) (λ _ _. false) n items (λ _ i. nothing_left (is_held t i)) ∙ numbers_by-never n items)

held_again : (t u : TxnId) (b : Bool) (i : HeldOp) → t.0 ≡ u.0 → (b ≡ true → i.holder.0 ≡ t.0) → i ≡ (if b then record i { holder = u } else i)
held_again t u true i same from = let at : i.holder.0 ≡ u.0 = from refl ∙ same in ap (λ n. record i { holder = record { 0 = n } }) at
held_again t u false i same from = refl

holder_is : (t : ℕ) (i : HeldOp) → is_held t i ≡ true → i.holder.0 ≡ t
holder_is t i is = grind (arith, common_steps, nat_tests, is)

-- a transfer from a transaction to itself changes nothing
pub transferred_same : (t u : TxnId) (items : List HeldOp) → t.0 ≡ u.0 → items ≡ transferred t.0 u items
transferred_same t u [] same = refl
transferred_same t u (i ∷ items) same =
    ap (λ (j : HeldOp). j ∷ items) (held_again t u (is_held t.0 i) i same (holder_is t.0 i)) ∙ ap (λ l. transferred_op t.0 u i ∷ l) (transferred_same t u items same)

-- the named items of a list, and the others
filter_step : (test : ℕ → Bool) (b c : Bool) (n : ℕ) (ns ms : List ℕ) → c ≡ test n → filter test ns ≡ ms → filter test (if b then n ∷ ns else ns) ≡ (if b && c then n ∷ ms else ms)
filter_step test true c n ns ms at later = ap (λ d. if d then n ∷ filter test ns else filter test ns) (sym at) ∙ ap (λ l. if c then n ∷ l else l) later
filter_step test false c n ns ms at later = later

pub filter-numbers : (test : ℕ → Bool) (q : HeldOp → Bool) (n : ℕ) (items : List HeldOp) → filter test (numbers_from q n items) ≡ numbers_by (λ k i. q i && test k) n items
filter-numbers test q n [] = refl
filter-numbers test q n (i ∷ items) = filter_step test (q i) (test n) n (numbers_from q (n + 1) items) (numbers_by (λ k i. q i && test k) (n + 1) items) refl (filter-numbers test q (n + 1) items)

-- if all named operations are held, the held ones among the named are the named ones
not_both : (b c : Bool) → (b && not c) ≡ (b && not (b && c))
not_both true c = refl
not_both false c = refl

pub left-named : (t : ℕ) (ops : List OpNo) (n : ℕ) (items : List HeldOp)
    → without ops (numbers_from (is_held t) n items) ≡ numbers_by (λ k i. is_held t i && not (is_held t i && is_named ops k)) n items
left-named t ops n items =
    filter-numbers (λ k. not (is_named ops k)) (is_held t) n items
    ∙ numbers_by-same (λ k i. is_held t i && not (is_named ops k)) (λ k i. is_held t i && not (is_held t i && is_named ops k)) n items (λ k i. not_both (is_held t i) (is_named ops k))

named_holds : (test : ℕ → Bool) (ops : List OpNo) (k : ℕ) → list_all (λ o. test o.0) ops ≡ true → is_named ops k ≡ true → test k ≡ true
named_holds test [] k all named = cc
named_holds test (o ∷ ops) k all named =
    let parts = and_parts (test o.0) (list_all (λ p. test p.0) ops) all in
    ⊎_elim
    (λ (same : o.0 ≡ k). subst (λ m. test m ≡ true) same parts.0)
    (λ (other : o.0 ≡ k → ⊥). named_holds test ops k parts.1 (sym (ap (λ b. b || is_named ops k) (ne_eqb o.0 k other)) ∙ named))
    (cases_eq o.0 k)

-- whether t holds the item at a place
abbrev held_at : ℕ → List HeldOp → ℕ → Bool
held_at t items j = option_map_or (is_held t) (slice_get items j) false

moved_if : (u : TxnId) (b c : Bool) (i : HeldOp) → (c ≡ true → b ≡ true) → (if b && c then record i { holder = u } else i) ≡ (if c then record i { holder = u } else i)
moved_if u true c i from = refl
moved_if u false true i from = let no : false ≡ true = from refl in cc
moved_if u false false i from = refl

changed-moved_from : (t : ℕ) (ops : List OpNo) (u : TxnId) (n : ℕ) (items : List HeldOp) → ((j : ℕ) → is_named ops (n + j) ≡ true → held_at t items j ≡ true)
    → changed_from (λ k i. is_held t i && is_named ops k) (held_by u) n items ≡ moved_from n ops u items
changed-moved_from t ops u n [] from = refl
changed-moved_from t ops u n (i ∷ items) from =
    let none : n + 0 ≡ n = omega arith in
    ap (λ j. j ∷ changed_from (λ k i. is_held t i && is_named ops k) (held_by u) (n + 1) items)
    (moved_if u (is_held t i) (is_named ops n) i (λ named. from 0 (ap (is_named ops) none ∙ named)))
    ∙ ap (λ l. (if is_named ops n then record i { holder = u } else i) ∷ l)
    (changed-moved_from t ops u (n + 1) items (λ j named. let one : n + suc j ≡ n + 1 + j = omega arith in from (suc j) (ap (is_named ops) one ∙ named)))

pub changed-moved : (t : ℕ) (ops : List OpNo) (u : TxnId) (items : List HeldOp) → are_held t ops items ≡ true
    → changed_from (λ k i. is_held t i && is_named ops k) (held_by u) 1 items ≡ moved ops u items
changed-moved t ops u items all =
    changed-moved_from t ops u 1 items (λ j named. let one : 1 + j ≡ suc j = omega arith in
    subst (λ m. option_map_or (is_held t) (operation_at items m) false ≡ true) one (named_holds (λ k. option_map_or (is_held t) (operation_at items k) false) ops (1 + j) all named))

-- the operations of a list that t holds
pub changed-transferred_of : (t : ℕ) (ops : List OpNo) (u : TxnId) (n : ℕ) (items : List HeldOp) → changed_from (λ k i. is_held t i && is_named ops k) (held_by u) n items ≡ transferred_from n t ops u items
changed-transferred_of t ops u n [] = refl
changed-transferred_of t ops u n (i ∷ items) = ap (λ l. (if is_held t i && is_named ops n then record i { holder = u } else i) ∷ l) (changed-transferred_of t ops u (n + 1) items)

-- if t holds all of them, they are moved
pub transferred_of-moved : (t : ℕ) (ops : List OpNo) (u : TxnId) (items : List HeldOp) → are_held t ops items ≡ true → transferred_of t ops u items ≡ moved ops u items
transferred_of-moved t ops u items all = sym (changed-transferred_of t ops u 1 items) ∙ changed-moved t ops u items all

-- a transfer from a transaction to itself changes nothing
transferred_from_same : (t u : TxnId) (ops : List OpNo) (n : ℕ) (items : List HeldOp) → t.0 ≡ u.0 → items ≡ transferred_from n t.0 ops u items
transferred_from_same t u ops n [] same = refl
transferred_from_same t u ops n (i ∷ items) same =
    ap (λ (j : HeldOp). j ∷ items)
    (held_again t u (is_held t.0 i && is_named ops n) i same (λ both. holder_is t.0 i (and_parts (is_held t.0 i) (is_named ops n) both).0))
    ∙ ap (λ l. (if is_held t.0 i && is_named ops n then record i { holder = u } else i) ∷ l) (transferred_from_same t u ops (n + 1) items same)

pub transferred_of-same : (t u : TxnId) (ops : List OpNo) (items : List HeldOp) → t.0 ≡ u.0 → items ≡ transferred_of t.0 ops u items
transferred_of-same t u ops items same = transferred_from_same t u ops 1 items same

-- the lists after one is joined with `given` and another is changed
lists_after : (held shared after : List (SmallVec ℕ)) (t u : ℕ) (joint : List ℕ) (f : List ℕ → List ℕ) → (t ≡ u → ⊥)
    → ((v : ℕ) → list_at shared v ≡ (if v == u then joint else list_at held v)) → ((v : ℕ) → list_at after v ≡ (if v == t then f (list_at shared t) else list_at shared v))
    → (v : ℕ) → list_at after v ≡ (if v == t then f (list_at held t) else if v == u then joint else list_at held v)
lists_after held shared after t u joint f apart share change v =
    let there : list_at shared t ≡ list_at held t = share t ∙ ap (λ b. if b then joint else list_at held t) (ne_eqb t u apart) in
    change v ∙ ap (λ l. if v == t then f l else list_at shared v) there ∙ ap (λ l. if v == t then f (list_at held t) else l) (share v)

pub AreHeld-transferred : (items : List HeldOp) (held shared after : List (SmallVec ℕ)) (t u : TxnId) (given : List ℕ)
    → AreHeld items held → (t.0 ≡ u.0 → ⊥) → given ≡ numbers_by (λ _ i. is_held t.0 i) 1 items
    → ((v : ℕ) → list_at shared v ≡ (if v == u.0 then joined (list_at held u.0) given else list_at held v))
    → ((v : ℕ) → list_at after v ≡ (if v == t.0 then [] else list_at shared v))
    → AreHeld (transferred t.0 u items) after
AreHeld-transferred items held shared after t u given is apart given_is share change =
    subst (λ xs. AreHeld xs after) (changed-transferred t.0 u 1 items)
    (AreHeld-given items held after t u (λ _ i. is_held t.0 i) given [] is apart (λ k i held_so. held_so) given_is (none_left t.0 1 items)
    (lists_after held shared after t.0 u.0 (joined (list_at held u.0) given) (λ _. []) apart share change))

pub length-transferred_of : (t : ℕ) (ops : List OpNo) (u : TxnId) (n : ℕ) (items : List HeldOp) → length (transferred_from n t ops u items) ≡ length items
length-transferred_of t ops u n [] = refl
length-transferred_of t ops u n (i ∷ items) = ap (λ k. suc k) (length-transferred_of t ops u (n + 1) items)

pub AreHeld-transferred_of : (items : List HeldOp) (held shared after : List (SmallVec ℕ)) (t u : TxnId) (ops : List OpNo) (given : List ℕ)
    → AreHeld items held → (t.0 ≡ u.0 → ⊥) → given ≡ numbers_by (λ k i. is_held t.0 i && is_named ops k) 1 items
    → ((v : ℕ) → list_at shared v ≡ (if v == u.0 then joined (list_at held u.0) given else list_at held v))
    → ((v : ℕ) → list_at after v ≡ (if v == t.0 then without ops (list_at shared t.0) else list_at shared v))
    → AreHeld (transferred_of t.0 ops u items) after
AreHeld-transferred_of items held shared after t u ops given is apart given_is share change =
    subst (λ xs. AreHeld xs after) (changed-transferred_of t.0 ops u 1 items)
    (AreHeld-given items held after t u (λ k i. is_held t.0 i && is_named ops k) given (without ops (list_at held t.0)) is apart (named_held t.0 ops) given_is
    (ap (without ops) (is t.0) ∙ left-named t.0 ops 1 items)
    (lists_after held shared after t.0 u.0 (joined (list_at held u.0) given) (without ops) apart share change))
