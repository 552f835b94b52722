-- Every transaction that holds operations is among the holders, and which holders conflict with an operation.
use Rattle.std.proofs.Common.{◌≡◌, ◌<◌, ℕ, ◌+◌, Bool, true, false, not, if◌then◌else◌, ◌&&◌, ◌||◌, ◌==◌, cond, List, [], ◌∷◌, map, filter, fold, refl, ap, sym, ◌∙◌, arith, Ordering, Less, Equal, Greater}
use Rattle.std.proofs.Common.{⊎_elim}
use Rattle.std.specs.List.{list_any, AllByRecursion}
use Rattle.std.specs.List.Sorted.{IsStrictlySortedBy}
use Rattle.std.specs.Ordering.{nat_cmp, match_ordering}
use Rattle.std.specs.BTreeSet.{insert_key}
use Rattle.std.specs.BTreeMap.{is_at}
use Rattle.std.specs.Set.{remove_key}
use Rattle.std.specs.Cmp.{nat_cmp_is, nat_cmp_total}
use Rattle.std.proofs.lemmas.Bool.{cases_eq, ne_eqb, eq-eqb, false≢true}
use Rattle.std.proofs.lemmas.Bool.Decides.{nat_tests}
use Rattle.std.proofs.lemmas.Map.Lookups.{exact_unsigned, btree_set_from_contains}
use Rattle.smallvec.specs.SmallVec.{SmallVec}
use Rattle.acta_table.specs.declared.event.Op.{Op}
use Rattle.acta_table.specs.declared.event.OpNo.{OpNo}
use Rattle.acta_table.specs.Fates.{is_open}
use Rattle.acta_table.specs.Numbered.{ascending, numbers_from}
use Rattle.acta_table.proofs.AscendingSets.{any-inserted, at-number, in-passing}
use Rattle.acta_sets.specs.declared.held_op.HeldOp.{HeldOp}
use Rattle.acta_sets.specs.Operations.{ops_conflict, is_held, is_held_against, is_against, is_conflicting_holder, holders_against}
use Rattle.acta_sets.specs.inside.Held.{list_at, has_any, has, AreHeld, AreAmong, without}

or_right : (a b : Bool) → b ≡ true → (a || b) ≡ true
or_right true b e = refl
or_right false b e = e

-- only one list is changed, and its transaction is added
pub AreAmong-more : (held after : List (SmallVec ℕ)) (keys more : List ℕ) (at : ℕ) (list : List ℕ) → more ≡ insert_key nat_cmp keys at
    → ((v : ℕ) → list_at after v ≡ (if v == at then list else list_at held v)) → AreAmong held keys → AreAmong after more
AreAmong-more held after keys more at list is change among v any =
    ap (λ ks. has ks v) is ∙ any-inserted (λ k. k == v) keys at
    ∙ ⊎_elim
    (λ (same : at ≡ v). ap (λ b. b || has keys v) (eq-eqb at v same))
    (λ (other : at ≡ v → ⊥). or_right (at == v) (has keys v) (among v (sym (ap has_any (change v ∙ ap (λ b. if b then list else list_at held v) (ne_eqb v at (λ e. other (sym e))))) ∙ any)))
    (cases_eq at v)

-- no list is changed
pub AreAmong-same : (held after : List (SmallVec ℕ)) (keys : List ℕ) → ((v : ℕ) → list_at after v ≡ list_at held v) → AreAmong held keys → AreAmong after keys
AreAmong-same held after keys same among v any = among v (sym (ap has_any (same v)) ∙ any)

pub AreAmong-wider : (held : List (SmallVec ℕ)) (keys more : List ℕ) (at : ℕ) → more ≡ insert_key nat_cmp keys at → AreAmong held keys → AreAmong held more
AreAmong-wider held keys more at is among v any = ap (λ ks. has ks v) is ∙ any-inserted (λ k. k == v) keys at ∙ or_right (at == v) (has keys v) (among v any)

-- one holder is removed, and the others stay
kept_step : (q b c : Bool) (x y : Bool) → (q ≡ true → b ≡ false) → x ≡ y → (if q then y else b || x) ≡ (b || y)
kept_step true true c x y off same = let no : true ≡ false = off refl in cc
kept_step true false c x y off same = refl
kept_step false b c x y off same = ap (λ z. b || z) same

if_any : (b : Bool) (x : ℕ) (xs ys : List ℕ) (v : ℕ) → has (cond b xs (x ∷ ys)) v ≡ (if b then has xs v else (x == v) || has ys v)
if_any true x xs ys v = refl
if_any false x xs ys v = refl

left_there : (keys : List ℕ) (at v : ℕ) → (at ≡ v → ⊥) → has (remove_key (is_at (nat_cmp at)) keys) v ≡ has keys v
left_there [] at v apart = refl
left_there (k ∷ keys) at v apart =
    if_any (is_at (nat_cmp at) k) k keys (remove_key (is_at (nat_cmp at)) keys) v
    ∙ kept_step (is_at (nat_cmp at) k) (k == v) true (has (remove_key (is_at (nat_cmp at)) keys) v) (has keys v) (λ e. off (sym (at-number at k) ∙ e)) (left_there keys at v apart)
  where
    off : (k == at) ≡ true → (k == v) ≡ false
    off e = ne_eqb k v (λ same. apart (let here : k ≡ at = grind (arith, nat_tests, e) in sym here ∙ same))

pub AreAmong-cleared : (held after : List (SmallVec ℕ)) (keys less : List ℕ) (at : ℕ) → less ≡ remove_key (is_at (nat_cmp at)) keys
    → ((v : ℕ) → list_at after v ≡ (if v == at then [] else list_at held v)) → AreAmong held keys → AreAmong after less
AreAmong-cleared held after keys less at is change among v any =
    ⊎_elim
    (λ (same : v ≡ at). absurd (false≢true (sym (ap has_any (change v ∙ ap (λ b. if b then [] else list_at held v) (eq-eqb v at same))) ∙ any)))
    (λ (other : v ≡ at → ⊥).
    ap (λ ks. has ks v) is ∙ left_there keys at v (λ e. other (sym e))
    ∙ among v (sym (ap has_any (change v ∙ ap (λ b. if b then [] else list_at held v) (ne_eqb v at other))) ∙ any))
    (cases_eq v at)

-- items are removed from one list
fewer_any : (ops : List OpNo) (ns : List ℕ) → has_any (without ops ns) ≡ true → has_any ns ≡ true
fewer_any ops [] any = any
fewer_any ops (n ∷ ns) any = refl

pub AreAmong-fewer : (held after : List (SmallVec ℕ)) (keys : List ℕ) (at : ℕ) (ops : List OpNo)
    → ((v : ℕ) → list_at after v ≡ (if v == at then without ops (list_at held at) else list_at held v)) → AreAmong held keys → AreAmong after keys
AreAmong-fewer held after keys at ops change among v any =
    ⊎_elim
    (λ (same : v ≡ at).
    among v
    (ap (λ t. has_any (list_at held t)) same
    ∙ fewer_any ops (list_at held at) (sym (ap has_any (change v ∙ ap (λ b. if b then without ops (list_at held at) else list_at held v) (eq-eqb v at same))) ∙ any)))
    (λ (other : v ≡ at → ⊥). among v (sym (ap has_any (change v ∙ ap (λ b. if b then without ops (list_at held at) else list_at held v) (ne_eqb v at other))) ∙ any))
    (cases_eq v at)

-- the holder of a conflicting operation is among the holders
any_numbered : (test : HeldOp → Bool) (n : ℕ) (items : List HeldOp) → list_any test items ≡ true → has_any (numbers_from test n items) ≡ true
any_numbered test n [] e = e
any_numbered test n (i ∷ items) e = of (test i) e (any_numbered test (n + 1) items)
  where
    of : (b : Bool) → (b || list_any test items) ≡ true → (list_any test items ≡ true → has_any (numbers_from test (n + 1) items) ≡ true) → has_any (if b then n ∷ numbers_from test (n + 1) items else numbers_from test (n + 1) items) ≡ true
    of true is later = refl
    of false is later = later is

held_of : (f o c : Bool) → (f && o && c) ≡ true → f ≡ true
held_of true o c e = refl
held_of false o c e = e

any_held : (u ob : ℕ) (op : Op) (items : List HeldOp) → list_any (is_held_against u ob op) items ≡ true → list_any (is_held u) items ≡ true
any_held u ob op [] e = e
any_held u ob op (i ∷ items) e = of (is_held_against u ob op i) refl e (any_held u ob op items)
  where
    of : (b : Bool) → is_held_against u ob op i ≡ b → (b || list_any (is_held_against u ob op) items) ≡ true → (list_any (is_held_against u ob op) items ≡ true → list_any (is_held u) items ≡ true) → (is_held u i || list_any (is_held u) items) ≡ true
    of true here is later = ap (λ b. b || list_any (is_held u) items) (held_of (is_held u i) (i.ob.0 == ob) (ops_conflict i.op op) here)
    of false here is later = or_right (is_held u i) (list_any (is_held u) items) (later is)

second : (a b : Bool) → (a && b) ≡ true → b ≡ true
second true b e = e
second false b e = absurd (false≢true e)

conflicting_holder_there : (t : ℕ) (exempt : List ℕ) (ob : ℕ) (op : Op) (items : List HeldOp) (held : List (SmallVec ℕ)) (keys : List ℕ) (u : ℕ) → AreHeld items held → AreAmong held keys
    → is_conflicting_holder t exempt ob op items u ≡ true → has keys u ≡ true
conflicting_holder_there t exempt ob op items held keys u is among e =
    among u (ap has_any (is u) ∙ any_numbered (is_held u) 1 items (any_held u ob op items (second (not (u == t) && not (list_any (λ k. k == u) exempt)) (list_any (is_held_against u ob op) items) e)))

-- the holders that conflict with it
passing_step : (b c d : Bool) (x : Bool) → (b ≡ true → c ≡ d) → ((b && c) || (x && d)) ≡ ((b || x) && d)
passing_step true c true x same = ap (λ z. z || (x && true)) (same refl)
passing_step true c false true same = ap (λ z. z || false) (same refl)
passing_step true c false false same = ap (λ z. z || false) (same refl)
passing_step false c d x same = refl

passing : (p : ℕ → Bool) (q : ℕ) (keys : List ℕ) → list_any (λ k. (k == q) && p k) keys ≡ (has keys q && p q)
passing p q [] = refl
passing p q (k ∷ keys) =
    ap (λ z. ((k == q) && p k) || z) (passing p q keys)
    ∙ passing_step (k == q) (p k) (p q) (has keys q) (λ e. ap p (let here : k ≡ q = grind (arith, nat_tests, e) in here))

-- the conflicting operations of one holder
theirs_step : (b : Bool) (f s s' z z' o c : Bool) → (b ≡ true → s ≡ s') → (b ≡ true → z ≡ z') → (b && (f && not s && not z && o && c)) ≡ ((not s' && not z') && ((b && f) && o && c))
theirs_step false f s true z z' o c e g = refl
theirs_step false f s false z true o c e g = refl
theirs_step false f s false z false o c e g = refl
theirs_step true f s s' z z' o c e g = (λ i. f && not (e refl i) && not (g refl i) && o && c) ∙ turned f (not s') (not z') o c
  where
    turned : (f a b o c : Bool) → (f && a && b && o && c) ≡ ((a && b) && (f && o && c))
    turned true true true o c = refl
    turned true true false o c = refl
    turned true false b o c = refl
    turned false true true o c = refl
    turned false true false o c = refl
    turned false false b o c = refl

theirs : (t : ℕ) (exempt : List ℕ) (ob : ℕ) (op : Op) (q : ℕ) (i : HeldOp) → ((i.holder.0 == q) && is_against t exempt ob op i) ≡ ((not (q == t) && not (list_any (λ k. k == q) exempt)) && is_held_against q ob op i)
theirs t exempt ob op q i =
    theirs_step (i.holder.0 == q) (is_open i.fate) (i.holder.0 == t) (q == t) (list_any (λ k. k == i.holder.0) exempt) (list_any (λ k. k == q) exempt) (i.ob.0 == ob) (ops_conflict i.op op)
    (λ e. ap (λ n. n == t) (here e)) (λ e. ap (λ n. list_any (λ k. k == n) exempt) (here e))
  where
    here : (i.holder.0 == q) ≡ true → i.holder.0 ≡ q
    here e = grind (arith, nat_tests, e)

any_both : (a : Bool) (test : HeldOp → Bool) (items : List HeldOp) → list_any (λ i. a && test i) items ≡ (a && list_any test items)
any_both true test items = refl
any_both false test [] = refl
any_both false test (i ∷ items) = any_both false test items

of_holder : (t : ℕ) (exempt : List ℕ) (ob : ℕ) (op : Op) (q : ℕ) (items : List HeldOp) → list_any (λ i. (i.holder.0 == q) && is_against t exempt ob op i) items ≡ is_conflicting_holder t exempt ob op items q
of_holder t exempt ob op q items =
    ap (λ (test : HeldOp → Bool). list_any test items) (λ x i. theirs t exempt ob op q i x)
    ∙ any_both (not (q == t) && not (list_any (λ k. k == q) exempt)) (is_held_against q ob op) items

there_step : (a b : Bool) → (b ≡ true → a ≡ true) → (a && b) ≡ b
there_step a true from = ap (λ c. c && true) (from refl)
there_step true false from = refl
there_step false false from = refl

-- sets of numbers are ascending
less_is : (u j : ℕ) → nat_cmp u j ≡ Less → u < j
less_is u j e = grind (arith, nat_tests, e)

more_is : (u j : ℕ) → nat_cmp u j ≡ Greater → j < u
more_is u j e = grind (arith, nat_tests, e)

is_less : (u j : ℕ) → u < j → nat_cmp u j ≡ Less
is_less u j lt = sym (nat_cmp_is u j Less lt)

below : (x y : ℕ) (ks : List ℕ) → x < y → AllByRecursion (λ k. nat_cmp y k ≡ Less) ks → AllByRecursion (λ k. nat_cmp x k ≡ Less) ks
below x y [] lt all = tt
below x y (k ∷ ks) lt all = (is_less x k (let further = less_is y k all.0 in omega (arith, lt, further)), below x y ks lt all.1)

below_put : (x k : ℕ) (ks : List ℕ) → x < k → AllByRecursion (λ y. nat_cmp x y ≡ Less) ks → AllByRecursion (λ y. nat_cmp x y ≡ Less) (insert_key nat_cmp ks k)
below_put x k [] lt all = (is_less x k lt, tt)
below_put x k (y ∷ ys) lt all = of (nat_cmp k y) (below_put x k ys lt all.1)
  where
    of : (r : Ordering) → AllByRecursion (λ z. nat_cmp x z ≡ Less) (insert_key nat_cmp ys k) → AllByRecursion (λ z. nat_cmp x z ≡ Less) (match_ordering r (k ∷ y ∷ ys) (y ∷ ys) (y ∷ insert_key nat_cmp ys k))
    of Less later = (is_less x k lt, all)
    of Equal later = all
    of Greater later = (all.0, later)

sorted_put : (ks : List ℕ) (k : ℕ) → IsStrictlySortedBy nat_cmp ks → IsStrictlySortedBy nat_cmp (insert_key nat_cmp ks k)
unfolding IsStrictlySortedBy
sorted_put [] k up = (tt, tt)
sorted_put (x ∷ xs) k up = of (nat_cmp k x) refl (sorted_put xs k up.1)
  where
    of : (r : Ordering) → nat_cmp k x ≡ r → IsStrictlySortedBy nat_cmp (insert_key nat_cmp xs k) → IsStrictlySortedBy nat_cmp (match_ordering r (k ∷ x ∷ xs) (x ∷ xs) (x ∷ insert_key nat_cmp xs k))
    of Less e later = ((e, below k x xs (less_is k x e) up.0), up)
    of Equal e later = up
    of Greater e later = (below_put x k xs (more_is k x e) up.0, later)

sorted_all : (ks ns : List ℕ) → IsStrictlySortedBy nat_cmp ks → IsStrictlySortedBy nat_cmp (fold (insert_key nat_cmp) ks ns)
sorted_all ks [] up = up
sorted_all ks (n ∷ ns) up = sorted_all (insert_key nat_cmp ks n) ns (sorted_put ks n up)

none_sorted : IsStrictlySortedBy nat_cmp []
unfolding IsStrictlySortedBy
none_sorted = tt

sorted : (ns : List ℕ) → IsStrictlySortedBy nat_cmp (ascending ns)
sorted ns = sorted_all [] ns none_sorted

-- the conflicting holders are the holders of conflicting operations
pub conflicting_holders-are : (t : ℕ) (exempt : List ℕ) (ob : ℕ) (op : Op) (items : List HeldOp) (held : List (SmallVec ℕ)) (keys : List ℕ) → AreHeld items held → AreAmong held keys
    → ascending (map (λ k. k) (filter (is_conflicting_holder t exempt ob op items) keys)) ≡ holders_against t exempt ob op items
conflicting_holders-are t exempt ob op items held keys is among =
    btree_set_from_contains nat_cmp_total (record { keys = ascending (map (λ k. k) (filter p keys)) }) (record { keys = holders_against t exempt ob op items }) (sorted (map (λ k. k) (filter p keys))) (sorted (map (λ (i : HeldOp). i.holder.0) (filter (is_against t exempt ob op) items)))
    (λ q.
    in-passing p (λ k. k) q keys ∙ passing p q keys
    ∙ there_step (has keys q) (p q) (conflicting_holder_there t exempt ob op items held keys q is among)
    ∙ sym (of_holder t exempt ob op q items)
    ∙ sym (in-passing (is_against t exempt ob op) (λ i. i.holder.0) q items))
    exact_unsigned
  where
    p : ℕ → Bool
    p = is_conflicting_holder t exempt ob op items

-- if no operation conflicts, there is no conflicting holder
none_filtered : (test : HeldOp → Bool) (items : List HeldOp) → list_any test items ≡ false → [] ≡ filter test items
none_filtered test [] none = refl
none_filtered test (i ∷ items) none = of (test i) none (none_filtered test items)
  where
    of : (b : Bool) → (b || list_any test items) ≡ false → (list_any test items ≡ false → [] ≡ filter test items) → [] ≡ cond b (i ∷ filter test items) (filter test items)
    of true is later = absurd (false≢true (sym is))
    of false is later = later is

pub nobody-against : (t : ℕ) (exempt : List ℕ) (ob : ℕ) (op : Op) (items : List HeldOp) → list_any (is_against t exempt ob op) items ≡ false → [] ≡ holders_against t exempt ob op items
nobody-against t exempt ob op items none = ap (λ xs. ascending (map (λ (i : HeldOp). i.holder.0) xs)) (none_filtered (is_against t exempt ob op) items none)
