-- The transactions that commit, and how many had committed before the first event of each, one item further.
use Rattle.std.proofs.Common.{◌≡◌, ℕ, zero, suc, ◌+◌, ◌<◌, ◌≤◌, ◌==◌, Bool, true, false, cond, not, ◌&&◌, ◌||◌, List, [], ◌∷◌, ◌++◌, length, get_or, take, reverse, replicate, Option, Some, None, refl, sym, ap, ◌∙◌, subst, arith, inl, inr}
use Rattle.std.specs.Prelude.{if◌then◌else◌, unwrap_or}
use Rattle.std.specs.List.{cons_option}
use Rattle.std.proofs.lemmas.Bool.{true≢false, or_parts, or_from, cases_lt, eqb-true, eq-eqb, ne_eqb}
use Rattle.std.proofs.lemmas.List.{append-nil, reverse-append, length-append, length-reverse, take_all, take_more, length-replicate}
use Rattle.std.proofs.lemmas.Option.{none-some}
use Rattle.std.proofs.lemmas.List.Elements.{filter_map-append}
use Rattle.std.proofs.lemmas.List.Folds.{list_any-append}
use Rattle.std.proofs.lemmas.List.Sums.{take_while-cons}
use Rattle.acta_table.specs.declared.event.Kept.{Kept}
use Rattle.acta_table.specs.declared.event.Event.{Event}
use Rattle.acta_table.specs.declared.event.Event.TheVariants.{Begin, Spawn, Split, Join, Delegate, Form, Operate, Commit, Abort, Permit}
use Rattle.acta_axioms.specs.Serial.{committed_by, commit_order}
use Rattle.acta_order.specs.declared.orders.Orders.{Orders}
use Rattle.acta_order.specs.declared.orders.Orders.TheVariants.{All as all_orders, RealTime as real_time}
use Rattle.acta_order.specs.Commits.{has_event, AreNoted, AreCommits}
use Rattle.acta_order.specs.Earlier.{Counted, limit_in, limit, waits}
use Rattle.acta_order.specs.Orders.{is_in, is_event_of, before_first, is_before, AreDistinct}
use Rattle.acta_order.specs.Search.{at, AreInTurn}
use Rattle.acta_order.proofs.Placed.{is_in-append, is_in-reverse, distinct-split}
use Rattle.acta_order.proofs.Timely.{take-in}

-- items before a first event

passes : {A : Type 0} (u : ℕ) (k : Kept A) (h : List (Kept A)) (b : Bool) → is_event_of u k.event ≡ b → before_first u (k ∷ h) ≡ cond (not b) (k ∷ before_first u h) []
passes {A} u k h b e = take_while-cons (λ (q : Kept A). not (is_event_of u q.event)) k h ∙ ap (λ x. cond (not x) (k ∷ before_first u h) []) e

before-idle : {A : Type 0} (u : ℕ) (h : List (Kept A)) → has_event u h ≡ false → before_first u h ≡ h
before-idle u [] none = refl
before-idle {A} u (k ∷ h) none =
    let parts = or_parts (is_event_of u k.event) (has_event u h) none in
    passes u k h false parts.0 ∙ ap (λ (xs : List (Kept A)). k ∷ xs) (before-idle u h parts.1)

before-later : {A : Type 0} (u : ℕ) (h more : List (Kept A)) → has_event u h ≡ true → before_first u (h ++ more) ≡ before_first u h
before-later u [] more any = absurd (true≢false (sym any))
before-later {A} u (k ∷ h) more any = of (λ later. before-later u h more later) (is_event_of u k.event) refl
  where
    of : (has_event u h ≡ true → before_first u (h ++ more) ≡ before_first u h) → (b : Bool) → is_event_of u k.event ≡ b → before_first u (k ∷ (h ++ more)) ≡ before_first u (k ∷ h)
    of rest true e = passes u k (h ++ more) true e ∙ sym (passes u k h true e)
    of rest false e =
        passes u k (h ++ more) false e
        ∙ ap (λ (xs : List (Kept A)). k ∷ xs) (rest (sym (ap (λ x. x || has_event u h) e) ∙ any))
        ∙ sym (passes u k h false e)

before-here : {A : Type 0} (u : ℕ) (h : List (Kept A)) (k : Kept A) → has_event u h ≡ false → is_event_of u k.event ≡ true → before_first u (h ++ k ∷ []) ≡ h
before-here u [] k none here = passes u k [] true here
before-here {A} u (j ∷ h) k none here =
    let parts = or_parts (is_event_of u j.event) (has_event u h) none in
    passes u j (h ++ k ∷ []) false parts.0 ∙ ap (λ (xs : List (Kept A)). j ∷ xs) (before-here u h k parts.1 here)

-- one that commits does so by an event of its own
own-event : {A : Type 0} (u : ℕ) (e : Event A) → committed_by e ≡ Some u → is_event_of u e ≡ true
own-event u (Begin t class) by = absurd (none-some u by)
own-event u (Spawn t v class) by = absurd (none-some u by)
own-event u (Split t v class ops) by = absurd (none-some u by)
own-event u (Join t v) by = absurd (none-some u by)
own-event u (Delegate t v ops) by = absurd (none-some u by)
own-event u (Form kind j i) by = absurd (none-some u by)
own-event u (Operate t ob op) by = absurd (none-some u by)
own-event u (Commit t) by = eq-eqb t.0 u (ap (λ o. unwrap_or o 0) by)
own-event u (Abort t) by = absurd (none-some u by)
own-event u (Permit t v ob) by = absurd (none-some u by)

never-before : {A : Type 0} (u : ℕ) (h : List (Kept A)) → is_in (commit_order (before_first u h)) u ≡ false
never-before u [] = refl
never-before {A} u (k ∷ h) = of (never-before u h) (is_event_of u k.event) refl
  where
    rest : List ℕ
    rest = commit_order (before_first u h)

    apart : (t : ℕ) (b : Bool) → (t == u) ≡ b → committed_by k.event ≡ Some t → is_event_of u k.event ≡ false → b ≡ false
    apart t true q e out = absurd (true≢false (sym (own-event u k.event (e ∙ ap Some (eqb-true t u q))) ∙ out))
    apart t false q e out = refl

    next : is_in rest u ≡ false → (o : Option ℕ) → committed_by k.event ≡ o → is_event_of u k.event ≡ false → is_in (commit_order (k ∷ before_first u h)) u ≡ false
    next none None e out = ap (λ o. is_in (cons_option o rest) u) e ∙ none
    next none (Some t) e out = ap (λ o. is_in (cons_option o rest) u) e ∙ or_from (t == u) (is_in rest u) (apart t (t == u) refl e out) none

    of : is_in rest u ≡ false → (b : Bool) → is_event_of u k.event ≡ b → is_in (commit_order (before_first u (k ∷ h))) u ≡ false
    of none true e = ap (λ (xs : List (Kept A)). is_in (commit_order xs) u) (passes u k h true e)
    of none false e = ap (λ (xs : List (Kept A)). is_in (commit_order xs) u) (passes u k h false e) ∙ next none (committed_by k.event) refl e

-- counts

pick-kept : (e c : Bool) (n m : ℕ) → c ≡ false → (if e && c then n else m) ≡ m
pick-kept true true n m out = absurd (true≢false out)
pick-kept true false n m out = refl
pick-kept false c n m _ = refl

pick-here : (e c : Bool) (n m : ℕ) → e ≡ true → c ≡ true → (if e && c then n else m) ≡ n
pick-here true true n m a b = refl
pick-here true false n m a b = absurd (true≢false (sym b))
pick-here false c n m a b = absurd (true≢false (sym a))

pick-idle : (e c : Bool) (n m : ℕ) → e ≡ false → (if e && c then n else m) ≡ m
pick-idle true c n m out = absurd (true≢false out)
pick-idle false c n m _ = refl

abbrev pub AreMarked : {A : Type 0} → List ℕ → List ℕ → Kept A → ℕ → Type 0
AreMarked counts more k n = (u : ℕ) → get_or more u 65536 ≡ (if is_event_of u k.event && get_or counts u 65536 == 65536 then n else get_or counts u 65536)

-- these transactions are the ones that commit
abbrev pub AreThose : {A : Type 0} → List ℕ → List (Kept A) → Type 0
AreThose ts h = (t : ℕ) → is_in ts t ≡ is_in (commit_order h) t

-- a list and a longer one that begins with it
pub record IsFront (ts us : List ℕ) : Type 0 where
  pub longer : length ts ≤ length us
  pub same : (n : ℕ) → n ≤ length ts → take n us ≡ take n ts

front-same : (ts : List ℕ) → IsFront ts ts
front-same ts = record { longer = omega arith; same = λ n low. refl }

take-front : (xs ys : List ℕ) (n : ℕ) → n ≤ length xs → take n (xs ++ ys) ≡ take n xs
take-front [] ys zero low = refl
take-front [] ys (suc n) low = absurd (omega (arith, low))
take-front (x ∷ xs) ys zero low = refl
take-front (x ∷ xs) ys (suc n) low = ap (λ (zs : List ℕ). x ∷ zs) (take-front xs ys n (omega (arith, low)))

front-push : (ts : List ℕ) (t : ℕ) → IsFront ts (ts ++ t ∷ [])
front-push ts t = record { longer = let e = length-append ts (t ∷ []) in omega (arith, e); same = λ n low. take-front ts (t ∷ []) n low }

has-more : {A : Type 0} (u : ℕ) (h : List (Kept A)) (k : Kept A) (s e : Bool) → has_event u h ≡ s → is_event_of u k.event ≡ e → has_event u (h ++ k ∷ []) ≡ (s || (e || false))
has-more {A} u h k s e hs he = list_any-append (λ (q : Kept A). is_event_of u q.event) h (k ∷ []) ∙ (λ i. hs i || (he i || false))

noted-next : {A : Type 0} (counts more : List ℕ) (h : List (Kept A)) (k : Kept A) (ts us : List ℕ) → AreNoted counts h ts → length more ≡ length counts → AreMarked counts more k (length ts) → length ts < 65536 → length us ≤ 65536 → IsFront ts us → AreThose ts h → AreThose us (h ++ k ∷ [])
    → AreNoted more (h ++ k ∷ []) us
noted-next {A} counts more h k ts us noted long marked few few_more front those those_more = record {
  long = long ∙ noted.long;
  later = λ u any. later u (has_event u h) (is_event_of u k.event) refl refl any;
  idle = λ u none. idle u (has_event u h) (is_event_of u k.event) refl refl none;
  before = λ t u. before t u (has_event u h) (is_event_of u k.event) refl refl;
}
  where
    count : ℕ → ℕ
    count u = get_or counts u 65536

    -- what a count becomes
    kept : (u : ℕ) → has_event u h ≡ true → get_or more u 65536 ≡ count u
    kept u s = let low = noted.later u s in marked u ∙ pick-kept (is_event_of u k.event) (count u == 65536) (length ts) (count u) (ne_eqb (count u) 65536 (λ is. omega (arith, is, low, few)))

    here : (u : ℕ) → has_event u h ≡ false → is_event_of u k.event ≡ true → get_or more u 65536 ≡ length ts
    here u s e = marked u ∙ pick-here (is_event_of u k.event) (count u == 65536) (length ts) (count u) e (eq-eqb (count u) 65536 (noted.idle u s))

    still : (u : ℕ) → has_event u h ≡ false → is_event_of u k.event ≡ false → get_or more u 65536 ≡ 65536
    still u s e = marked u ∙ pick-idle (is_event_of u k.event) (count u == 65536) (length ts) (count u) e ∙ noted.idle u s

    later : (u : ℕ) (s e : Bool) → has_event u h ≡ s → is_event_of u k.event ≡ e → has_event u (h ++ k ∷ []) ≡ true → get_or more u 65536 ≤ length us
    later u true e hs he any = let low = noted.later u hs in let is = kept u hs in let longer = front.longer in omega (arith, low, is, longer)
    later u false true hs he any = let is = here u hs he in let longer = front.longer in omega (arith, is, longer)
    later u false false hs he any = absurd (true≢false (sym any ∙ has-more u h k false false hs he))

    idle : (u : ℕ) (s e : Bool) → has_event u h ≡ s → is_event_of u k.event ≡ e → has_event u (h ++ k ∷ []) ≡ false → get_or more u 65536 ≡ 65536
    idle u true e hs he none = absurd (true≢false (sym (has-more u h k true e hs he) ∙ none))
    idle u false true hs he none = absurd (true≢false (sym (has-more u h k false true hs he) ∙ none))
    idle u false false hs he none = still u hs he

    before : (t u : ℕ) (s e : Bool) → has_event u h ≡ s → is_event_of u k.event ≡ e → is_in (take (get_or more u 65536) us) t ≡ is_in (commit_order (before_first u (h ++ k ∷ []))) t
    before t u true e hs he =
        ap (λ n. is_in (take n us) t) (kept u hs)
        ∙ ap (λ (xs : List ℕ). is_in xs t) (front.same (count u) (noted.later u hs))
        ∙ noted.before t u
        ∙ ap (λ (xs : List (Kept A)). is_in (commit_order xs) t) (sym (before-later u h (k ∷ []) hs))
    before t u false true hs he =
        ap (λ n. is_in (take n us) t) (here u hs he)
        ∙ ap (λ (xs : List ℕ). is_in xs t) (front.same (length ts) (omega arith) ∙ take_all (length ts) ts (omega arith))
        ∙ those t
        ∙ ap (λ (xs : List (Kept A)). is_in (commit_order xs) t) (sym (before-here u h k hs he))
    before t u false false hs he =
        ap (λ n. is_in (take n us) t) (still u hs he)
        ∙ ap (λ (xs : List ℕ). is_in xs t) (take_all 65536 us few_more)
        ∙ those_more t
        ∙ ap (λ (xs : List (Kept A)). is_in (commit_order xs) t) (sym (before-idle u (h ++ k ∷ []) (has-more u h k false false hs he)))

-- the commits, one item further

order-next : {A : Type 0} (h : List (Kept A)) (k : Kept A) (who : Option ℕ) → who ≡ committed_by k.event → commit_order (h ++ k ∷ []) ≡ commit_order h ++ cons_option who []
order-next {A} h k who commits =
    filter_map-append (λ (q : Kept A). committed_by q.event) h (k ∷ [])
    ∙ ap (λ o. commit_order h ++ cons_option o []) (sym commits)

turned : (a b : Bool) → (a || b) ≡ (b || (a || false))
turned true true = refl
turned true false = refl
turned false true = refl
turned false false = refl

distinct-front : (xs ys : List ℕ) → AreDistinct (xs ++ ys) → AreDistinct xs
distinct-front [] ys d = tt
distinct-front (x ∷ xs) ys d = ((or_parts (is_in xs x) (is_in ys x) (sym (is_in-append xs ys x) ∙ d.0)).0, distinct-front xs ys d.1)

pushed : (stack : List ℕ) (t : ℕ) → reverse (t ∷ stack) ≡ reverse stack ++ t ∷ []
pushed stack t = reverse-append (t ∷ []) stack

-- by the stack, which has the last on top
turned-those : {A : Type 0} (stack : List ℕ) (h : List (Kept A)) → AreThose stack h → AreThose (reverse stack) h
turned-those stack h each t = is_in-reverse stack t ∙ each t

long-push : {A : Type 0} (h : List (Kept A)) (k : Kept A) → length (h ++ k ∷ []) ≡ length h + 1
long-push h k = length-append h (k ∷ [])

pub commits-new : {A : Type 0} (h : List (Kept A)) (k : Kept A) (t : ℕ) (stack counts more : List ℕ) → AreCommits h stack counts → length more ≡ length counts → AreMarked counts more k (length stack) → length h < 65536 → Some t ≡ committed_by k.event
    → AreCommits (h ++ k ∷ []) (t ∷ stack) more
commits-new {A} h k t stack counts more c long marked few commits =
    let each : AreThose (t ∷ stack) (h ++ k ∷ []) = λ u.
    ap (λ b. (t == u) || b) (c.each u) ∙ turned (t == u) (is_in (commit_order h) u)
    ∙ sym (ap (λ (xs : List ℕ). is_in xs u) (order-next h k (Some t) commits) ∙ is_in-append (commit_order h) (t ∷ []) u) in
    let long_h = long-push h k in
    let low = c.few in
    let size = length-reverse stack in
    let size_more = length-append (reverse stack) (t ∷ []) in
    record {
      each = each;
      few = omega (arith, low, long_h);
      noted =
          subst (AreNoted more (h ++ k ∷ [])) (sym (pushed stack t))
          (noted-next counts more h k (reverse stack) (reverse stack ++ t ∷ []) c.noted long (subst (λ n. AreMarked counts more k n) (sym size) marked) (omega (arith, size, low, few)) (omega (arith, size_more, size, low, few)) (front-push (reverse stack) t)
          (turned-those stack h c.each) (subst (λ (xs : List ℕ). AreThose xs (h ++ k ∷ [])) (pushed stack t) (turned-those (t ∷ stack) (h ++ k ∷ []) each)));
      in_order = λ d.
          pushed stack t ∙ ap (λ (xs : List ℕ). xs ++ t ∷ []) (c.in_order (distinct-front (commit_order h) (t ∷ []) (subst AreDistinct (order-next h k (Some t) commits) d)))
          ∙ sym (order-next h k (Some t) commits);
    }

pub commits-again : {A : Type 0} (h : List (Kept A)) (k : Kept A) (t : ℕ) (stack counts more : List ℕ) → AreCommits h stack counts → length more ≡ length counts → AreMarked counts more k (length stack) → length h < 65536 → Some t ≡ committed_by k.event → is_in stack t ≡ true
    → AreCommits (h ++ k ∷ []) stack more
commits-again {A} h k t stack counts more c long marked few commits there =
    let each : AreThose stack (h ++ k ∷ []) = λ u.
    of u (t == u) refl
    ∙ ap (λ b. (t == u) || b) (c.each u) ∙ turned (t == u) (is_in (commit_order h) u)
    ∙ sym (ap (λ (xs : List ℕ). is_in xs u) (order-next h k (Some t) commits) ∙ is_in-append (commit_order h) (t ∷ []) u) in
    let long_h = long-push h k in
    let low = c.few in
    let size = length-reverse stack in
    record {
      each = each;
      few = omega (arith, low, long_h);
      noted =
          noted-next counts more h k (reverse stack) (reverse stack) c.noted long (subst (λ n. AreMarked counts more k n) (sym size) marked) (omega (arith, size, low, few)) (omega (arith, size, low, few)) (front-same (reverse stack))
          (turned-those stack h c.each) (turned-those stack (h ++ k ∷ []) each);
      in_order = λ d.
          absurd (true≢false (sym there ∙ c.each t ∙ distinct-split (commit_order h) t [] (subst AreDistinct (order-next h k (Some t) commits) d)));
    }
  where
    of : (u : ℕ) (b : Bool) → (t == u) ≡ b → is_in stack u ≡ (b || is_in stack u)
    of u true e = subst (λ v. is_in stack v ≡ true) (eqb-true t u e) there
    of u false e = refl

pub commits-none : {A : Type 0} (h : List (Kept A)) (k : Kept A) (stack counts more : List ℕ) → AreCommits h stack counts → length more ≡ length counts → AreMarked counts more k (length stack) → length h < 65536 → None ≡ committed_by k.event
    → AreCommits (h ++ k ∷ []) stack more
commits-none {A} h k stack counts more c long marked few commits =
    let same : commit_order (h ++ k ∷ []) ≡ commit_order h = order-next h k None commits ∙ append-nil (commit_order h) in
    let each : AreThose stack (h ++ k ∷ []) = λ u. c.each u ∙ ap (λ (xs : List ℕ). is_in xs u) (sym same) in
    let long_h = long-push h k in
    let low = c.few in
    let size = length-reverse stack in
    record {
      each = each;
      few = omega (arith, low, long_h);
      noted =
          noted-next counts more h k (reverse stack) (reverse stack) c.noted long (subst (λ n. AreMarked counts more k n) (sym size) marked) (omega (arith, size, low, few)) (omega (arith, size, low, few)) (front-same (reverse stack))
          (turned-those stack h c.each) (turned-those stack (h ++ k ∷ []) each);
      in_order = λ d. c.in_order (subst AreDistinct same d) ∙ sym same;
    }

-- at first
fresh-at : (n x i : ℕ) → get_or (replicate n x) i x ≡ x
fresh-at zero x i = refl
fresh-at (suc n) x zero = refl
fresh-at (suc n) x (suc i) = fresh-at n x i

pub commits-first : {A : Type 0} (stack counts : List ℕ) → stack ≡ [] → counts ≡ replicate 65536 65536 → AreCommits {A = A} [] stack counts
commits-first {A} stack counts none fresh =
    subst (λ (xs : List ℕ). AreCommits {A = A} [] xs counts) (sym none)
    (subst (λ (xs : List ℕ). AreCommits {A = A} [] [] xs) (sym fresh)
    (record {
      each = λ t. refl;
      few = omega arith;
      noted = record {
        long = length-replicate {A = ℕ} 65536 65536;
        later = λ u any. absurd (true≢false (sym any));
        idle = λ u none. fresh-at 65536 65536 u;
        before = λ t u. ap (λ (xs : List ℕ). is_in xs t) (take_all (get_or (replicate 65536 65536) u 65536) [] (omega arith));
      };
      in_order = λ d. refl;
    }))

-- by the index of the item
pub commits-at : {A : Type 0} (kept : List (Kept A)) (i : ℕ) (k : Kept A) (stack counts : List ℕ) → i < length kept → k ≡ get_or kept i k → AreCommits (take i kept ++ k ∷ []) stack counts → AreCommits (take (i + 1) kept) stack counts
commits-at {A} kept i k stack counts within is c =
    subst (λ (h : List (Kept A)). AreCommits h stack counts) (sym (take_more kept i k within ∙ ap (λ (y : Kept A). take i kept ++ y ∷ []) (sym is))) c

-- what the counts say
nothing-in : (ts : List ℕ) (t : ℕ) → is_in (take 0 ts) t ≡ false
nothing-in [] t = refl
nothing-in (u ∷ ts) t = refl

pub waits-before : {A : Type 0} (orders : Orders) (h : List (Kept A)) (stack counts : List ℕ) → AreCommits h stack counts → waits (limit_in orders counts) (reverse stack) ≡ is_before orders h
waits-before all_orders h stack counts c = λ i t u. nothing-in (reverse stack) t i
waits-before real_time h stack counts c = λ i t u. c.noted.before t u i

pub in-turn : {A : Type 0} (orders : Orders) (h : List (Kept A)) (stack counts : List ℕ) → AreCommits h stack counts → AreInTurn (limit_in orders counts) (reverse stack)
in-turn all_orders h stack counts c j within = omega arith
in-turn real_time h stack counts c j within =
    elim (cases_lt j (get_or counts (at (reverse stack) j) 65536)) [
      | inl lt ↦
          let u = at (reverse stack) j in
          absurd (true≢false (sym (take-in (reverse stack) (get_or counts u 65536) j within lt) ∙ c.noted.before u u ∙ never-before u h))
      | inr ge ↦ ge
    ]

-- of a struct that counts
pub before-of : {A : Type 0} (orders : Orders) (h : List (Kept A)) (e : Counted) (stack ts : List ℕ) → AreCommits h stack e.counts → e.orders ≡ orders → ts ≡ reverse stack → waits (limit e) ts ≡ is_before orders h
before-of orders h e stack ts c same is =
    (λ i. waits (limit_in (same i) e.counts) (is i)) ∙ waits-before orders h stack e.counts c

pub turn-of : {A : Type 0} (e : Counted) (h : List (Kept A)) (stack ts : List ℕ) → AreCommits h stack e.counts → ts ≡ reverse stack → AreInTurn (limit e) ts
turn-of e h stack ts c is = subst (λ (xs : List ℕ). AreInTurn (limit e) xs) (sym is) (in-turn e.orders h stack e.counts c)
