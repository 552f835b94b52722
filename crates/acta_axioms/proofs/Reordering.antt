-- Operations that commute pairwise may be reordered: replay ends in the same state, and each still has the return that
-- is recorded.
use Rattle.std.proofs.Common.{◌≡◌, ℕ, ◌==◌, Bool, true, false, ◌&&◌, ◌||◌, not, cond, if◌then◌else◌, List, [], ◌∷◌, ◌++◌, map, filter, fold, refl, sym, ap, ◌∙◌, subst, eq-eqb}
use Rattle.std.specs.List.{list_all, flat_map, scan}
use Rattle.std.proofs.lemmas.Bool.{true≢false, and_parts, and_from, eqb-true}
use Rattle.std.proofs.lemmas.Grind.{flat_map-append, fold-append}
use Rattle.std.proofs.lemmas.List.{append-nil, append_assoc}
use Rattle.std.proofs.lemmas.List.Elements.{filter_agree, filter-append}
use Rattle.std.proofs.lemmas.List.Folds.{list_all-append}
use Rattle.acta_table.specs.declared.answer.Fate.{Fate}
use Rattle.acta_table.specs.declared.answer.Fate.TheVariants.{InProgress, Committed, Aborted}
use Rattle.acta_table.specs.Fates.{is_open, is_committed, is_aborted}
use Rattle.acta_objects.specs.Conflicts.{Commutes}
use Rattle.acta_axioms.proofs.ValueGrowth.{filter-both}

all-kept : {X : Type 0} (p test : X → Bool) (xs : List X) → list_all p xs ≡ true → list_all p (filter test xs) ≡ true
all-kept p test [] all = refl
all-kept p test (x ∷ xs) all =
    let both = and_parts (p x) (list_all p xs) all in
    of (test x) both.0 (all-kept p test xs both.1)
  where
    of : (b : Bool) → p x ≡ true → list_all p (filter test xs) ≡ true → list_all p (cond b (x ∷ filter test xs) (filter test xs)) ≡ true
    of true here later = and_from _ _ here later
    of false here later = later

over_there : (b : Bool) (f end : Fate) → is_open end ≡ false → is_open (if b then end else f) ≡ (is_open f && not b)
over_there true InProgress end over = over
over_there true Committed end over = over
over_there true Aborted end over = over
over_there false InProgress end over = refl
over_there false Committed end over = refl
over_there false Aborted end over = refl

on_test : (b : Bool) (f : Fate) → (b ≡ true → f ≡ InProgress) → (is_open f && b) ≡ b
on_test true f on = ap (λ g. is_open g && true) (on refl)
on_test false InProgress on = refl
on_test false Committed on = refl
on_test false Aborted on = refl

-- one more transaction is considered
wider_t : (b k : Bool) → ((b || k) && b) ≡ b
wider_t true k = refl
wider_t false true = refl
wider_t false false = refl

wider_others : (b k : Bool) → ((b || k) && not b) ≡ (not b && k)
wider_others true k = refl
wider_others false true = refl
wider_others false false = refl

counts_commit : (b : Bool) (f : Fate) (k : Bool) → (b ≡ true → f ≡ InProgress) → (is_committed (if b then Committed else f) || (is_open (if b then Committed else f) && k)) ≡ (is_committed f || (is_open f && (b || k)))
counts_commit false f k on = refl
counts_commit true InProgress k on = refl
counts_commit true Committed k on = refl
counts_commit true Aborted k on = let e = on refl in cc

counts_abort : (b : Bool) (f : Fate) (k : Bool) → (b ≡ true → f ≡ InProgress) → (is_committed (if b then Aborted else f) || (is_open (if b then Aborted else f) && k)) ≡ (is_committed f || (is_open f && (not b && k)))
counts_abort false f k on = refl
counts_abort true InProgress k on = refl
counts_abort true Committed k on = let e = on refl in cc
counts_abort true Aborted k on = refl

live_counts : (f : Fate) → (is_committed f || (is_open f && true)) ≡ not (is_aborted f)
live_counts InProgress = refl
live_counts Committed = refl
live_counts Aborted = refl

filter-all : {X : Type 0} (xs : List X) → filter (λ x. true) xs ≡ xs
filter-all [] = refl
filter-all (x ∷ xs) = ap (λ ys. x ∷ ys) (filter-all xs)

eqb-same : (t : ℕ) → (t == t) ≡ true
eqb-same t = eq-eqb t t refl

-- the fates, with that of one transaction changed
abbrev pub ended_so : (ℕ → Fate) → ℕ → Fate → ℕ → Fate
ended_so fate t end u = if u == t then end else fate u

module _ {S O R : Type 0} (next : S → O → S) (out : S → O → R) (recorded : O → R) (Good : S → Type 0) (good : (s : S) (o : O) → Good s → Good (next s o)) (by : O → ℕ) (free : O → O → Bool)
    (commutes : (p q : O) → free p q ≡ true → (s : S) → Good s → Commutes next out s p q) where
  -- each has the return that is recorded, from this state
  abbrev pub Returns : S → List O → Type 0
  Returns s [] = Unit {0}
  Returns s (o ∷ os) = (out s o ≡ recorded o) × Returns (next s o) os

  -- one list may replace another
  abbrev pub Serves : List O → List O → Type 0
  Serves xs ys = (s : S) → Good s → (fold next s xs ≡ fold next s ys) × (Returns s xs → Returns s ys)

  pub serves-same : (xs : List O) → Serves xs xs
  serves-same xs s g = (refl, λ r. r)

  pub serves-then : (xs ys zs : List O) → Serves xs ys → Serves ys zs → Serves xs zs
  serves-then xs ys zs p q s g = ((p s g).0 ∙ (q s g).0, λ r. (q s g).1 ((p s g).1 r))

  pub serves-behind : (x : O) (xs ys : List O) → Serves xs ys → Serves (x ∷ xs) (x ∷ ys)
  serves-behind x xs ys p s g =
      let later = p (next s x) (good s x g) in
      (later.0, λ r. (r.0, later.1 r.1))

  pub serves-after : (front xs ys : List O) → Serves xs ys → Serves (front ++ xs) (front ++ ys)
  serves-after [] xs ys p = p
  serves-after (x ∷ front) xs ys p = serves-behind x (front ++ xs) (front ++ ys) (serves-after front xs ys p)

  -- two operations that commute
  serves-swapped : (x y : O) (xs : List O) → free x y ≡ true → Serves (x ∷ y ∷ xs) (y ∷ x ∷ xs)
  serves-swapped x y xs f s g =
      let c = commutes x y f s g in
      (ap (λ z. fold next z xs) c.state, λ r. (sym c.second ∙ r.1.0, (sym c.first ∙ r.0, subst (λ z. Returns z xs) c.state r.1.1)))

  -- an operation that commutes with each of a list is moved after it
  serves-past : (x : O) (ys zs : List O) → list_all (free x) ys ≡ true → Serves (x ∷ (ys ++ zs)) (ys ++ x ∷ zs)
  serves-past x [] zs all = serves-same (x ∷ zs)
  serves-past x (y ∷ ys) zs all =
      let both = and_parts (free x y) (list_all (free x) ys) all in
      serves-then (x ∷ y ∷ (ys ++ zs)) (y ∷ x ∷ (ys ++ zs)) (y ∷ (ys ++ x ∷ zs))
      (serves-swapped x y (ys ++ zs) both.0)
      (serves-behind y (x ∷ (ys ++ zs)) (ys ++ x ∷ zs) (serves-past x ys zs both.1))

  -- whether two operations are of one transaction, or commute
  abbrev pub is_apart : O → O → Bool
  is_apart x y = (by x == by y) || free x y

  -- whether every pair is, in this order
  abbrev pub are_apart : List O → Bool
  are_apart [] = true
  are_apart (x ∷ xs) = list_all (is_apart x) xs && are_apart xs

  -- an operation of none of these transactions commutes with theirs
  free-others : (test : ℕ → Bool) (x : O) (xs : List O) → test (by x) ≡ false → list_all (is_apart x) xs ≡ true → list_all (free x) (filter (λ o. test (by o)) xs) ≡ true
  free-others test x [] none all = refl
  free-others test x (y ∷ xs) none all =
      let both = and_parts (is_apart x y) (list_all (is_apart x) xs) all in
      of (test (by y)) refl both.0 (free-others test x xs none both.1)
    where
      of_one : (b : Bool) → (by x == by y) ≡ b → test (by y) ≡ true → (b || free x y) ≡ true → free x y ≡ true
      of_one true same is e = absurd (true≢false (sym is ∙ ap test (sym (eqb-true (by x) (by y) same)) ∙ none))
      of_one false same is e = e

      of : (b : Bool) → test (by y) ≡ b → is_apart x y ≡ true → list_all (free x) (filter (λ o. test (by o)) xs) ≡ true → list_all (free x) (cond b (y ∷ filter (λ o. test (by o)) xs) (filter (λ o. test (by o)) xs)) ≡ true
      of true is e later = and_from (free x y) _ (of_one (by x == by y) refl is e) later
      of false is e later = later

  -- the operations of some transactions may be moved before the others
  pub serves-parted : (test : ℕ → Bool) (xs : List O) → are_apart xs ≡ true → Serves xs (filter (λ o. test (by o)) xs ++ filter (λ o. not (test (by o))) xs)
  serves-parted test [] all = serves-same []
  serves-parted test (x ∷ xs) all =
      let both = and_parts (list_all (is_apart x) xs) (are_apart xs) all in
      of (filter (λ o. test (by o)) xs) (filter (λ o. not (test (by o))) xs) (test (by x)) (λ none. free-others test x xs none both.0) refl (serves-parted test xs both.1)
    where
      of : (front rest : List O) (b : Bool) → (test (by x) ≡ false → list_all (free x) front ≡ true) → test (by x) ≡ b → Serves xs (front ++ rest) → Serves (x ∷ xs) (cond b (x ∷ front) front ++ cond (not b) (x ∷ rest) rest)
      of front rest true frees is later = serves-behind x xs (front ++ rest) later
      of front rest false frees is later =
          serves-then (x ∷ xs) (x ∷ (front ++ rest)) (front ++ x ∷ rest)
          (serves-behind x xs (front ++ rest) later)
          (serves-past x front rest (frees is))

  returns-front : (s : S) (xs ys : List O) → Returns s (xs ++ ys) → Returns s xs
  returns-front s [] ys r = tt
  returns-front s (x ∷ xs) ys r = (r.0, returns-front (next s x) xs ys r.1)

  returns-push : (s : S) (xs : List O) (o : O) → Returns s xs → out (fold next s xs) o ≡ recorded o → Returns s (xs ++ o ∷ [])
  returns-push s [] o r here = (here, tt)
  returns-push s (x ∷ xs) o r here = (r.0, returns-push (next s x) xs o r.1 here)

  -- the returns by replay are those recorded
  pub returns-scan : (s : S) (xs : List O) → Returns s xs → scan next out s xs ≡ map recorded xs
  returns-scan s [] r = refl
  returns-scan s (x ∷ xs) r = λ i. r.0 i ∷ returns-scan (next s x) xs r.1 i

  apart-kept : (test : O → Bool) (xs : List O) → are_apart xs ≡ true → are_apart (filter test xs) ≡ true
  apart-kept test [] all = refl
  apart-kept test (x ∷ xs) all =
      let both = and_parts (list_all (is_apart x) xs) (are_apart xs) all in
      of (test x) (all-kept (is_apart x) test xs both.0) (apart-kept test xs both.1)
    where
      of : (b : Bool) → list_all (is_apart x) (filter test xs) ≡ true → are_apart (filter test xs) ≡ true → are_apart (cond b (x ∷ filter test xs) (filter test xs)) ≡ true
      of true here later = and_from _ _ here later
      of false here later = later

  apart-push : (xs : List O) (o : O) → are_apart xs ≡ true → list_all (λ x. is_apart x o) xs ≡ true → are_apart (xs ++ o ∷ []) ≡ true
  apart-push [] o all here = refl
  apart-push (x ∷ xs) o all here =
      let both = and_parts (list_all (is_apart x) xs) (are_apart xs) all in
      let of_o = and_parts (is_apart x o) (list_all (λ y. is_apart y o) xs) here in
      and_from _ _
      (list_all-append (is_apart x) xs (o ∷ []) ∙ (λ i. both.0 i && (of_o.0 i && true)))
      (apart-push xs o both.1 of_o.1)

  -- the operations of these transactions, one transaction after the other
  abbrev pub in_groups : List O → List ℕ → List O
  in_groups os order = flat_map (λ t. filter (λ o. by o == t) os) order

  -- those in progress
  abbrev pub in_progress : List O → (ℕ → Fate) → List O
  in_progress os fate = filter (λ o. is_open (fate (by o))) os

  -- whether an operation is committed, or is in progress and belongs to one of these transactions
  abbrev pub counts : (ℕ → Fate) → (ℕ → Bool) → O → Bool
  counts fate keep o = is_committed (fate (by o)) || (is_open (fate (by o)) && keep (by o))

  -- for operations in this order, with one fate for each transaction: the committed ones, grouped in the order of
  -- commits, followed by those in progress, have the returns recorded; leaving out any transactions in progress, they
  -- lead to the same state as in their own order; and operations in progress of different transactions commute
  pub record IsSerial (start : S) (os : List O) (fate : ℕ → Fate) (order : List ℕ) : Type 0 where
    pub leads : (keep : ℕ → Bool) → fold next start (filter (counts fate keep) os) ≡ fold next start (in_groups os order ++ filter (λ o. keep (by o)) (in_progress os fate))
    pub returns : Returns start (in_groups os order ++ in_progress os fate)
    pub apart : are_apart (in_progress os fate) ≡ true
    pub ended : list_all (λ t. is_committed (fate t)) order ≡ true

  -- the empty list is serial
  pub serial-none : (start : S) (fate : ℕ → Fate) → IsSerial start [] fate []
  serial-none start fate = record { leads = λ keep. refl; returns = tt; apart = refl; ended = refl }

  open_there : (fate : ℕ → Fate) (t : ℕ) → fate t ≡ InProgress → (u : ℕ) → (u == t) ≡ true → fate u ≡ InProgress
  open_there fate t on u same = ap fate (eqb-true u t same) ∙ on

  -- t's operations are no longer in progress
  in_progress-ended : (os : List O) (fate : ℕ → Fate) (t : ℕ) (end : Fate) → is_open end ≡ false → in_progress os (ended_so fate t end) ≡ filter (λ o. not (by o == t)) (in_progress os fate)
  in_progress-ended os fate t end over =
      filter_agree (λ o. is_open (ended_so fate t end (by o))) (λ o. is_open (fate (by o)) && not (by o == t)) (λ o. over_there (by o == t) (fate (by o)) end over) os
      ∙ filter-both (λ o. is_open (fate (by o))) (λ o. not (by o == t)) os

  -- all operations of a transaction in progress are in progress
  group-open : (os : List O) (fate : ℕ → Fate) (t : ℕ) → fate t ≡ InProgress → filter (λ o. by o == t) (in_progress os fate) ≡ filter (λ o. by o == t) os
  group-open os fate t on =
      sym (filter-both (λ o. is_open (fate (by o))) (λ o. by o == t) os)
      ∙ filter_agree (λ o. is_open (fate (by o)) && (by o == t)) (λ o. by o == t) (λ o. on_test (by o == t) (fate (by o)) (open_there fate t on (by o))) os

  groups-more : (os : List O) (order : List ℕ) (t : ℕ) → in_groups os (order ++ t ∷ []) ≡ in_groups os order ++ filter (λ o. by o == t) os
  groups-more os order t =
      flat_map-append (λ u. filter (λ o. by o == u) os) order (t ∷ []) ∙ ap (λ xs. in_groups os order ++ xs) (append-nil (filter (λ o. by o == t) os))

  still-ended : (fate : ℕ → Fate) (t : ℕ) (end : Fate) → fate t ≡ InProgress → (order : List ℕ) → list_all (λ u. is_committed (fate u)) order ≡ true → list_all (λ u. is_committed (ended_so fate t end u)) order ≡ true
  still-ended fate t end on [] all = refl
  still-ended fate t end on (u ∷ order) all =
      let both = and_parts (is_committed (fate u)) (list_all (λ v. is_committed (fate v)) order) all in
      and_from _ _ (of (u == t) refl both.0) (still-ended fate t end on order both.1)
    where
      of : (b : Bool) → (u == t) ≡ b → is_committed (fate u) ≡ true → is_committed (if b then end else fate u) ≡ true
      of true same is = absurd (true≢false (sym is ∙ ap is_committed (open_there fate t on u same)))
      of false same is = is

  -- a commit of a transaction in progress
  pub serial-commit : (start : S) → Good start → (os : List O) (fate : ℕ → Fate) (order : List ℕ) (t : ℕ) → fate t ≡ InProgress → IsSerial start os fate order → IsSerial start os (ended_so fate t Committed) (order ++ t ∷ [])
  serial-commit start g os fate order t on serial =
      record {
        leads = λ keep.
            let wider : ℕ → Bool = λ u. (u == t) || keep u in
            let waiting = filter (λ o. wider (by o)) p in
            let parted = serves-after front waiting _ (serves-parted is_t waiting (apart-kept (λ o. wider (by o)) p serial.apart)) start g in
            let of_t : filter (λ o. is_t (by o)) waiting ≡ group =
            sym (filter-both (λ o. wider (by o)) (λ o. is_t (by o)) p) ∙ filter_agree _ _ (λ o. wider_t (by o == t) (keep (by o))) p ∙ group-open os fate t on in
            let of_others : filter (λ o. not (is_t (by o))) waiting ≡ filter (λ o. keep (by o)) left =
            sym (filter-both (λ o. wider (by o)) (λ o. not (is_t (by o))) p)
            ∙ filter_agree (λ o. wider (by o) && not (is_t (by o))) (λ o. not (is_t (by o)) && keep (by o)) (λ o. wider_others (by o == t) (keep (by o))) p
            ∙ filter-both (λ o. not (is_t (by o))) (λ o. keep (by o)) p in
            ap (fold next start) (filter_agree (counts (ended_so fate t Committed) keep) (counts fate wider) (λ o. counts_commit (by o == t) (fate (by o)) (keep (by o)) (open_there fate t on (by o))) os)
            ∙ serial.leads wider
            ∙ parted.0
            ∙ ap (fold next start) ((λ i. front ++ (of_t i ++ of_others i)) ∙ sym (append_assoc front group (filter (λ o. keep (by o)) left)))
            ∙ (λ i. fold next start (sym (groups-more os order t) i ++ filter (λ o. keep (by o)) (sym now i)));
        returns =
            let parted = serves-after front p _ (serves-parted is_t p serial.apart) start g in
            subst (Returns start)
            ((λ i. front ++ (group-open os fate t on i ++ left)) ∙ sym (append_assoc front group left) ∙ (λ i. sym (groups-more os order t) i ++ sym now i))
            (parted.1 serial.returns);
        apart = ap are_apart now ∙ apart-kept (λ o. not (is_t (by o))) p serial.apart;
        ended =
            list_all-append (λ u. is_committed (ended_so fate t Committed u)) order (t ∷ [])
            ∙ (λ i. still-ended fate t Committed on order serial.ended i && (is_committed (if eqb-same t i then Committed else fate t) && true));
      }
    where
      is_t : ℕ → Bool
      is_t u = u == t

      p : List O
      p = in_progress os fate

      front : List O
      front = in_groups os order

      group : List O
      group = filter (λ o. by o == t) os

      left : List O
      left = filter (λ o. not (by o == t)) (in_progress os fate)

      now : in_progress os (ended_so fate t Committed) ≡ filter (λ o. not (by o == t)) (in_progress os fate)
      now = in_progress-ended os fate t Committed refl

  -- an abort of a transaction in progress
  pub serial-abort : (start : S) → Good start → (os : List O) (fate : ℕ → Fate) (order : List ℕ) (t : ℕ) → fate t ≡ InProgress → IsSerial start os fate order → IsSerial start os (ended_so fate t Aborted) order
  serial-abort start g os fate order t on serial =
      record {
        leads = λ keep.
            let others : ℕ → Bool = λ u. not (u == t) && keep u in
            ap (fold next start) (filter_agree (counts (ended_so fate t Aborted) keep) (counts fate others) (λ o. counts_abort (by o == t) (fate (by o)) (keep (by o)) (open_there fate t on (by o))) os)
            ∙ serial.leads others
            ∙ (λ i. fold next start (front ++ filter-both (λ o. not (by o == t)) (λ o. keep (by o)) p i))
            ∙ (λ i. fold next start (front ++ filter (λ o. keep (by o)) (sym now i)));
        returns =
            let parted = serves-after front p _ (serves-parted (λ u. not (u == t)) p serial.apart) start g in
            subst (λ xs. Returns start (front ++ xs)) (sym now)
            (returns-front start (front ++ left) (filter (λ o. not (not (by o == t))) p)
            (subst (Returns start) (sym (append_assoc front left (filter (λ o. not (not (by o == t))) p))) (parted.1 serial.returns)));
        apart = ap are_apart now ∙ apart-kept (λ o. not (by o == t)) p serial.apart;
        ended = still-ended fate t Aborted on order serial.ended;
      }
    where
      p : List O
      p = in_progress os fate

      front : List O
      front = in_groups os order

      left : List O
      left = filter (λ o. not (by o == t)) (in_progress os fate)

      now : in_progress os (ended_so fate t Aborted) ≡ filter (λ o. not (by o == t)) (in_progress os fate)
      now = in_progress-ended os fate t Aborted refl

  -- an operation of a transaction in progress is in no group
  groups-open : (os : List O) (fate : ℕ → Fate) (o : O) → fate (by o) ≡ InProgress → (order : List ℕ) → list_all (λ t. is_committed (fate t)) order ≡ true → in_groups (os ++ o ∷ []) order ≡ in_groups os order
  groups-open os fate o on [] all = refl
  groups-open os fate o on (t ∷ order) all =
      let both = and_parts (is_committed (fate t)) (list_all (λ u. is_committed (fate u)) order) all in
      λ i. of (by o == t) refl both.0 i ++ groups-open os fate o on order both.1 i
    where
      apart_from : (b : Bool) → (by o == t) ≡ b → is_committed (fate t) ≡ true → cond b (o ∷ []) [] ≡ []
      apart_from true same is = absurd (true≢false (sym is ∙ ap is_committed (ap fate (sym (eqb-true (by o) t same)) ∙ on)))
      apart_from false same is = refl

      of : (b : Bool) → (by o == t) ≡ b → is_committed (fate t) ≡ true → filter (λ x. by x == t) (os ++ o ∷ []) ≡ filter (λ x. by x == t) os
      of b same is =
          filter-append (λ x. by x == t) os (o ∷ [])
          ∙ ap (λ xs. filter (λ x. by x == t) os ++ xs) (apart_from (by o == t) refl is)
          ∙ append-nil (filter (λ x. by x == t) os)

  -- whether an operation is not aborted
  abbrev pub is_live : (ℕ → Fate) → O → Bool
  is_live fate o = not (is_aborted (fate (by o)))

  -- an operation of a transaction in progress that has the return due and commutes with those in progress of others
  pub serial-operate : (start : S) (os : List O) (fate : ℕ → Fate) (order : List ℕ) (o : O) → fate (by o) ≡ InProgress → out (fold next start (filter (is_live fate) os)) o ≡ recorded o →
      list_all (λ x. is_apart x o) (in_progress os fate) ≡ true → IsSerial start os fate order → IsSerial start (os ++ o ∷ []) fate order
  serial-operate start os fate order o on due apart serial =
      record {
        leads = λ keep.
            let more = cond (keep (by o)) (o ∷ []) [] in
            ap (fold next start) (filter-append (counts fate keep) os (o ∷ []) ∙ (λ i. filter (counts fate keep) os ++ cond (is_committed (on i) || (is_open (on i) && keep (by o))) (o ∷ []) []))
            ∙ fold-append next start (filter (counts fate keep) os) more
            ∙ ap (λ s. fold next s more) (serial.leads keep)
            ∙ sym (fold-append next start (front ++ filter (λ x. keep (by x)) p) more)
            ∙ ap (fold next start)
            (append_assoc front (filter (λ x. keep (by x)) p) more
            ∙ (λ i. sym grown i ++ sym (filter-append (λ x. keep (by x)) p (o ∷ [])) i)
            ∙ (λ i. in_groups (os ++ o ∷ []) order ++ filter (λ x. keep (by x)) (sym now i)));
        returns =
            subst (Returns start) (append_assoc front p (o ∷ []) ∙ (λ i. sym grown i ++ sym now i))
            (returns-push start (front ++ p) o serial.returns
            (ap (λ s. out s o) (ap (λ xs. fold next start (front ++ xs)) (sym (filter-all p)) ∙ sym (serial.leads (λ u. true)) ∙ ap (fold next start) (filter_agree _ _ (λ x. live_counts (fate (by x))) os)) ∙ due));
        apart = ap are_apart now ∙ apart-push p o serial.apart apart;
        ended = serial.ended;
      }
    where
      p : List O
      p = in_progress os fate

      front : List O
      front = in_groups os order

      grown : in_groups (os ++ o ∷ []) order ≡ in_groups os order
      grown = groups-open os fate o on order serial.ended

      now : in_progress (os ++ o ∷ []) fate ≡ in_progress os fate ++ o ∷ []
      now = filter-append (λ x. is_open (fate (by x))) os (o ∷ []) ∙ (λ i. in_progress os fate ++ cond (is_open (on i)) (o ∷ []) [])

  -- the committed ones alone
  pub serial-returns : (start : S) (os : List O) (fate : ℕ → Fate) (order : List ℕ) → IsSerial start os fate order → scan next out start (in_groups os order) ≡ map recorded (in_groups os order)
  serial-returns start os fate order serial =
      returns-scan start (in_groups os order) (returns-front start (in_groups os order) (in_progress os fate) serial.returns)
