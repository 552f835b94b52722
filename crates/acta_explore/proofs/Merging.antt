-- What merging keeps of points whose orders are sorted.
use Rattle.std.proofs.Common.{◌≡◌, ◌⊎◌, arith, List, [], ◌∷◌, ◌++◌, refl, sym, ap, subst, ◌∙◌, inl, inr}
use Rattle.std.specs.List.{Contains, AllByRecursion}
use Rattle.std.specs.declared.cmp.Ordering.TheVariants.{Less}
use Rattle.std.specs.Ordering.{is_le}
use Rattle.std.proofs.lemmas.List.{append_assoc}
use Rattle.std.proofs.lemmas.List.Elements.{All-contains, All-from_recursion, recursion_from_All, Contains-append_left, Contains-push, Contains-push_cases, Contains-append_cases}
use Rattle.acta_explore.specs.Ends.{order_cmp, IsAmong}
use Rattle.acta_explore.specs.Points.{Point, order_of}
use Rattle.acta_explore.specs.inside.Merging.{IsPut, IsMerged}
use Rattle.acta_explore.proofs.Pairs.{Pairs, all-append, pairs-push, pairs-before, pairs-without}
use Rattle.acta_explore.proofs.Orders.{order-same}

-- the order of p is earlier than that of q
abbrev pub IsBefore : {A : Type 0} → Point A → Point A → Type 0
IsBefore p q = order_cmp (order_of p) (order_of q) ≡ Less

module _ {A : Type 0} (R Unlike : Point A → Point A → Type 0) where
  -- a property of the points that were there, and of the added ones, holds of all
  put-all : (P : Point A → Type 0) (p : Point A) (old mid : List (Point A)) → IsPut R Unlike old p mid → AllByRecursion P old → P p → AllByRecursion P mid
  put-all P p old mid (inl put) all one = subst (AllByRecursion P) (sym put.0) (all-append P old (p ∷ []) all (one, tt))
  put-all P p old mid (inr like) all one = subst (AllByRecursion P) (sym like.0) all

  pub all-merged : (P : Point A → Type 0) (ps old new : List (Point A)) → IsMerged R Unlike old ps new → AllByRecursion P old → AllByRecursion P ps → AllByRecursion P new
  all-merged P [] old new e all more = subst (AllByRecursion P) (sym e) all
  all-merged P (p ∷ ps) old new m all more = all-merged P ps m.0 new m.2 (put-all P p old m.0 m.1 all more.0) more.1

  -- what was there is there still
  put-kept : (p : Point A) (old mid : List (Point A)) (q : Point A) → IsPut R Unlike old p mid → Contains old q → Contains mid q
  put-kept p old mid q (inl put) within = subst (λ (xs : List (Point A)). Contains xs q) (sym put.0) (Contains-append_left old (p ∷ []) q within)
  put-kept p old mid q (inr like) within = subst (λ (xs : List (Point A)). Contains xs q) (sym like.0) within

  pub kept-merged : (ps old new : List (Point A)) (q : Point A) → IsMerged R Unlike old ps new → Contains old q → Contains new q
  kept-merged [] old new q e within = subst (λ (xs : List (Point A)). Contains xs q) (sym e) within
  kept-merged (p ∷ ps) old new q m within = kept-merged ps m.0 new q m.2 (put-kept p old m.0 q m.1 within)

  -- the orders rise
  rise-put : (p : Point A) (ps old mid : List (Point A)) → IsPut R Unlike old p mid → Pairs IsBefore (old ++ p ∷ ps) → Pairs IsBefore (mid ++ ps)
  rise-put p ps old mid (inl put) rise = subst (Pairs IsBefore) (sym (append_assoc old (p ∷ []) ps) ∙ ap (λ (xs : List (Point A)). xs ++ ps) (sym put.0)) rise
  rise-put p ps old mid (inr like) rise = subst (λ (xs : List (Point A)). Pairs IsBefore (xs ++ ps)) (sym like.0) (pairs-without IsBefore old p ps rise)

  append-nil : (xs : List (Point A)) → xs ++ [] ≡ xs
  append-nil [] = refl
  append-nil (x ∷ xs) = ap (λ (ys : List (Point A)). x ∷ ys) (append-nil xs)

  pub rise-merged : (ps old new : List (Point A)) → IsMerged R Unlike old ps new → Pairs IsBefore (old ++ ps) → Pairs IsBefore new
  rise-merged [] old new e rise = subst (Pairs IsBefore) (append-nil old ∙ sym e) rise
  rise-merged (p ∷ ps) old new m rise = rise-merged ps m.0 new m.2 (rise-put p ps old m.0 m.1 rise)

  -- each point that was put is among them, or one that is related to it and has an earlier order
  among-put : ((p : Point A) → R p p) → (p : Point A) (ps old mid new : List (Point A)) → IsPut R Unlike old p mid → IsMerged R Unlike mid ps new → Pairs IsBefore (old ++ p ∷ ps) → IsAmong R new (order_of p) p
  among-put same p ps old mid new (inl put) m rise = record {
    by = p;
    within = kept-merged ps mid new p m (subst (λ (xs : List (Point A)). Contains xs p) (sym put.0) (Contains-push old p));
    related = same p;
    first = ap is_le (order-same (order_of p));
  }
  among-put same p ps old mid new (inr like) m rise =
      let before = All-contains (λ x. IsBefore x p) old like.1.by (All-from_recursion (λ x. IsBefore x p) old (pairs-before IsBefore old p ps rise)) like.1.within in
      record {
        by = like.1.by;
        within = kept-merged ps mid new like.1.by m (subst (λ (xs : List (Point A)). Contains xs like.1.by) (sym like.0) like.1.within);
        related = like.1.related;
        first = ap is_le before;
      }

  nil-contains : (q : Point A) → Contains [] q → ⊥
  nil-contains q within = let (k, less, is) = within in omega arith

  among-step : (p : Point A) (ps : List (Point A)) (q : Point A) → Contains (p ∷ ps) q → (p ≡ q) ⊎ Contains ps q
  among-step p ps q within = elim (Contains-append_cases (p ∷ []) ps q within) [
    | inl here ↦ elim (Contains-push_cases [] p q here) [ inl none ↦ absurd (nil-contains q none) | inr same ↦ inl same ]
    | inr there ↦ inr there
  ]

  pub among-merged : ((p : Point A) → R p p) → (ps old new : List (Point A)) (q : Point A) → IsMerged R Unlike old ps new → Pairs IsBefore (old ++ ps) → Contains ps q → IsAmong R new (order_of q) q
  among-merged same [] old new q e rise within = absurd (nil-contains q within)
  among-merged same (p ∷ ps) old new q m rise within = elim (among-step p ps q within) [
    | inl here ↦ subst (λ (r : Point A). IsAmong R new (order_of r) r) here (among-put same p ps old m.0 new m.1 m.2 rise)
    | inr there ↦ among-merged same ps m.0 new q m.2 (rise-put p ps old m.0 m.1 rise) there
  ]

  -- and the added points are unlike those before them
  unlike-put : (p : Point A) (old mid : List (Point A)) → IsPut R Unlike old p mid → Pairs Unlike old → Pairs Unlike mid
  unlike-put p old mid (inl put) pairs = subst (Pairs Unlike) (sym put.0) (pairs-push Unlike old p pairs (recursion_from_All (λ x. Unlike x p) old put.1))
  unlike-put p old mid (inr like) pairs = subst (Pairs Unlike) (sym like.0) pairs

  pub unlike-merged : (ps old new : List (Point A)) → IsMerged R Unlike old ps new → Pairs Unlike old → Pairs Unlike new
  unlike-merged [] old new e pairs = subst (Pairs Unlike) (sym e) pairs
  unlike-merged (p ∷ ps) old new m pairs = unlike-merged ps m.0 new m.2 (unlike-put p old m.0 m.1 pairs)

  -- merging some and then others is merging all
  pub merged-append : (ps qs old mid new : List (Point A)) → IsMerged R Unlike old ps mid → IsMerged R Unlike mid qs new → IsMerged R Unlike old (ps ++ qs) new
  merged-append [] qs old mid new e m = subst (λ (xs : List (Point A)). IsMerged R Unlike xs qs new) e m
  merged-append (p ∷ ps) qs old mid new e m = (e.0, e.1, merged-append ps qs e.0 mid new e.2 m)
