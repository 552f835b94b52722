-- The order of orders.
use Rattle.std.proofs.Common.{◌≡◌, ◌<◌, ℕ, ◌+◌, suc, true, List, [], ◌∷◌, ◌++◌, length, refl, sym, ap, ◌∙◌, arith}
use Rattle.std.specs.Cmp.{IsTotalOrder}
use Rattle.std.specs.Cmp.Lexicographic.{slice_cmp, lists_total}
use Rattle.std.specs.declared.cmp.Ordering.{Ordering}
use Rattle.std.specs.declared.cmp.Ordering.TheVariants.{Less, Equal, Greater}
use Rattle.std.specs.Ordering.{nat_cmp, ordering_then, is_le, MatchOrdering}
use Rattle.std.proofs.lemmas.Cmp.{tied_itself, nat_cmp_total, on_total, then_total, ranked, alike_right}
use Rattle.std.proofs.lemmas.List.{length-append}
use Rattle.acta_explore.specs.declared.point.Turn.{Turn}
use Rattle.acta_explore.specs.Ends.{turn_cmp, order_cmp}

pub turn-total : IsTotalOrder turn_cmp
turn-total = then_total (on_total (λ t. t.seat) nat_cmp_total) (on_total (λ t. t.alternative) nat_cmp_total)

pub order-total : IsTotalOrder order_cmp
order-total = then_total (on_total (λ ts. length ts) nat_cmp_total) (lists_total turn-total)

pub order-same : (turns : List Turn) → order_cmp turns turns ≡ Equal
order-same turns = tied_itself order-total turns

-- of orders of one length
equal-length : (m n : ℕ) → m ≡ n → nat_cmp m n ≡ Equal
equal-length m n e = ap (nat_cmp m) (sym e) ∙ tied_itself nat_cmp_total m

by-slices : (xs ys : List Turn) → length xs ≡ length ys → order_cmp xs ys ≡ slice_cmp turn_cmp xs ys
by-slices xs ys e = ap (λ (o : Ordering). ordering_then o (slice_cmp turn_cmp xs ys)) (equal-length (length xs) (length ys) e)

one-less : {m n : ℕ} → suc m ≡ suc n → m ≡ n
one-less e = omega arith

-- with something more after both
slice-step : (o p : Ordering) (s t : Ordering) → (s ≡ p → t ≡ p) → ordering_then o s ≡ p → ordering_then o t ≡ p
slice-step Less p s t later e = e
slice-step Equal p s t later e = later e
slice-step Greater p s t later e = e

slice-less : (xs ys zs ws : List Turn) → length xs ≡ length ys → slice_cmp turn_cmp xs ys ≡ Less → slice_cmp turn_cmp (xs ++ zs) (ys ++ ws) ≡ Less
slice-less [] [] zs ws e h = absurd cc
slice-less [] (y ∷ ys) zs ws e h = absurd cc
slice-less (x ∷ xs) [] zs ws e h = absurd cc
slice-less (x ∷ xs) (y ∷ ys) zs ws e h = slice-step (turn_cmp x y) Less (slice_cmp turn_cmp xs ys) (slice_cmp turn_cmp (xs ++ zs) (ys ++ ws)) (slice-less xs ys zs ws (one-less e)) h

slice-equal : (xs ys zs : List Turn) → length xs ≡ length ys → slice_cmp turn_cmp xs ys ≡ Equal → slice_cmp turn_cmp (xs ++ zs) (ys ++ zs) ≡ Equal
slice-equal [] [] zs e h = tied_itself (lists_total turn-total) zs
slice-equal [] (y ∷ ys) zs e h = absurd cc
slice-equal (x ∷ xs) [] zs e h = absurd cc
slice-equal (x ∷ xs) (y ∷ ys) zs e h = slice-step (turn_cmp x y) Equal (slice_cmp turn_cmp xs ys) (slice_cmp turn_cmp (xs ++ zs) (ys ++ zs)) (slice-equal xs ys zs (one-less e)) h

slice-last : (xs : List Turn) (t u : Turn) → turn_cmp t u ≡ Less → slice_cmp turn_cmp (xs ++ t ∷ []) (xs ++ u ∷ []) ≡ Less
slice-last [] t u e = ap (λ (o : Ordering). ordering_then o Equal) e
slice-last (x ∷ xs) t u e = ap (λ (o : Ordering). ordering_then o (slice_cmp turn_cmp (xs ++ t ∷ []) (xs ++ u ∷ []))) (tied_itself turn-total x) ∙ slice-last xs t u e

same-more : (xs ys : List Turn) (t u : Turn) → length xs ≡ length ys → length (xs ++ t ∷ []) ≡ length (ys ++ u ∷ [])
same-more xs ys t u e = length-append xs (t ∷ []) ∙ (ap (λ (n : ℕ). n + 1) e ∙ sym (length-append ys (u ∷ [])))

-- an earlier order stays earlier with a turn more
pub less-more : (xs ys : List Turn) (t u : Turn) → length xs ≡ length ys → order_cmp xs ys ≡ Less → order_cmp (xs ++ t ∷ []) (ys ++ u ∷ []) ≡ Less
less-more xs ys t u e h =
    by-slices (xs ++ t ∷ []) (ys ++ u ∷ []) (same-more xs ys t u e) ∙ slice-less xs ys (t ∷ []) (u ∷ []) e (sym (by-slices xs ys e) ∙ h)

-- of two that differ in the last turn
pub last-less : (xs : List Turn) (t u : Turn) → turn_cmp t u ≡ Less → order_cmp (xs ++ t ∷ []) (xs ++ u ∷ []) ≡ Less
last-less xs t u e = by-slices (xs ++ t ∷ []) (xs ++ u ∷ []) (same-more xs xs t u refl) ∙ slice-last xs t u e

-- the shorter is earlier
pub short-less : (xs ys : List Turn) → length xs < length ys → order_cmp xs ys ≡ Less
short-less xs ys less = ap (λ (o : Ordering). ordering_then o (slice_cmp turn_cmp xs ys)) (lower (nat_cmp (length xs) (length ys)) (ranked (length xs) (length ys) (nat_cmp (length xs) (length ys)) refl))
  where
    lower : (o : Ordering) → MatchOrdering o (length xs < length ys) (length xs ≡ length ys) (length ys < length xs) → o ≡ Less
    lower Less m = refl
    lower Equal m = absurd (omega arith)
    lower Greater m = absurd (omega arith)

le-step : (xs ys : List Turn) (t : Turn) → length xs ≡ length ys → (o : Ordering) → order_cmp xs ys ≡ o → is_le o ≡ true → is_le (order_cmp (xs ++ t ∷ []) (ys ++ t ∷ [])) ≡ true
le-step xs ys t e Less h l = ap is_le (less-more xs ys t t e h)
le-step xs ys t e Equal h l =
    ap is_le (by-slices (xs ++ t ∷ []) (ys ++ t ∷ []) (same-more xs ys t t e) ∙ slice-equal xs ys (t ∷ []) e (sym (by-slices xs ys e) ∙ h))
le-step xs ys t e Greater h l = absurd cc

-- an order that is no later is no later with the same turn more
pub le-more : (xs ys : List Turn) (t : Turn) → length xs ≡ length ys → is_le (order_cmp xs ys) ≡ true → is_le (order_cmp (xs ++ t ∷ []) (ys ++ t ∷ [])) ≡ true
le-more xs ys t e l = le-step xs ys t e (order_cmp xs ys) refl l

le-by : (xs ys zs : List Turn) (o p : Ordering) → order_cmp xs ys ≡ o → order_cmp ys zs ≡ p → is_le o ≡ true → is_le p ≡ true → is_le (order_cmp xs zs) ≡ true
le-by xs ys zs Less Less e f l m = ap is_le (order-total.trans xs ys zs e f)
le-by xs ys zs Equal p e f l m = ap is_le (order-total.congr xs ys zs e ∙ f) ∙ m
le-by xs ys zs Less Equal e f l m = ap is_le (less-equal e f)
  where
    less-equal : order_cmp xs ys ≡ Less → order_cmp ys zs ≡ Equal → order_cmp xs zs ≡ Less
    less-equal e f = sym (alike_right order-total ys zs xs f) ∙ e
le-by xs ys zs Less Greater e f l m = absurd cc
le-by xs ys zs Greater p e f l m = absurd cc

pub le-trans : (xs ys zs : List Turn) → is_le (order_cmp xs ys) ≡ true → is_le (order_cmp ys zs) ≡ true → is_le (order_cmp xs zs) ≡ true
le-trans xs ys zs l m = le-by xs ys zs (order_cmp xs ys) (order_cmp ys zs) refl refl l m
