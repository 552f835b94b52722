-- The ancestors of a transaction, by those of its parent.
use Rattle.std.proofs.Common.{◌≡◌, ℕ, zero, suc, ◌<◌, ◌≤◌, true, List, [], ◌∷◌, length, Option, Some, None, option_map, is_some, refl, ap, ◌∙◌, arith}
use Rattle.std.specs.Option.{option_and_then}
use Rattle.acta_table.specs.declared.event.Kept.{Kept}
use Rattle.acta_table.specs.declared.event.TxnId.{TxnId}
use Rattle.acta_table.specs.Ancestors.{ancestors_from}
use Rattle.acta_axioms.specs.History.{Place, number, first, starts, course, spawner, parent_of, ancestors}
use Rattle.acta_axioms.proofs.Growth.{HasStartedBy, parent_earlier, started_within}

-- a transaction that has a parent has started
child_begun : {A : Type 0} (h : List (Kept A)) (t : ℕ) (p : TxnId) → parent_of h t ≡ Some p → HasStartedBy h t (length h)
child_begun {A} h t p parent = started_within h t (of_first (first (starts t) h) parent)
  where
    of_first : (o : Option (Place A)) → option_and_then (λ q. spawner q.before q.kept.event) o ≡ Some p → is_some (option_map number o) ≡ true
    of_first None is = cc
    of_first (Some q) is = refl

-- if a transaction started up to the nth place, its list of n ancestors is complete
one_more : {A : Type 0} (h : List (Kept A)) (n t i : ℕ) (up : Option TxnId) → (course h t).start ≡ Some i → i ≤ n → parent_of h t ≡ up
    → ancestors_from n (parent_of h) up ≡ ancestors_from (suc n) (parent_of h) up
one_more h n t i None start within parent = refl
one_more h zero t i (Some p) start within parent =
    let earlier = parent_earlier h t i p parent start in
    absurd (let low : earlier.0 < i = earlier.2 in omega (arith, low, within))
one_more h (suc n) t i (Some p) start within parent =
    let earlier = parent_earlier h t i p parent start in
    let low : earlier.0 ≤ n = (let before : earlier.0 < i = earlier.2 in omega (arith, before, within)) in
    ap (λ line. p ∷ line) (one_more h n p.0 earlier.0 (parent_of h p.0) earlier.1 low refl)

-- a list of ancestors that is long enough continues with the parent's
through : {A : Type 0} (h : List (Kept A)) (n t i : ℕ) (p : TxnId) → (course h t).start ≡ Some i → i ≤ n → parent_of h t ≡ Some p
    → ancestors_from n (parent_of h) (Some p) ≡ p ∷ ancestors_from n (parent_of h) (parent_of h p.0)
through h n t i p start within parent = one_more h n t i (Some p) start within parent

pub of_child : {A : Type 0} (h : List (Kept A)) (t : ℕ) (p : TxnId) → parent_of h t ≡ Some p → ancestors h t ≡ p ∷ ancestors h p.0
of_child h t p parent =
    let begun = child_begun h t p parent in
    ap (λ up. ancestors_from (length h) (parent_of h) up) parent ∙ through h (length h) t begun.0 p begun.1 begun.2 parent

pub of_orphan : {A : Type 0} (h : List (Kept A)) (t : ℕ) → parent_of h t ≡ None → ancestors h t ≡ []
of_orphan h t none = ap (λ up. ancestors_from (length h) (parent_of h) up) none
