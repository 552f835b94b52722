-- Faults that are added in order one by one: the earlier ones stay, and only these are added.
use Rattle.std.proofs.Common.{◌≡◌, Bool, true, false, ◌||◌, List, [], ◌∷◌, fold, refl, sym, ap, ◌∙◌, Ordering, Less, Equal, Greater}
use Rattle.std.specs.Cmp.{IsTotalOrder, alike_right, nat_cmp_total, on_total, then_total}
use Rattle.std.specs.List.{list_any}
use Rattle.std.specs.Ordering.{match_ordering, is_eq}
use Rattle.std.specs.BTreeSet.{insert_key}
use Rattle.acta_axioms.specs.declared.fault.Fault.{Fault}
use Rattle.acta_axioms.specs.Axioms.{axiom_number}
use Rattle.acta_judge.specs.Order.{fault_cmp, is_reported, merged, in_order}

faults-total : IsTotalOrder fault_cmp
faults-total =
    then_total (on_total (λ (f : Fault). axiom_number f.broken) nat_cmp_total)
    (then_total (on_total (λ (f : Fault). f.place) nat_cmp_total) (on_total (λ (f : Fault). f.by) nat_cmp_total))

-- what is equivalent is equivalent to the same
equivalent : (f k x : Fault) → fault_cmp k x ≡ Equal → is_eq (fault_cmp f k) ≡ is_eq (fault_cmp f x)
equivalent f k x same = ap is_eq (alike_right faults-total k x f same)

swapped : (a b c : Bool) → (a || (b || c)) ≡ (b || (a || c))
swapped true true c = refl
swapped true false c = refl
swapped false b c = refl

once : (a b : Bool) → (a || b) ≡ (a || (a || b))
once true b = refl
once false b = refl

regrouped : (a b c : Bool) → (a || (b || c)) ≡ ((b || a) || c)
regrouped true true c = refl
regrouped true false c = refl
regrouped false true c = refl
regrouped false false c = refl

or-nothing : (b : Bool) → (b || false) ≡ b
or-nothing true = refl
or-nothing false = refl

-- what is told with one more, where it is known how that one compares with the first, and what comes of the rest
reported-by : (f x k : Fault) (xs rest : List Fault) (order : Ordering) → fault_cmp k x ≡ order → is_reported f rest ≡ (is_eq (fault_cmp f k) || is_reported f xs) → is_reported f (match_ordering order (k ∷ x ∷ xs) (x ∷ xs) (x ∷ rest)) ≡ (is_eq (fault_cmp f k) || (is_eq (fault_cmp f x) || is_reported f xs))
reported-by f x k xs rest Less is later = refl
reported-by f x k xs rest Equal is later = once (is_eq (fault_cmp f x)) (is_reported f xs) ∙ ap (λ b. b || (is_eq (fault_cmp f x) || is_reported f xs)) (sym (equivalent f k x is))
reported-by f x k xs rest Greater is later = ap (λ b. is_eq (fault_cmp f x) || b) later ∙ swapped (is_eq (fault_cmp f x)) (is_eq (fault_cmp f k)) (is_reported f xs)

reported-with : (f : Fault) (faults : List Fault) (k : Fault) → is_reported f (insert_key fault_cmp faults k) ≡ (is_eq (fault_cmp f k) || is_reported f faults)
reported-with f [] k = refl
reported-with f (x ∷ xs) k = reported-by f x k xs (insert_key fault_cmp xs k) (fault_cmp k x) refl (reported-with f xs k)

reported-merged : (f : Fault) (faults others : List Fault) → is_reported f (merged faults others) ≡ (is_reported f others || is_reported f faults)
reported-merged f faults [] = refl
reported-merged f faults (k ∷ ks) =
    reported-merged f (insert_key fault_cmp faults k) ks
    ∙ ap (λ b. is_reported f ks || b) (reported-with f faults k)
    ∙ regrouped (is_reported f ks) (is_eq (fault_cmp f k)) (is_reported f faults)

-- in order, the same faults are reported
pub reported-in-order : (f : Fault) (faults : List Fault) → is_reported f (in_order faults) ≡ is_reported f faults
reported-in-order f faults = reported-merged f [] faults ∙ or-nothing (is_reported f faults)
