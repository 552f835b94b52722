-- The operations of a history are numbered from 1, so those that pass a test have the numbers of the passing items in
-- any list with one item for each operation.
use Rattle.std.proofs.Common.{if◌then◌else◌, ◌≡◌, ℕ, zero, suc, ◌+◌, ◌<◌, Bool, true, false, ◌||◌, cond, List, [], ◌∷◌, ◌++◌, map, filter, slice_get, refl, sym, ap, ◌∙◌, arith, eq-eqb}
use Rattle.std.specs.List.{filter_map, cons_option}
use Rattle.std.specs.Option.{option_map_or}
use Rattle.std.proofs.lemmas.Bool.{ne_eqb}
use Rattle.acta_table.specs.Numbered.{numbers_from, numbers_where}
use Rattle.acta_table.specs.declared.event.Event.{Event}
use Rattle.acta_table.specs.declared.event.Event.TheVariants.{Operate}
use Rattle.acta_table.specs.declared.event.Kept.{Kept}
use Rattle.acta_table.specs.declared.model.Parts.{Parts}
use Rattle.acta_sets.specs.declared.held_op.HeldOp.{HeldOp}
use Rattle.acta_sets.specs.Operations.{is_held, operation_at as held_at}
use Rattle.acta_axioms.specs.Faults.{has_number}
use Rattle.acta_axioms.specs.History.{places_after}
use Rattle.acta_axioms.specs.Operations.{Operation, is_operate, number_after, operation_in, operation_at, operations, standing, access_set}
use Rattle.acta_axioms.specs.Walks.{held_op, held_ops}
use Rattle.acta_axioms.proofs.Growth.{number_after-push}

numbers_after : {A : Type 0} {X : Type 0} (show : Operation → X) (test : X → Bool) (before ks : List (Kept A)) →
    map (λ o. o.number) (filter (λ o. test (show o)) (filter_map operation_at (places_after before ks)))
    ≡ numbers_from test (number_after before) (map show (filter_map operation_at (places_after before ks)))
numbers_after show test before [] = refl
numbers_after {A} {X} show test before (k ∷ ks) = of_event k.event (number_after-push before k) (numbers_after show test (before ++ k ∷ []) ks)
  where
    of_test : (b : Bool) (n : ℕ) (o : Operation) (os : List Operation) → o.number ≡ n →
        map (λ q. q.number) (filter (λ q. test (show q)) os) ≡ numbers_from test (n + 1) (map show os) →
        map (λ q. q.number) (cond b (o ∷ filter (λ q. test (show q)) os) (filter (λ q. test (show q)) os))
        ≡ cond b (n ∷ numbers_from test (n + 1) (map show os)) (numbers_from test (n + 1) (map show os))
    of_test true n o os same later = λ i. same i ∷ later i
    of_test false n o os same later = later

    of_event : (e : Event A) → number_after (before ++ k ∷ []) ≡ number_after before + cond (is_operate e) 1 0 →
        map (λ o. o.number) (filter (λ o. test (show o)) (filter_map operation_at (places_after (before ++ k ∷ []) ks)))
        ≡ numbers_from test (number_after (before ++ k ∷ [])) (map show (filter_map operation_at (places_after (before ++ k ∷ []) ks))) →
        map (λ o. o.number) (filter (λ o. test (show o)) (cons_option (operation_in (record { before = before; kept = k }) e) (filter_map operation_at (places_after (before ++ k ∷ []) ks))))
        ≡ numbers_from test (number_after before) (map show (cons_option (operation_in (record { before = before; kept = k }) e) (filter_map operation_at (places_after (before ++ k ∷ []) ks))))
    of_event (Operate t object op) grown later =
        of_test (test (show _)) (number_after before) _ (filter_map operation_at (places_after (before ++ k ∷ []) ks)) refl
        (later ∙ ap (λ n. numbers_from test n (map show (filter_map operation_at (places_after (before ++ k ∷ []) ks)))) grown)
    of_event _ grown later =
        let same : number_after (before ++ k ∷ []) ≡ number_after before = omega arith in
        later ∙ ap (λ n. numbers_from test n (map show (filter_map operation_at (places_after (before ++ k ∷ []) ks)))) same

-- the numbers of the operations that pass a test of what is shown of them
pub numbers-shown : {A : Type 0} {X : Type 0} (show : Operation → X) (test : X → Bool) (h : List (Kept A)) →
    map (λ o. o.number) (filter (λ o. test (show o)) (operations h)) ≡ numbers_where test (map show (operations h))
numbers-shown show test h = numbers_after show test [] h

-- a number is among those of the passing items exactly if the item with that number passes
below : (test : HeldOp → Bool) (k n : ℕ) (items : List HeldOp) → n < k → has_number (numbers_from test k items) n ≡ false
below test k n [] low = refl
below test k n (i ∷ items) low = of (test i) (below test (k + 1) n items (omega (arith, low)))
  where
    of : (b : Bool) → has_number (numbers_from test (k + 1) items) n ≡ false → has_number (if b then k ∷ numbers_from test (k + 1) items else numbers_from test (k + 1) items) n ≡ false
    of true later = (λ i. ne_eqb k n (λ e. omega (arith, low, e)) i || later i)
    of false later = later

from : (test : HeldOp → Bool) (k i : ℕ) (items : List HeldOp) → has_number (numbers_from test k items) (k + i) ≡ option_map_or test (slice_get items i) false
from test k i [] = refl
from test k zero (x ∷ items) = of (test x) (below test (k + 1) (k + 0) items (omega arith))
  where
    of : (b : Bool) → has_number (numbers_from test (k + 1) items) (k + 0) ≡ false → has_number (if b then k ∷ numbers_from test (k + 1) items else numbers_from test (k + 1) items) (k + 0) ≡ b
    of true later = ap (λ c. c || has_number (numbers_from test (k + 1) items) (k + 0)) (eq-eqb k (k + 0) (omega arith))
    of false later = later
from test k (suc i) (x ∷ items) =
    let same : k + suc i ≡ (k + 1) + i = omega arith in
    of (test x) (ap (has_number (numbers_from test (k + 1) items)) same ∙ from test (k + 1) i items)
  where
    of : (b : Bool) → has_number (numbers_from test (k + 1) items) (k + suc i) ≡ option_map_or test (slice_get items i) false → has_number (if b then k ∷ numbers_from test (k + 1) items else numbers_from test (k + 1) items) (k + suc i) ≡ option_map_or test (slice_get items i) false
    of true later = ap (λ c. c || has_number (numbers_from test (k + 1) items) (k + suc i)) (ne_eqb k (k + suc i) (λ e. omega (arith, e))) ∙ later
    of false later = later

-- whether t holds operation n in progress
abbrev pub holds : List HeldOp → ℕ → ℕ → Bool
holds items t n = option_map_or (is_held t) (held_at items n) false

pub has-held : (items : List HeldOp) (t n : ℕ) → has_number (numbers_where (is_held t) items) n ≡ holds items t n
has-held items t zero = below (is_held t) 1 0 items (omega arith)
has-held items t (suc n) =
    let same : suc n ≡ 1 + n = omega arith in
    ap (has_number (numbers_where (is_held t) items)) same ∙ from (is_held t) 1 n items

-- a number is in the access set of t exactly if t holds the operation with that number
pub holds_number : {A : Type 0} (m : Parts A) (h : List (Kept A)) (t n : ℕ) → holds (held_ops m h) t n ≡ has_number (map (λ o. o.number) (access_set m h t)) n
holds_number m h t n =
    sym (has-held (held_ops m h) t n)
    ∙ ap (λ ns. has_number ns n) (sym (numbers-shown (λ o. held_op o (standing m h o)) (is_held t) h))
