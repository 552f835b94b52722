-- The number of operations before a place.
use Rattle.std.proofs.Common.{◌≡◌, ◌+◌, suc, if◌then◌else◌, List, [], ◌∷◌, ◌++◌, length, filter, refl, ap, ◌∙◌}
use Rattle.std.specs.List.{filter_map, cons_option}
use Rattle.std.proofs.lemmas.List.{length-map}
use Rattle.std.proofs.lemmas.List.Sums.{length-filter}
use Rattle.acta_table.specs.declared.event.Event.{Event}
use Rattle.acta_table.specs.declared.event.Event.TheVariants.{Operate}
use Rattle.acta_table.specs.declared.event.Kept.{Kept}
use Rattle.acta_table.specs.declared.model.Parts.{Parts}
use Rattle.acta_axioms.specs.History.{Place, places_after}
use Rattle.acta_axioms.specs.Operations.{Operation, is_operate, number_after, operation_in, operation_at, operations, standing}
use Rattle.acta_axioms.specs.Walks.{held_op, held_ops}

-- an operation counts for one, and another event for none
counted-one : {A : Type 0} (p : Place A) (e : Event A) (k : Kept A) (os : List Operation) (ks : List (Kept A)) → length os ≡ length ks → length (cons_option (operation_in p e) os) ≡ length (if is_operate e then k ∷ ks else ks)
counted-one p (Operate t object op) k os ks same = ap suc same
counted-one p _ k os ks same = same

counted : {A : Type 0} (before ks : List (Kept A)) → length (filter_map operation_at (places_after before ks)) ≡ length (filter (λ k. is_operate k.event) ks)
counted before [] = refl
counted before (k ∷ ks) =
    counted-one (record { before = before; kept = k }) k.event k (filter_map operation_at (places_after (before ++ k ∷ []) ks)) (filter (λ x. is_operate x.event) ks) (counted (before ++ k ∷ []) ks)

-- an operation that follows these items has the number after their last one's
pub number_shown : {A : Type 0} (m : Parts A) (h : List (Kept A)) → length (held_ops m h) + 1 ≡ number_after h
number_shown m h =
    ap (λ n. n + 1) (length-map (operations h) (λ (o : Operation). held_op o (standing m h o)) ∙ counted [] h ∙ length-filter (λ k. is_operate k.event) h)
