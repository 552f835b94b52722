-- The list of all start edges is sorted, and when a list of start edges is sorted.
use Rattle.std.specs.Prelude.{◌≡◌, ◌↔◌, ℕ, ◌+◌, ◌<◌, Bool, true, false, List, [], ◌∷◌, length, flat_map, IsTrue}
use Rattle.std.proofs.Common.{refl, ap, ◌∙◌, arith, rules, Ordering, Less, Equal, Greater}
use Rattle.std.specs.List.{IsAllAdjacentAnswer}
use Rattle.std.specs.List.Sorted.{IsStrictlySortedBy}
use Rattle.std.specs.Cmp.{IsTotalOrder}
use Rattle.std.specs.Ordering.{is_lt}
use Rattle.std.proofs.lemmas.Cmp.{then_total, on_total, nat_cmp_total}
use Rattle.std.proofs.lemmas.Map.Keys.{sorted_from_all_adjacent, Less-from_sorted}
use Rattle.acta_table.specs.declared.start_edges.StartEdge.{StartEdge}
use Rattle.acta_table.specs.Dependencies.{code_of, all_kinds}
use Rattle.acta_table.specs.Starts.{rank_of, start_edge_cmp, both_of}

pub in_order : IsStrictlySortedBy start_edge_cmp (flat_map both_of all_kinds)
unfolding IsStrictlySortedBy
in_order = search rules

start_edge_total : IsTotalOrder start_edge_cmp
start_edge_total =
    then_total (on_total (λ e. code_of e.kind) nat_cmp_total) (on_total (λ e. rank_of e.dependent) nat_cmp_total)

less : (order : Ordering) → true ≡ is_lt order → order ≡ Less
less Less is = refl
less Equal is = cc
less Greater is = cc

-- they are sorted exactly if each comes before the next
pub in_order_by_next : (edges : List StartEdge) (answer : Bool) →
    IsAllAdjacentAnswer (λ e f b. b ≡ is_lt (start_edge_cmp e f)) edges answer →
    IsTrue answer ↔ IsStrictlySortedBy start_edge_cmp edges
unfolding IsStrictlySortedBy
in_order_by_next [] true each = (λ _. tt, λ _. refl)
in_order_by_next [] false (k, within, at) = absurd (omega arith)
in_order_by_next (e ∷ edges) true each =
    let by_next = λ (k : ℕ) (within : k + 1 < length (e ∷ edges)). less _ (each k e within) in
    (λ _. sorted_from_all_adjacent start_edge_total (e ∷ edges) e by_next, λ _. refl)
in_order_by_next (e ∷ edges) false (k, within, at) =
    let before = Less-from_sorted start_edge_cmp (e ∷ edges) k (k + 1) e in
    (λ is. cc, λ sorted. at e ∙ ap is_lt (before sorted (omega arith) within))
