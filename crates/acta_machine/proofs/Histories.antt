-- The summary of the empty history, and of a history with one more event.
use Rattle.std.proofs.Common.{◌≡◌, ℕ, suc, ◌+◌, ◌≤◌, List, [], ◌∷◌, ◌++◌, length, refl, arith, ◌∙◌, ap, sym, Option, Some, None, length-append}
use Rattle.std.proofs.lemmas.List.{length-map}
use Rattle.acta_machine.specs.declared.machine_state.TxnRecord.{TxnRecord}
use Rattle.acta_table.specs.declared.event.OpNo.{OpNo}
use Rattle.acta_table.specs.declared.event.TxnId.{TxnId}
use Rattle.acta_sets.specs.Operations.{moved_from}
use Rattle.acta_table.specs.declared.model.Parts.{Parts}
use Rattle.acta_table.specs.declared.event.Event.TheVariants.{Begin, Spawn, Split, Join, Delegate, Form, Operate, Commit, Abort, Permit}
use Rattle.acta_table.specs.declared.event.Kept.{Kept}
use Rattle.acta_table.specs.declared.answer.Status.TheVariants.{Committed}
use Rattle.acta_deps.specs.Deps.{DepState, status_of}
use Rattle.acta_sets.specs.declared.held_op.HeldOp.{HeldOp}
use Rattle.acta_sets.specs.Permits.{Permitted, none_permitted}
use Rattle.acta_machine.specs.Summary.{Summary, nothing_yet, stood, terminated, permit_given, entered, linked, given, inherited, operated, fated, counted}
use Rattle.acta_machine.specs.Changes.{edges_due, settled, effect, summary_from, summary_of}
use Rattle.acta_machine.specs.Families.{heir_of}
use Rattle.acta_machine.specs.inside.Abstraction.{record_in, summary_in}

summary_from_more : {A : Type 0} (m : Parts A) (s : Summary) (history : List (Kept A)) (k : Kept A) → summary_from m s (history ++ k ∷ []) ≡ effect m (summary_from m s history) k.event
summary_from_more m s [] k = refl
summary_from_more m s (h ∷ hs) k = summary_from_more m (effect m s h.event) hs k

-- one more event applies its effect to the summary
pub summary_more : {A : Type 0} (m : Parts A) (history : List (Kept A)) (k : Kept A) → summary_of m (history ++ k ∷ []) ≡ effect m (summary_of m history) k.event
unfolding summary_of
summary_more m history k = summary_from_more m nothing_yet history k

-- new tables with an empty history represent the summary before any event
pub fresh_summary : {A : Type 0} (m : Parts A) (deps : DepState) (records : List TxnRecord) (operations : List HeldOp) (permits : Permitted) (kept : List (Kept A)) → deps ≡ record { statuses = []; edges = [] } → records ≡ [] → operations ≡ [] → permits ≡ none_permitted → kept ≡ [] → summary_in deps records operations permits kept ≡ summary_of m kept
unfolding summary_of
fresh_summary m deps records operations permits kept new none no_operation no_permit empty =
    let shows : summary_in deps records operations permits kept ≡ nothing_yet =
    λ i. record {
      kept = length (empty i);
      status = status_of (new i);
      class = λ u. (record_in (none i) u).class;
      parent = λ u. (record_in (none i) u).parent;
      operations = no_operation i;
      edges = (new i).edges;
      permits = no_permit i;
    } in
    shows ∙ sym (ap (summary_from m nothing_yet) empty)

length-moved : (n : ℕ) (ops : List OpNo) (u : TxnId) (items : List HeldOp) → length (moved_from n ops u items) ≡ length items
length-moved n ops u [] = refl
length-moved n ops u (i ∷ items) = ap suc (length-moved (n + 1) ops u items)

-- a commit does not change the number of operations
settled_few : (s : Summary) (t : TxnId) (heir : Option TxnId) → length (counted (settled (terminated s t Committed) t heir)).operations ≤ length s.operations + 1
unfolding terminated inherited fated counted
settled_few s t None = simp length-map (omega arith)
settled_few s t (Some heir) = simp length-map (omega arith)

changed_few : {A : Type 0} (m : Parts A) (s : Summary) (k : Kept A) → length (effect m s k.event).operations ≤ length s.operations + 1
unfolding stood terminated permit_given entered linked given inherited operated fated counted
changed_few m s k =
    elim k.event as (λ e. length (effect m s e).operations ≤ length s.operations + 1) [
      | Begin t class ↦ omega arith
      | Spawn t c class ↦ omega arith
      | Split t u class ops ↦ let same = length-moved 1 ops u s.operations in omega (arith, same)
      | Join t u ↦ simp length-map (omega arith)
      | Delegate t u ops ↦ let same = length-moved 1 ops u s.operations in omega (arith, same)
      | Form kind j i ↦ omega arith
      | Operate t ob op ↦ simp length-append (omega arith)
      | Commit t ↦ settled_few (linked s (edges_due m s (Commit t))) t (heir_of m s t.0)
      | Abort t ↦ simp length-map (omega arith)
      | Permit t u ob ↦ omega arith
    ]

few_from : {A : Type 0} (m : Parts A) (s : Summary) (history : List (Kept A)) → length (summary_from m s history).operations ≤ length s.operations + length history
few_from m s [] = omega arith
few_from m s (k ∷ ks) = omega (arith, changed_few m s k, few_from m (effect m s k.event) ks)

-- there are no more operations than events
pub operations_few : {A : Type 0} (m : Parts A) (history : List (Kept A)) → length (summary_of m history).operations ≤ length history
unfolding summary_of
operations_few m history = let h = few_from m nothing_yet history in omega (arith, h)
