-- An event adds at most one operation.
use Rattle.std.proofs.Common.{◌≡◌, ◌≤◌, ◌+◌, ℕ, suc, zero, List, [], ◌∷◌, ◌++◌, length, map, Option, Some, None, refl, sym, ap, ◌∙◌, subst, arith, length-append}
use Rattle.acta_table.specs.declared.answer.Fate.{Fate}
use Rattle.acta_table.specs.declared.answer.Fate.TheVariants.{Aborted}
use Rattle.acta_table.specs.declared.answer.Refusal.{Refusal}
use Rattle.acta_table.specs.declared.answer.Status.TheVariants.{Committed as has_committed}
use Rattle.acta_table.specs.declared.event.OpNo.{OpNo}
use Rattle.acta_table.specs.declared.event.TxnId.{TxnId}
use Rattle.acta_table.specs.declared.event.Event.{Event}
use Rattle.acta_table.specs.declared.event.Event.TheVariants.{Begin, Spawn, Split, Join, Delegate, Form, Operate, Commit, Abort, Permit}
use Rattle.acta_table.specs.declared.model.Parts.{Parts}
use Rattle.acta_sets.specs.declared.held_op.HeldOp.{HeldOp}
use Rattle.acta_sets.specs.Operations.{moved_from, moved, ended_op, ended, transferred_op, transferred, added}
use Rattle.acta_machine.specs.Summary.{Summary, stood, terminated, permit_given, entered, linked, given, inherited, operated, fated, counted}
use Rattle.acta_machine.specs.Changes.{effect, settled, summary_of}
use Rattle.acta_machine.specs.Families.{heir_of}
use Rattle.acta_machine.specs.Rules.{lowest_broken}
use Rattle.acta_machine.specs.Table.{State, after, kept_as, moved_on, operations_in}
use Rattle.acta_machine.proofs.Histories.{summary_more}

map-length : (f : HeldOp → HeldOp) (is : List HeldOp) → length (map f is) ≡ length is
map-length f [] = refl
map-length f (i ∷ is) = ap suc (map-length f is)

moved-length : (n : ℕ) (ops : List OpNo) (u : TxnId) (is : List HeldOp) → length (moved_from n ops u is) ≡ length is
moved-length n ops u [] = refl
moved-length n ops u (i ∷ is) = ap suc (moved-length (n + 1) ops u is)

abbrev pub AtMostOneMore : List HeldOp → List HeldOp → Type 0
AtMostOneMore is js = length js ≤ length is + 1

same : (is js : List HeldOp) → length js ≡ length is → AtMostOneMore is js
same is js e = omega arith

settled-more : (s : Summary) (t : TxnId) (heir : Option TxnId) → AtMostOneMore s.operations (settled s t heir).operations
unfolding fated inherited
settled-more s t None = same s.operations _ (map-length _ s.operations)
settled-more s t (Some u) = same s.operations _ (map-length _ s.operations)

effect-more : {A : Type 0} (m : Parts A) (s : Summary) (e : Event A) → AtMostOneMore s.operations (effect m s e).operations
unfolding stood terminated permit_given entered linked given inherited operated fated counted
effect-more m s (Begin t class) = same s.operations s.operations refl
effect-more m s (Spawn t c class) = same s.operations s.operations refl
effect-more m s (Split t u class ops) = same s.operations (moved ops u s.operations) (moved-length 1 ops u s.operations)
effect-more m s (Join t u) = same s.operations (transferred t.0 u s.operations) (map-length (transferred_op t.0 u) s.operations)
effect-more m s (Delegate t u ops) = same s.operations (moved ops u s.operations) (moved-length 1 ops u s.operations)
effect-more m s (Form kind j i) = same s.operations s.operations refl
effect-more m s (Operate t ob op) = omega (arith, length-append {A = HeldOp})
effect-more m s (Commit t) = settled-more (terminated (linked s []) t has_committed) t (heir_of m (linked s []) t.0)
effect-more m s (Abort t) = same s.operations (ended t.0 Aborted s.operations) (map-length (ended_op t.0 Aborted) s.operations)
effect-more m s (Permit t u ob) = same s.operations s.operations refl

moved-more : {A : Type 0} (s : State A) (e : Event A) (r : Option Refusal) → AtMostOneMore (operations_in s) (operations_in (moved_on s e r))
moved-more s e None =
    subst (λ (l : Summary). AtMostOneMore (operations_in s) l.operations) (sym (summary_more s.model s.kept (kept_as s e)))
    (effect-more s.model (summary_of s.model s.kept) e)
moved-more s e (Some r) = same (operations_in s) (operations_in s) refl

pub operations-after : {A : Type 0} (s : State A) (e : Event A) → AtMostOneMore (operations_in s) (operations_in (after s e))
unfolding after
operations-after s e = moved-more s e (lowest_broken s.model (summary_of s.model s.kept) e)
