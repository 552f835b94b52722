-- As many lines did operations as the machine has.
use Rattle.std.proofs.Common.{◌≡◌, ℕ, zero, suc, ◌<◌, Bool, true, false, ◌&&◌, ◌||◌, not, List, [], ◌∷◌, ◌++◌, map, length, Option, Some, None, is_some, refl, sym, ap, ◌∙◌, arith}
use Rattle.std.specs.Prelude.{option_map, flat_map, slice_get}
use Rattle.std.specs.List.{cons_option, filter_map, list_any}
use Rattle.std.specs.Option.{option_map_or}
use Rattle.std.proofs.lemmas.Bool.{true≢false, leb-false}
use Rattle.std.proofs.lemmas.List.{length-map}
use Rattle.acta_table.specs.declared.answer.Rule.{Rule}
use Rattle.acta_table.specs.declared.answer.Rule.TheVariants.{BadObject, BadOperation}
use Rattle.acta_table.specs.declared.event.Event.{Event}
use Rattle.acta_table.specs.declared.event.Event.TheVariants.{Begin, Spawn, Split, Join, Delegate, Form, Operate, Commit, Abort, Permit}
use Rattle.acta_table.specs.declared.event.Kept.{Kept}
use Rattle.acta_table.specs.declared.event.ObjId.{ObjId}
use Rattle.acta_table.specs.declared.event.Op.{Op}
use Rattle.acta_table.specs.declared.event.Ret.{Ret}
use Rattle.acta_table.specs.declared.event.TxnId.{TxnId}
use Rattle.acta_table.specs.declared.model.Object.{Object}
use Rattle.acta_table.specs.declared.model.Parts.{Parts}
use Rattle.acta_table.specs.Refusals.{broken_if}
use Rattle.acta_table.specs.WellFormed.{bad_number, bad_class, bad_object, same_transaction}
use Rattle.acta_objects.specs.Objects.{suits}
use Rattle.acta_objects.specs.WellFormed.{bad_operation}
use Rattle.acta_axioms.specs.Faults.{when, first_named, ill_formed, is_due, wrong_return, faults_at}
use Rattle.acta_axioms.specs.History.{Place, places_after}
use Rattle.acta_axioms.specs.Operations.{Operation, number_after, operation_in, operation_at, operations, standing}
use Rattle.acta_values.specs.Conflicts.{is_well_formed}
use Rattle.acta_axioms.specs.Values.{return_due}
use Rattle.acta_axioms.specs.Walks.{held_op}
use Rattle.acta_axioms.proofs.Faultless.{none-both, faultless-from}
use Rattle.acta_machine.specs.Places.{FollowsPlaces}
use Rattle.acta_machine.specs.Table.{State}
use Rattle.acta_explore.specs.declared.point.Step.{Step}
use Rattle.acta_explore.specs.Programs.{operated_lines}
use Rattle.acta_explore.specs.inside.Numbered.{HaveOwnLines, IsNumbered, ReturnAsKept}

when-none : (b : Bool) (n : ℕ) → when b n ≡ [] → b ≡ false
when-none true n e = cc
when-none false n e = refl

or-none : (a b : Bool) → (a || b) ≡ false → (a ≡ false) × (b ≡ false)
or-none false b e = (refl, e)
or-none true b e = absurd (true≢false e)

unbroken : (b : Bool) (rule : Rule) → is_some (broken_if b rule) ≡ false → b ≡ false
unbroken true rule e = e
unbroken false rule e = refl

true-by : (b : Bool) → not b ≡ false → b ≡ true
true-by true e = refl
true-by false e = absurd (true≢false e)

suited : {A : Type 0} (op : Op) (os : List (Object A)) (n : ℕ) → n < length os → option_map_or (λ kind. not (suits kind op)) (option_map (λ o. o.kind) (slice_get os n)) false ≡ false → option_map_or (λ kind. suits kind op) (option_map (λ o. o.kind) (slice_get os n)) false ≡ true
suited op [] n within e = absurd (omega arith)
suited op (o ∷ os) zero within e = true-by (suits o.kind op) e
suited op (o ∷ os) (suc n) within e = suited op os n (omega arith) e

-- an operation that is well formed is one of its object
well-formed : {A : Type 0} (m : Parts A) (t : TxnId) (ob : ObjId) (op : Op) → ill_formed m (Operate t ob op) ≡ [] → is_well_formed m ob.0 op ≡ true
unfolding bad_object bad_operation
well-formed {A} m t ob op none =
    let e : Event A = Operate t ob op in
    let broken = list_any is_some (bad_number e ∷ bad_class m e ∷ bad_object m e ∷ bad_operation m e ∷ same_transaction e ∷ []) in
    let number = or-none (is_some (bad_number e)) _ (when-none broken (first_named e) none) in
    let class = or-none (is_some (bad_class m e)) _ number.1 in
    let object = or-none (is_some (bad_object m e)) _ class.1 in
    let operation = or-none (is_some (bad_operation m e)) _ object.1 in
    suited op m.objects ob.0 (leb-false _ _ (unbroken _ BadObject object.0)) (unbroken _ BadOperation operation.0)

due-some : (due ret : Option Ret) → is_due due ret ≡ true → is_some ret ≡ true
due-some None ret e = absurd (true≢false (sym e))
due-some (Some d) None e = absurd (true≢false (sym e))
due-some (Some d) (Some r) e = refl

-- an event without fault has a return exactly if it is an operation
returns-if : {A : Type 0} (m : Parts A) (before : List (Kept A)) (place : Place A) (ret : Option Ret) (e : Event A) → ill_formed m e ≡ [] → wrong_return m before ret e ≡ [] → is_some ret ≡ is_some (operation_in place e)
returns-if m before place ret (Begin t class) formed none = when-none (is_some ret) 0 none
returns-if m before place ret (Spawn t c class) formed none = when-none (is_some ret) 0 none
returns-if m before place ret (Split t u class ops) formed none = when-none (is_some ret) 0 none
returns-if m before place ret (Join t u) formed none = when-none (is_some ret) 0 none
returns-if m before place ret (Delegate t u ops) formed none = when-none (is_some ret) 0 none
returns-if m before place ret (Form kind j i) formed none = when-none (is_some ret) 0 none
returns-if m before place ret (Operate t ob op) formed none =
    let due = is_due (return_due m before ob.0 op) ret in
    due-some (return_due m before ob.0 op) ret
    (true-by due (sym (ap (λ (b : Bool). b && not due) (well-formed m t ob op formed)) ∙ when-none (is_well_formed m ob.0 op && not due) (number_after before) none))
returns-if m before place ret (Commit t) formed none = when-none (is_some ret) 0 none
returns-if m before place ret (Abort t) formed none = when-none (is_some ret) 0 none
returns-if m before place ret (Permit t u ob) formed none = when-none (is_some ret) 0 none

-- one more of each
one-more : (l : ℕ) (ret : Option Ret) (o : Option Operation) (ls : List ℕ) (os : List Operation) → is_some ret ≡ is_some o → length ls ≡ length os → length (cons_option (option_map (λ r. l) ret) ls) ≡ length (cons_option o os)
one-more l None None ls os e same = same
one-more l None (Some o) ls os e same = absurd (true≢false (sym e))
one-more l (Some r) None ls os e same = absurd (true≢false e)
one-more l (Some r) (Some o) ls os e same = ap suc same

same-first : {X : Type 0} (x y : X) (xs ys : List X) → x ∷ xs ≡ y ∷ ys → (x ≡ y) × (xs ≡ ys)
same-first x y xs ys e = (cc, cc)

-- steps that return what the events of a history do did as many operations as the history has
counted-behind : {A : Type 0} (m : Parts A) (before h : List (Kept A)) (steps : List Step) → flat_map (faults_at m) (places_after before h) ≡ [] → ReturnAsKept steps h → length (operated_lines steps) ≡ length (filter_map operation_at (places_after before h))
counted-behind m before [] [] none same = refl
counted-behind m before [] (s ∷ steps) none same = absurd cc
counted-behind m before (k ∷ h) [] none same = absurd cc
counted-behind {A} m before (k ∷ h) (s ∷ steps) none same =
    let place : Place A = record { before = before; kept = k } in
    let both = none-both (faults_at m place) _ none in
    let sound = faultless-from m before k both.0 in
    let first = same-first s.ret k.ret (map (λ r. r.ret) steps) (map (λ r. r.ret) h) same in
    one-more s.line s.ret (operation_at place) (operated_lines steps) (filter_map operation_at (places_after (before ++ k ∷ []) h))
    (ap is_some first.0 ∙ returns-if m before place k.ret k.event sound.form_of_event sound.return)
    (counted-behind m (before ++ k ∷ []) h steps both.1 first.1)

-- a machine numbers its operations by the lines of steps that return what its events do
pub numbered-by-history : {A : Type 0} (steps : List Step) (state : State A) → FollowsPlaces state → HaveOwnLines steps → ReturnAsKept steps state.kept → IsNumbered (record { steps = steps; state = state })
numbered-by-history steps state follows own same = record {
  lines = own;
  counted =
      counted-behind state.model [] state.kept steps follows.meets.faultless same
      ∙ (sym (length-map (operations state.kept) (λ o. held_op o (standing state.model state.kept o)))
      ∙ ap (λ (os : List _). length os) (sym follows.shows.operations));
}
