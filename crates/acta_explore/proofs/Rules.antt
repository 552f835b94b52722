-- Summaries that agree on what programs can see break the same rules, and form and return the same.
use Rattle.std.proofs.Common.{◌≡◌, ℕ, ◌+◌, Bool, true, false, ◌&&◌, ◌||◌, not, List, [], ◌∷◌, ◌++◌, map, filter, length, fold, Option, Some, None, is_none, refl, sym, ap, subst, ◌∙◌}
use Rattle.std.specs.Prelude.{if◌then◌else◌, option_map, nat_lt}
use Rattle.std.specs.List.{list_any}
use Rattle.std.specs.Option.{option_or, option_map_or}
use Rattle.std.proofs.lemmas.List.{length-append}
use Rattle.acta_table.specs.declared.answer.Refusal.{Refusal}
use Rattle.acta_table.specs.declared.answer.Rule.{Rule}
use Rattle.acta_table.specs.declared.answer.Rule.TheVariants.{Conflict, NotResponsible, PartialDelegation, BadSet, EdgesFull, BeginDep, SerialDep, BeginOnCommit, BeginOnAbort, TerminationDep, OwesAbort, OwesCommit, CommitOrder, WeakBegin, Unpayable, Clash}
use Rattle.acta_table.specs.declared.answer.Status.{Status}
use Rattle.acta_table.specs.declared.answer.Status.TheVariants as stands
use Rattle.acta_table.specs.declared.dep.Edge.{Edge}
use Rattle.acta_table.specs.declared.event.ObjId.{ObjId}
use Rattle.acta_table.specs.declared.event.Op.{Op}
use Rattle.acta_table.specs.declared.event.OpNo.{OpNo}
use Rattle.acta_table.specs.declared.event.Event.{Event}
use Rattle.acta_table.specs.declared.event.Event.TheVariants.{Begin, Spawn, Split, Join, Delegate, Form, Operate, Commit, Abort, Permit}
use Rattle.acta_table.specs.declared.limits.TheConstants.{MOST_EDGES}
use Rattle.acta_table.specs.declared.model.Kind.{Kind}
use Rattle.acta_table.specs.declared.model.Parts.{Parts}
use Rattle.acta_table.specs.Classes.{kind_at}
use Rattle.acta_table.specs.Dependencies.{is_commit}
use Rattle.acta_table.specs.Edges.{same_edge, with_edge, formed}
use Rattle.acta_table.specs.Numbered.{ascending, first_number, smallest}
use Rattle.acta_table.specs.Policies.{edges_upon}
use Rattle.acta_table.specs.Refusals.{broken_if, broken_by, first_of}
use Rattle.acta_table.specs.Sets.{is_named, numbers_of}
use Rattle.acta_table.specs.WellFormed.{bad_number, bad_class, bad_object, same_transaction}
use Rattle.acta_objects.specs.WellFormed.{bad_operation}
use Rattle.acta_objects.specs.Objects.{first_state, state_after, returned}
use Rattle.acta_deps.specs.Debts.{debt_of, owes_abort, owes_commit, clashes_by, clashing}
use Rattle.acta_deps.specs.Dependencies.{awaits_begin, awaits_end, awaits_commit, awaits_abort, ends_after, committed_first, began_first, cannot_pay_commit, cannot_pay_abort, depends, is_awaited, begin_dep, serial_dep, begin_on_commit, begin_on_abort, termination_dep, owing_abort, owing_commit, commit_order, weak_begin, unpayable_commit, unpayable_abort, clash, start_refusal, commit_refusal, abort_refusal, join_refusal}
use Rattle.acta_deps.specs.Statuses.{with_status}
use Rattle.acta_sets.specs.declared.held_op.HeldOp.{HeldOp}
use Rattle.acta_sets.specs.Operations.{is_held, operation_at}
use Rattle.acta_machine.specs.Summary.{Summary}
use Rattle.acta_machine.specs.Changes.{edges_due}
use Rattle.acta_machine.specs.Conflicts.{stands_against, conflicting_holders}
use Rattle.acta_machine.specs.Families.{class_of}
use Rattle.acta_machine.specs.Rules.{full, not_in_progress, already_begun, not_in_model, partner_not_in_progress, not_responsible, partial_delegation, bad_set, conflict, form_too_late, edges_full, broken_before_conflict, broken_before_edges, earlier_broken, dependency, no_heir, lowest_broken, refuses_conflicts, not_held, is_of_another, unknown_in, left_out, wants_whole}
use Rattle.acta_machine.specs.Values.{live_on, live_ops, value_of, return_due}
use Rattle.acta_explore.specs.Equivalence.{by_line, is_on, AreSameByObject, AreSameEdges}
use Rattle.acta_explore.proofs.Anys.{number-any, any-append, least-any, find-any}
use Rattle.acta_explore.proofs.Filters.{filter-same, filter_map-same}
use Rattle.acta_explore.proofs.Named.{AreNamed, named-any, lines-any}
use Rattle.acta_explore.proofs.Tagged.{any-same, held-same}

-- the rule that is broken
abbrev pub rule_in : Option Refusal → Option Rule
rule_in r = option_map (λ x. x.rule) r

rule-none : (rule : Rule) (a b : Option ℕ) → is_none a ≡ is_none b → rule_in (broken_by rule a) ≡ rule_in (broken_by rule b)
rule-none rule None None e = refl
rule-none rule None (Some y) e = cc
rule-none rule (Some x) None e = cc
rule-none rule (Some x) (Some y) e = refl

rule-or : (a b : Option Refusal) → rule_in (option_or a b) ≡ option_or (rule_in a) (rule_in b)
rule-or None b = refl
rule-or (Some a) b = refl

rule-fold : (a : Option Refusal) (rs : List (Option Refusal)) → rule_in (fold option_or a rs) ≡ fold option_or (rule_in a) (map rule_in rs)
rule-fold a [] = refl
rule-fold a (r ∷ rs) = rule-fold (option_or a r) rs ∙ ap (λ (b : Option Rule). fold option_or b (map rule_in rs)) (rule-or a r)

-- the lowest of some rules that are broken is that of others, rule by rule
pub first-same : (rs ss : List (Option Refusal)) → map rule_in rs ≡ map rule_in ss → rule_in (first_of rs) ≡ rule_in (first_of ss)
first-same rs ss e = rule-fold None rs ∙ (ap (fold option_or None) e ∙ sym (rule-fold None ss))

none-step : {X : Type 0} (f : X → ℕ) (p : X → Bool) (x : X) (xs : List X) → is_none (smallest (map f (filter p xs))) ≡ not (list_any p xs) → (b : Bool) → p x ≡ b → is_none (smallest (map f (filter p (x ∷ xs)))) ≡ not (list_any p (x ∷ xs))
none-step f p x xs ih true e = rw e
none-step f p x xs ih false e = rw e ih

none-map : {X : Type 0} (f : X → ℕ) (p : X → Bool) (xs : List X) → is_none (smallest (map f (filter p xs))) ≡ not (list_any p xs)
none-map f p [] = refl
none-map f p (x ∷ xs) = none-step f p x xs (none-map f p xs) (p x) refl

-- the rules on edges, for a start, a commit, an abort and a join
abbrev starts : (ℕ → Status) → List Edge → ℕ → List (Option Refusal)
starts status es t = begin_dep status es t ∷ serial_dep status es t ∷ begin_on_commit status es t ∷ begin_on_abort status es t ∷ clash status es t stands.InProgress ∷ []

abbrev commits : (ℕ → Status) → List Edge → ℕ → List (Option Refusal)
commits status es t = termination_dep status es t ∷ owing_abort status es t ∷ commit_order status es t ∷ weak_begin status es t ∷ unpayable_commit status es t ∷ clash status es t stands.Committed ∷ []

abbrev aborts : (ℕ → Status) → List Edge → ℕ → List (Option Refusal)
aborts status es t = termination_dep status es t ∷ owing_commit status es t ∷ unpayable_abort status es t ∷ clash status es t stands.Aborted ∷ []

abbrev joins : (ℕ → Status) → List Edge → ℕ → List (Option Refusal)
joins status es t = owing_abort status es t ∷ owing_commit status es t ∷ []

module _ (es fs : List Edge) (same : AreSameEdges es fs) where
  edge-rule : (rule : Rule) (test : Edge → Bool) → rule_in (broken_by rule (first_number test es)) ≡ rule_in (broken_by rule (first_number test fs))
  edge-rule rule test = rule-none rule (first_number test es) (first_number test fs) (number-any test es ∙ (ap not (same.among test) ∙ sym (number-any test fs)))

  clash-any : (s : ℕ → Status) (gs : List Edge) → is_none (clashing s gs) ≡ not (list_any (clashes_by s gs) gs)
  clash-any s gs = none-map (λ e. e.j.0) (clashes_by s gs) gs

  clash-same : (s : ℕ → Status) → list_any (clashes_by s es) es ≡ list_any (clashes_by s fs) fs
  clash-same s = (λ i. list_any (λ e. is_commit (debt_of s e) && same.among (owes_abort s e.j.0) i) es) ∙ same.among (clashes_by s fs)

  clash-rule : (status : ℕ → Status) (t : ℕ) (s : Status) → rule_in (clash status es t s) ≡ rule_in (clash status fs t s)
  unfolding clash
  clash-rule status t s =
      rule-none Clash (clashing (with_status status t s) es) (clashing (with_status status t s) fs)
      (clash-any (with_status status t s) es ∙ (ap not (clash-same (with_status status t s)) ∙ sym (clash-any (with_status status t s) fs)))

  start-rule : (status : ℕ → Status) (t : ℕ) → rule_in (start_refusal status es t) ≡ rule_in (start_refusal status fs t)
  unfolding start_refusal begin_dep serial_dep begin_on_commit begin_on_abort
  start-rule status t = first-same (starts status es t) (starts status fs t) (λ i.
      edge-rule BeginDep (depends awaits_begin status t) i
      ∷ edge-rule SerialDep (depends awaits_end status t) i
      ∷ edge-rule BeginOnCommit (depends awaits_commit status t) i
      ∷ edge-rule BeginOnAbort (depends awaits_abort status t) i
      ∷ clash-rule status t stands.InProgress i
      ∷ [])

  commit-rule : (status : ℕ → Status) (t : ℕ) → rule_in (commit_refusal status es t) ≡ rule_in (commit_refusal status fs t)
  unfolding commit_refusal termination_dep owing_abort commit_order weak_begin unpayable_commit
  commit-rule status t = first-same (commits status es t) (commits status fs t) (λ i.
      edge-rule TerminationDep (depends ends_after status t) i
      ∷ edge-rule OwesAbort (owes_abort status t) i
      ∷ edge-rule CommitOrder (is_awaited committed_first status t) i
      ∷ edge-rule WeakBegin (is_awaited began_first status t) i
      ∷ edge-rule Unpayable (is_awaited cannot_pay_commit status t) i
      ∷ clash-rule status t stands.Committed i
      ∷ [])

  abort-rule : (status : ℕ → Status) (t : ℕ) → rule_in (abort_refusal status es t) ≡ rule_in (abort_refusal status fs t)
  unfolding abort_refusal termination_dep owing_commit unpayable_abort
  abort-rule status t = first-same (aborts status es t) (aborts status fs t) (λ i.
      edge-rule TerminationDep (depends ends_after status t) i
      ∷ edge-rule OwesCommit (owes_commit status t) i
      ∷ edge-rule Unpayable (is_awaited cannot_pay_abort status t) i
      ∷ clash-rule status t stands.Aborted i
      ∷ [])

  join-rule : (status : ℕ → Status) (t : ℕ) → rule_in (join_refusal status es t) ≡ rule_in (join_refusal status fs t)
  unfolding join_refusal owing_abort owing_commit
  join-rule status t = first-same (joins status es t) (joins status fs t) (λ i.
      edge-rule OwesAbort (owes_abort status t) i ∷ edge-rule OwesCommit (owes_commit status t) i ∷ [])

-- an edge more in both
edge-put : (es fs : List Edge) (e : Edge) → AreSameEdges es fs → AreSameEdges (with_edge es e) (with_edge fs e)
edge-put es fs e same = by-answer (list_any (same_edge e) es) refl
  where
    by-answer : (b : Bool) → list_any (same_edge e) es ≡ b → AreSameEdges (with_edge es e) (with_edge fs e)
    by-answer true here =
        subst (λ (b : Bool). AreSameEdges (if b then es else es ++ e ∷ []) (with_edge fs e)) (sym here)
        (subst (λ (b : Bool). AreSameEdges es (if b then fs else fs ++ e ∷ [])) (sym (sym (same.among (same_edge e)) ∙ here)) same)
    by-answer false here =
        subst (λ (b : Bool). AreSameEdges (if b then es else es ++ e ∷ []) (with_edge fs e)) (sym here)
        (subst (λ (b : Bool). AreSameEdges (es ++ e ∷ []) (if b then fs else fs ++ e ∷ [])) (sym (sym (same.among (same_edge e)) ∙ here))
        (record {
          many = length-append es (e ∷ []) ∙ (ap (λ (n : ℕ). n + 1) same.many ∙ sym (length-append fs (e ∷ [])));
          among = λ test. any-append test es (e ∷ []) ∙ (ap (λ (b : Bool). b || list_any test (e ∷ [])) (same.among test) ∙ sym (any-append test fs (e ∷ [])));
        }))

pub formed-same : (es fs due : List Edge) → AreSameEdges es fs → AreSameEdges (formed es due) (formed fs due)
formed-same es fs [] same = same
formed-same es fs (e ∷ due) same = formed-same (with_edge es e) (with_edge fs e) due (edge-put es fs e same)

-- the event, with these operations named
abbrev pub with_ops : {A : Type 0} → Event A → List OpNo → Event A
with_ops (Split t u class named) ops = Split t u class ops
with_ops (Delegate t u named) ops = Delegate t u ops
with_ops (Begin t class) ops = Begin t class
with_ops (Spawn t c class) ops = Spawn t c class
with_ops (Join t u) ops = Join t u
with_ops (Form kind j i) ops = Form kind j i
with_ops (Operate t ob op) ops = Operate t ob op
with_ops (Commit t) ops = Commit t
with_ops (Abort t) ops = Abort t
with_ops (Permit t u ob) ops = Permit t u ob

-- the same with these operations and edges
abbrev pub with_lists : Summary → List HeldOp → List Edge → Summary
with_lists s items edges = record s { operations = items; edges = edges }

-- two lists of operations and edges that programs can't tell apart, and operations that are named in both by their lines
pub record AreEquivalent (ls ks : List ℕ) (xs ys : List HeldOp) (es fs : List Edge) (ops others : List OpNo) : Type 0 where
  pub here : length ls ≡ length xs
  pub there : length ks ≡ length ys
  pub operations : AreSameByObject (by_line ls xs) (by_line ks ys)
  pub edges : AreSameEdges es fs
  pub named : ℕ → Bool
  pub named_here : AreNamed named ops 1 ls
  pub named_there : AreNamed named others 1 ks
  pub unknown : list_any (λ n. is_none (operation_at xs n)) (numbers_of ops) ≡ list_any (λ n. is_none (operation_at ys n)) (numbers_of others)

module _ {A : Type 0} (m : Parts A) (s : Summary) (ls ks : List ℕ) (xs ys : List HeldOp) (es fs : List Edge) (ops others : List OpNo) (a : AreEquivalent ls ks xs ys es fs ops others) where
  abbrev p : Summary
  p = with_lists s xs es

  abbrev q : Summary
  q = with_lists s ys fs

  -- rules on operations that are named
  responsible-same : (t : ℕ) → rule_in (broken_by NotResponsible (not_held p ops t)) ≡ rule_in (broken_by NotResponsible (not_held q others t))
  responsible-same t =
      let one : (r : Summary) (ls : List ℕ) (ops : List OpNo) → length ls ≡ length r.operations → AreNamed a.named ops 1 ls → is_none (not_held r ops t) ≡ not (list_any (λ o. a.named o.line && not (is_held t o.held)) (by_line ls r.operations)) =
      λ r ls ops e are.
      least-any (is_of_another r t) (numbers_of ops)
      ∙ (ap not (named-any (λ i. not (is_held t i)) ops r.operations)
      ∙ ap not (lines-any a.named ops (λ b i. b && not (is_held t i)) 1 ls r.operations e are)) in
      rule-none NotResponsible (not_held p ops t) (not_held q others t)
      (one p ls ops a.here a.named_here
      ∙ (ap not (any-same (λ o. a.named o.line && not (is_held t o.held)) (by_line ls xs) (by_line ks ys) a.operations)
      ∙ sym (one q ks others a.there a.named_there)))

  left-same : (t : ℕ) → is_none (left_out p ops t) ≡ is_none (left_out q others t)
  left-same t =
      let one : (r : Summary) (ls : List ℕ) (ops : List OpNo) → length ls ≡ length r.operations → AreNamed a.named ops 1 ls → is_none (left_out r ops t) ≡ not (list_any (λ o. is_held t o.held && not (a.named o.line)) (by_line ls r.operations)) =
      λ r ls ops e are.
      find-any (λ n. not (is_named ops n)) (is_held t) 1 r.operations
      ∙ ap not (lines-any a.named ops (λ b i. is_held t i && not b) 1 ls r.operations e are) in
      one p ls ops a.here a.named_here
      ∙ (ap not (any-same (λ o. is_held t o.held && not (a.named o.line)) (by_line ls xs) (by_line ks ys) a.operations)
      ∙ sym (one q ks others a.there a.named_there))

  whole-same : (b : Bool) (t : ℕ) → rule_in (broken_by PartialDelegation (if b then left_out p ops t else None)) ≡ rule_in (broken_by PartialDelegation (if b then left_out q others t else None))
  whole-same true t = rule-none PartialDelegation (left_out p ops t) (left_out q others t) (left-same t)
  whole-same false t = refl

  set-same : rule_in (broken_by BadSet (unknown_in p ops)) ≡ rule_in (broken_by BadSet (unknown_in q others))
  set-same =
      rule-none BadSet (unknown_in p ops) (unknown_in q others)
      (least-any (λ n. is_none (operation_at xs n)) (numbers_of ops) ∙ (ap not a.unknown ∙ sym (least-any (λ n. is_none (operation_at ys n)) (numbers_of others))))

  -- on conflicts
  off : (b c d : Bool) → c ≡ false → ((b && c) && d) ≡ false
  off true true d e = cc
  off true false d e = refl
  off false c d e = refl

  against-same : (t : ℕ) (ob : ObjId) (op : Op) → filter (stands_against m p t ob op) xs ≡ filter (stands_against m q t ob op) ys
  against-same t ob op = filter-same ls ks xs ys a.here a.there a.operations ob.0 (stands_against m p t ob op) (λ o e. off _ (is_on ob.0 o) _ e)

  conflicting_holders-same : (t : ℕ) (ob : ObjId) (op : Op) → conflicting_holders m p t ob op ≡ conflicting_holders m q t ob op
  conflicting_holders-same t ob op = ap (λ (is : List HeldOp). ascending (map (λ i. i.holder.0) is)) (against-same t ob op)

  conflict-by : (b : Bool) (t : ℕ) (ob : ObjId) (op : Op) → rule_in (broken_by Conflict (if b then first_number (stands_against m p t ob op) xs else None)) ≡ rule_in (broken_by Conflict (if b then first_number (stands_against m q t ob op) ys else None))
  conflict-by false t ob op = refl
  conflict-by true t ob op =
      rule-none Conflict (first_number (stands_against m p t ob op) xs) (first_number (stands_against m q t ob op) ys)
      (number-any (stands_against m p t ob op) xs
      ∙ (ap not (held-same (stands_against m p t ob op) ls ks xs ys a.here a.there a.operations)
      ∙ sym (number-any (stands_against m q t ob op) ys)))

  -- what the rules say of an event at the one and at the other
  record IsJudged (e f : Event A) : Type 0 where
    forms : map rule_in (full p ∷ bad_number e ∷ bad_class m e ∷ bad_object m e ∷ bad_operation m e ∷ same_transaction e ∷ not_in_progress p e ∷ already_begun p e ∷ not_in_model m p e ∷ partner_not_in_progress p e ∷ []) ≡ map rule_in (full q ∷ bad_number f ∷ bad_class m f ∷ bad_object m f ∷ bad_operation m f ∷ same_transaction f ∷ not_in_progress q f ∷ already_begun q f ∷ not_in_model m q f ∷ partner_not_in_progress q f ∷ [])
    responsible : rule_in (not_responsible p e) ≡ rule_in (not_responsible q f)
    whole : rule_in (partial_delegation m p e) ≡ rule_in (partial_delegation m q f)
    set : rule_in (bad_set p e) ≡ rule_in (bad_set q f)
    conflict : rule_in (conflict m p e) ≡ rule_in (conflict m q f)
    time : form_too_late p e ≡ form_too_late q f
    due : edges_due m p e ≡ edges_due m q f
    dependency : rule_in (dependency p e) ≡ rule_in (dependency q f)
    heir : no_heir m p e ≡ no_heir m q f

  judged-same : (e : Event A) → IsJudged (with_ops e ops) (with_ops e others)
  unfolding full bad_number bad_class bad_object bad_operation same_transaction not_in_progress already_begun not_in_model partner_not_in_progress not_responsible partial_delegation bad_set conflict form_too_late no_heir
  judged-same (Begin t class) = record {
    forms = refl;
    responsible = refl;
    whole = refl;
    set = refl;
    conflict = refl;
    time = refl;
    due = refl;
    dependency = start-rule es fs a.edges s.status t.0;
    heir = refl;
  }
  judged-same (Spawn t c class) = record {
    forms = refl;
    responsible = refl;
    whole = refl;
    set = refl;
    conflict = refl;
    time = refl;
    due = refl;
    dependency = start-rule es fs a.edges s.status c.0;
    heir = refl;
  }
  judged-same (Split t u class named) = record {
    forms = refl;
    responsible = responsible-same t.0;
    whole = whole-same (wants_whole m s t.0) t.0;
    set = set-same;
    conflict = refl;
    time = refl;
    due = refl;
    dependency = start-rule es fs a.edges s.status u.0;
    heir = refl;
  }
  judged-same (Join t u) = record {
    forms = refl;
    responsible = refl;
    whole = refl;
    set = refl;
    conflict = refl;
    time = refl;
    due = refl;
    dependency = join-rule es fs a.edges s.status t.0;
    heir = refl;
  }
  judged-same (Delegate t u named) = record {
    forms = refl;
    responsible = responsible-same t.0;
    whole = whole-same (wants_whole m s t.0) t.0;
    set = set-same;
    conflict = refl;
    time = refl;
    due = refl;
    dependency = refl;
    heir = refl;
  }
  judged-same (Form kind j i) = record {
    forms = refl;
    responsible = refl;
    whole = refl;
    set = refl;
    conflict = refl;
    time = refl;
    due = refl;
    dependency = refl;
    heir = refl;
  }
  judged-same (Operate t ob op) = record {
    forms = refl;
    responsible = refl;
    whole = refl;
    set = refl;
    conflict = conflict-by (refuses_conflicts m s t.0) t.0 ob op;
    time = refl;
    due = ap (λ (us : List ℕ). option_map_or (λ k. edges_upon k.policy t us) (class_of m s t.0) []) (conflicting_holders-same t.0 ob op);
    dependency = refl;
    heir = refl;
  }
  judged-same (Commit t) = record {
    forms = refl;
    responsible = refl;
    whole = refl;
    set = refl;
    conflict = refl;
    time = refl;
    due = refl;
    dependency = commit-rule es fs a.edges s.status t.0;
    heir = refl;
  }
  judged-same (Abort t) = record {
    forms = refl;
    responsible = refl;
    whole = refl;
    set = refl;
    conflict = refl;
    time = refl;
    due = refl;
    dependency = abort-rule es fs a.edges s.status t.0;
    heir = refl;
  }
  judged-same (Permit t u ob) = record {
    forms = refl;
    responsible = refl;
    whole = refl;
    set = refl;
    conflict = refl;
    time = refl;
    due = refl;
    dependency = refl;
    heir = refl;
  }

  edges-rule : (due : List Edge) → rule_in (broken_if (nat_lt MOST_EDGES (length (formed es due))) EdgesFull) ≡ rule_in (broken_if (nat_lt MOST_EDGES (length (formed fs due))) EdgesFull)
  edges-rule due = ap (λ (n : ℕ). rule_in (broken_if (nat_lt MOST_EDGES n) EdgesFull)) (formed-same es fs due a.edges).many

  full-edges : (e f : Event A) → IsJudged e f → rule_in (edges_full m p e) ≡ rule_in (edges_full m q f)
  unfolding edges_full
  full-edges e f j = edges-rule (edges_due m p e) ∙ ap (λ (due : List Edge). rule_in (broken_if (nat_lt MOST_EDGES (length (formed fs due))) EdgesFull)) j.due

  before-same : (e f : Event A) → IsJudged e f → rule_in (broken_before_conflict m p e) ≡ rule_in (broken_before_conflict m q f)
  before-same e f j =
      first-same
      (full p ∷ bad_number e ∷ bad_class m e ∷ bad_object m e ∷ bad_operation m e ∷ same_transaction e ∷ not_in_progress p e ∷ already_begun p e ∷ not_in_model m p e ∷ partner_not_in_progress p e ∷ not_responsible p e ∷ partial_delegation m p e ∷ bad_set p e ∷ [])
      (full q ∷ bad_number f ∷ bad_class m f ∷ bad_object m f ∷ bad_operation m f ∷ same_transaction f ∷ not_in_progress q f ∷ already_begun q f ∷ not_in_model m q f ∷ partner_not_in_progress q f ∷ not_responsible q f ∷ partial_delegation m q f ∷ bad_set q f ∷ [])
      (λ i. j.forms i ++ j.responsible i ∷ j.whole i ∷ j.set i ∷ [])

  -- the same rule is the lowest that is broken
  pub refused-same : (e : Event A) → rule_in (lowest_broken m p (with_ops e ops)) ≡ rule_in (lowest_broken m q (with_ops e others))
  refused-same e =
      let j = judged-same e in
      let e1 = with_ops e ops in
      let e2 = with_ops e others in
      first-same (earlier_broken m p e1 ∷ dependency p e1 ∷ no_heir m p e1 ∷ []) (earlier_broken m q e2 ∷ dependency q e2 ∷ no_heir m q e2 ∷ []) (λ i.
      first-same (broken_before_edges m p e1 ∷ edges_full m p e1 ∷ []) (broken_before_edges m q e2 ∷ edges_full m q e2 ∷ []) (λ k.
      first-same (broken_before_conflict m p e1 ∷ conflict m p e1 ∷ form_too_late p e1 ∷ []) (broken_before_conflict m q e2 ∷ conflict m q e2 ∷ form_too_late q e2 ∷ []) (λ l.
      before-same e1 e2 j l ∷ j.conflict l ∷ rule_in (j.time l) ∷ []) k
      ∷ full-edges e1 e2 j k
      ∷ []) i
      ∷ j.dependency i
      ∷ rule_in (j.heir i)
      ∷ [])

  -- values and returns
  off-none : (b c d : Bool) (op : Op) → b ≡ false → (if (b && c) && d then Some op else None) ≡ None
  off-none b c d op e = rw e refl

  live-same : (kind : Kind) (ob : ℕ) → live_ops kind xs ob ≡ live_ops kind ys ob
  live-same kind ob = filter_map-same ls ks xs ys a.here a.there a.operations ob (live_on kind ob) (λ o e. off-none (is_on ob o) _ _ o.held.op e)

  pub value-same : (ob : ℕ) → value_of m p ob ≡ value_of m q ob
  value-same ob = ap (λ (f : Kind → List Op). option_map (λ kind. state_after (first_state kind) (f kind)) (kind_at m ob)) (λ i kind. live-same kind ob i)

  pub return-same : (e : Event A) → return_due m p (with_ops e ops) ≡ return_due m q (with_ops e others)
  return-same (Begin t class) = refl
  return-same (Spawn t c class) = refl
  return-same (Split t u class named) = refl
  return-same (Join t u) = refl
  return-same (Delegate t u named) = refl
  return-same (Form kind j i) = refl
  return-same (Operate t ob op) = ap (option_map (λ value. returned value op)) (value-same ob.0)
  return-same (Commit t) = refl
  return-same (Abort t) = refl
  return-same (Permit t u ob) = refl

  pub due-same : (e : Event A) → edges_due m p (with_ops e ops) ≡ edges_due m q (with_ops e others)
  due-same e = (judged-same e).due
