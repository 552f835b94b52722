-- Transactions that wait for each other to end never commit or abort.
use Rattle.std.proofs.Common.{◌≡◌, ◌<◌, ◌≤◌, ℕ, ◌+◌, Bool, true, false, ◌==◌, ◌&&◌, ◌||◌, not, List, [], ◌∷◌, ◌++◌, length, Option, Some, None, refl, sym, ap, ◌∙◌, subst, inl, inr, eqb-true, eq-eqb, arith}
use Rattle.std.specs.Prelude.{if◌then◌else◌, get_or}
use Rattle.std.specs.List.{position_from}
use Rattle.std.proofs.lemmas.Bool.{true≢false, or_cases, cases_lt}
use Rattle.acta_table.specs.declared.answer.Refusal.{Refusal}
use Rattle.acta_table.specs.declared.answer.Rule.TheVariants.{TerminationDep}
use Rattle.acta_table.specs.declared.answer.Status.{Status}
use Rattle.acta_table.specs.declared.answer.Status.TheVariants.{InProgress, Committed, Aborted, Joined}
use Rattle.acta_table.specs.declared.dep.Dep.{Dep}
use Rattle.acta_table.specs.declared.dep.Dep.TheVariants.{Td}
use Rattle.acta_table.specs.declared.dep.Edge.{Edge}
use Rattle.acta_table.specs.declared.event.Event.{Event}
use Rattle.acta_table.specs.declared.event.Event.TheVariants as event
use Rattle.acta_table.specs.declared.event.TxnId.{TxnId}
use Rattle.acta_table.specs.declared.model.Parts.{Parts}
use Rattle.acta_table.specs.Dependencies.{code_of}
use Rattle.acta_table.specs.Edges.{same_edge, is_among}
use Rattle.acta_table.specs.Numbered.{first_number}
use Rattle.acta_deps.specs.Dependencies.{depends, ends_after, termination_dep, owing_abort, commit_order, weak_begin, unpayable_commit, owing_commit, unpayable_abort, clash, commit_refusal, abort_refusal}
use Rattle.acta_deps.specs.Statuses.{is_decided, with_status}
use Rattle.acta_deps.specs.Waiting.{IsChain, IsClosed, WaitsFor, nobody}
use Rattle.acta_machine.specs.Changes.{effect, settled}
use Rattle.acta_machine.specs.Families.{heir_of}
use Rattle.acta_machine.specs.Rules.{dependency, lowest_broken}
use Rattle.acta_machine.specs.Summary.{Summary, stood, terminated, permit_given, entered, linked, given, inherited, operated, fated, counted}
use Rattle.acta_machine.specs.Table.{State, after, after_all, kept_as, moved_on}
use Rattle.acta_machine.proofs.Broken.{by_none}
use Rattle.acta_machine.proofs.Histories.{summary_more}
use Rattle.acta_machine.proofs.Unbroken.{none-dependency}
use Rattle.acta_hope.specs.Waits.{NoneEnds}
use Rattle.acta_hope.proofs.Counting.{among-left, same-parts}
use Rattle.acta_hope.proofs.Growth.{summary_in, later-after}
use Rattle.acta_hope.proofs.Rulings.{none-from}

-- by a termination dependency in force, the dependent transaction can't end before the other

td-kind : (k : Dep) (x : Status) → code_of Td ≡ code_of k → ends_after k x ≡ not (is_decided x)
td-kind Td x same = refl
td-kind _ x same = cc

not-false : (b : Bool) → not b ≡ false → b ≡ true
not-false true e = refl
not-false false e = cc

test-off : (a b : Bool) → a ≡ true → (a && b) ≡ false → b ≡ false
test-off true b is e = e
test-off false b is e = cc

td-from : (status : ℕ → Status) (j i : TxnId) (k : ℕ) (es : List Edge) → position_from (depends ends_after status j.0) k es ≡ None → is_among es (record { kind = Td; j = j; i = i }) ≡ true → is_decided (status i.0) ≡ true
td-from status j i k [] none is = cc
td-from status j i k (f ∷ es) none is =
    of (depends ends_after status j.0 f) refl none (td-from status j i (k + 1) es)
  where
    of : (b : Bool) → depends ends_after status j.0 f ≡ b → (if b then Some k else position_from (depends ends_after status j.0) (k + 1) es) ≡ None → (position_from (depends ends_after status j.0) (k + 1) es ≡ None → is_among es (record { kind = Td; j = j; i = i }) ≡ true → is_decided (status i.0) ≡ true) → is_decided (status i.0) ≡ true
    of true off none rest = cc
    of false off none rest =
        elim (or_cases (same_edge (record { kind = Td; j = j; i = i }) f) (is_among es (record { kind = Td; j = j; i = i })) is) [
          | inl here ↦
              let parts = same-parts (record { kind = Td; j = j; i = i }) f here in
              let waits = test-off (f.j.0 == j.0) (ends_after f.kind (status f.i.0)) (eq-eqb f.j.0 j.0 (sym parts.j)) off in
              ap (λ n. is_decided (status n)) parts.i ∙ not-false (is_decided (status f.i.0)) (sym (td-kind f.kind (status f.i.0) parts.kind) ∙ waits)
          | inr there ↦ rest none there
        ]

commit-after : (A : Type 0) (s : Summary) (t i : TxnId) → dependency {A = A} s (event.Commit t) ≡ None → is_among s.edges (record { kind = Td; j = t; i = i }) ≡ true → is_decided (s.status i.0) ≡ true
unfolding commit_refusal termination_dep
commit-after A s t i none is =
    td-from s.status t i 1 s.edges
    (by_none TerminationDep _ (none-from (termination_dep s.status s.edges t.0)
    (owing_abort s.status s.edges t.0 ∷ commit_order s.status s.edges t.0 ∷ weak_begin s.status s.edges t.0 ∷ unpayable_commit s.status s.edges t.0 ∷ clash s.status s.edges t.0 Committed ∷ []) none)) is

abort-after : (A : Type 0) (s : Summary) (t i : TxnId) → dependency {A = A} s (event.Abort t) ≡ None → is_among s.edges (record { kind = Td; j = t; i = i }) ≡ true → is_decided (s.status i.0) ≡ true
unfolding abort_refusal termination_dep
abort-after A s t i none is =
    td-from s.status t i 1 s.edges
    (by_none TerminationDep _ (none-from (termination_dep s.status s.edges t.0)
    (owing_commit s.status s.edges t.0 ∷ unpayable_abort s.status s.edges t.0 ∷ clash s.status s.edges t.0 Aborted ∷ []) none)) is

-- an event that ends none of these

kept-undecided : (status : ℕ → Status) (t : ℕ) (x : Status) (u : ℕ) → (u ≡ t → is_decided x ≡ false) → is_decided (status u) ≡ false → is_decided (with_status status t x u) ≡ false
kept-undecided status t x u new old = of (u == t) refl
  where
    of : (b : Bool) → (u == t) ≡ b → is_decided (if b then x else status u) ≡ false
    of true is = new (eqb-true u t is)
    of false is = old

pub settled-status : (s : Summary) (t : TxnId) (heir : Option TxnId) → (settled s t heir).status ≡ s.status
unfolding fated inherited
settled-status s t None = refl
settled-status s t (Some u) = refl

same_txn : (t u : TxnId) → t.0 ≡ u.0 → t ≡ u
same_txn t u e = ap (λ k. record { 0 = k }) e

-- a transaction that has neither committed nor aborted, and by a termination dependency waits for one that has not either,
-- does neither in an event that breaks no rule
pub still-undecided : {A : Type 0} (m : Parts A) (s : Summary) (e : Event A) (t i : TxnId) → lowest_broken m s e ≡ None → is_among s.edges (record { kind = Td; j = t; i = i }) ≡ true → is_decided (s.status t.0) ≡ false → is_decided (s.status i.0) ≡ false → is_decided ((effect m s e).status t.0) ≡ false
unfolding stood terminated permit_given entered linked given inherited operated fated counted
still-undecided m s (event.Begin u class) t i none edge old other = kept-undecided s.status u.0 InProgress t.0 (λ is. refl) old
still-undecided m s (event.Spawn u c class) t i none edge old other = kept-undecided s.status c.0 InProgress t.0 (λ is. refl) old
still-undecided m s (event.Split u v class ops) t i none edge old other = kept-undecided s.status v.0 InProgress t.0 (λ is. refl) old
still-undecided m s (event.Join u v) t i none edge old other = kept-undecided s.status u.0 Joined t.0 (λ is. refl) old
still-undecided m s (event.Delegate u v ops) t i none edge old other = old
still-undecided m s (event.Form kind v u) t i none edge old other = old
still-undecided m s (event.Operate u ob op) t i none edge old other = old
still-undecided {A} m s (event.Commit u) t i none edge old other =
    ap (λ (f : ℕ → Status). is_decided (f t.0)) (settled-status (terminated (linked s []) u Committed) u (heir_of m (linked s []) u.0))
    ∙ kept-undecided s.status u.0 Committed t.0
    (λ is. absurd (true≢false (sym (commit-after A s u i (none-dependency m s (event.Commit u) none) (ap (λ v. is_among s.edges (record { kind = Td; j = v; i = i })) (sym (same_txn t u is)) ∙ edge)) ∙ other)))
    old
still-undecided {A} m s (event.Abort u) t i none edge old other =
    kept-undecided s.status u.0 Aborted t.0
    (λ is. absurd (true≢false (sym (abort-after A s u i (none-dependency m s (event.Abort u) none) (ap (λ v. is_among s.edges (record { kind = Td; j = v; i = i })) (sym (same_txn t u is)) ∙ edge)) ∙ other)))
    old
still-undecided m s (event.Permit u v ob) t i none edge old other = old

-- a chain that returns to one of its transactions

module _ (chain : List TxnId) where
  one : ℕ → TxnId
  one k = get_or chain k nobody

  abbrev AreUndecided : Summary → Type 0
  AreUndecided s = (k : ℕ) → k < length chain → is_decided (s.status (get_or chain k nobody).0) ≡ false

  -- each waits for another of them
  abbrev AreLinked : Summary → Type 0
  AreLinked s = (k : ℕ) → k < length chain → (next : ℕ) × ((next < length chain) × (is_among s.edges (record { kind = Td; j = get_or chain k nobody; i = get_or chain next nobody }) ≡ true))

  linked-now : (s : Summary) → IsChain s.status s.edges chain → IsClosed chain → AreLinked s
  linked-now s is closed k low =
      let back = closed.0 in
      let last = closed.1 in
      let before = closed.2 in
      let ends = closed.3 in
      let same = closed.4 in
      elim (cases_lt (k + 1) (length chain)) [
        | inl more ↦ (k + 1, (more, (is k more).2))
        | inr over ↦
            let at : last ≡ k = omega (arith, low, over, ends) in
            let fits : back + 1 < length chain = omega (arith, before, ends) in
            let who : get_or chain back nobody ≡ get_or chain k nobody = same ∙ ap (λ n. get_or chain n nobody) at in
            (back + 1, (fits, ap (λ (v : TxnId). is_among s.edges (record { kind = Td; j = v; i = get_or chain (back + 1) nobody })) (sym who) ∙ (is back fits).2))
      ]

  undecided-now : (s : Summary) → IsChain s.status s.edges chain → IsClosed chain → AreUndecided s
  undecided-now s is closed k low =
      let back = closed.0 in
      let last = closed.1 in
      let before = closed.2 in
      let ends = closed.3 in
      elim (cases_lt (k + 1) (length chain)) [
        | inl more ↦ ap is_decided (is k more).0
        | inr over ↦
            let at : last ≡ k = omega (arith, low, over, ends) in
            let fits : back + 1 < length chain = omega (arith, before, ends) in
            let who : get_or chain back nobody ≡ get_or chain k nobody = closed.4 ∙ ap (λ n. get_or chain n nobody) at in
            ap (λ (v : TxnId). is_decided (s.status v.0)) (sym who) ∙ ap is_decided (is back fits).0
      ]

  module _ {A : Type 0} where
    undecided-moved : (state : State A) (e : Event A) (r : Option Refusal) → lowest_broken state.model (summary_in state) e ≡ r → AreUndecided (summary_in state) → AreLinked (summary_in state) → AreUndecided (summary_in (moved_on state e r))
    undecided-moved state e (Some r) broken undecided linked = undecided
    undecided-moved state e None none undecided linked =
        subst AreUndecided (sym (summary_more state.model state.kept (kept_as state e))) (λ k low.
        let next = linked k low in
        still-undecided state.model (summary_in state) e (get_or chain k nobody) (get_or chain next.0 nobody) none next.1.1 (undecided k low) (undecided next.0 next.1.0))

    undecided-after : (state : State A) (e : Event A) → AreUndecided (summary_in state) → AreLinked (summary_in state) → AreUndecided (summary_in (after state e))
    unfolding after
    undecided-after state e = undecided-moved state e (lowest_broken state.model (summary_in state) e) refl

    linked-after : (state : State A) (e : Event A) → AreLinked (summary_in state) → AreLinked (summary_in (after state e))
    linked-after state e linked k low =
        let next = linked k low in
        let more = (later-after state e).edges in
        (next.0, (next.1.0, ap (λ es. is_among es (record { kind = Td; j = get_or chain k nobody; i = get_or chain next.0 nobody })) more.1 ∙ among-left (summary_in state).edges more.0 (record { kind = Td; j = get_or chain k nobody; i = get_or chain next.0 nobody }) next.1.1))

    undecided-on : (state : State A) → AreUndecided (summary_in state) → AreLinked (summary_in state) → (es : List (Event A)) → AreUndecided (summary_in (after_all state es))
    undecided-on state undecided linked [] = undecided
    undecided-on state undecided linked (e ∷ es) = undecided-on (after state e) (undecided-after state e undecided linked) (linked-after state e linked) es

    pub none-ends : (state : State A) → IsChain (summary_in state).status (summary_in state).edges chain → IsClosed chain → NoneEnds state chain
    none-ends state is closed k low es =
        undecided-on state (undecided-now (summary_in state) is closed) (linked-now (summary_in state) is closed) es k low
