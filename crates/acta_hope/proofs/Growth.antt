-- The summary after an event is later than the summary before it, and so on for more events.
use Rattle.std.proofs.Common.{◌≡◌, ◌+◌, ℕ, suc, zero, Bool, true, false, ◌==◌, ◌&&◌, List, [], ◌∷◌, ◌++◌, map, Option, Some, None, refl, sym, ap, ◌∙◌, subst, ◌⊎◌, inl, inr, append_assoc, eqb-true, arith}
use Rattle.std.specs.Prelude.{if◌then◌else◌, slice_get}
use Rattle.std.proofs.lemmas.Bool.{true≢false}
use Rattle.acta_table.specs.declared.answer.Fate.{Fate}
use Rattle.acta_table.specs.declared.answer.Fate.TheVariants.{Committed, Aborted}
use Rattle.acta_table.specs.declared.answer.Refusal.{Refusal}
use Rattle.acta_table.specs.declared.answer.Rule.TheVariants.{NotInProgress, AlreadyBegun, OwesAbort, OwesCommit}
use Rattle.acta_table.specs.declared.answer.Status.{Status}
use Rattle.acta_table.specs.declared.answer.Status.TheVariants.{NotBegun, InProgress, Committed as has_committed, Aborted as has_aborted, Joined as has_joined}
use Rattle.acta_table.specs.declared.dep.Edge.{Edge}
use Rattle.acta_table.specs.declared.dep.Missing.{Missing}
use Rattle.acta_table.specs.declared.dep.Missing.TheVariants.{Commit as commit_due, Abort as abort_due}
use Rattle.acta_table.specs.declared.event.ClassId.{ClassId}
use Rattle.acta_table.specs.declared.event.OpNo.{OpNo}
use Rattle.acta_table.specs.declared.event.TxnId.{TxnId}
use Rattle.acta_table.specs.declared.event.Event.{Event}
use Rattle.acta_table.specs.declared.event.Event.TheVariants.{Begin, Spawn, Split, Join, Delegate, Form, Operate, Commit, Abort, Permit}
use Rattle.acta_table.specs.declared.model.Parts.{Parts}
use Rattle.acta_table.specs.Dependencies.{is_commit, is_abort}
use Rattle.acta_table.specs.Edges.{is_among, with_edge, formed}
use Rattle.acta_table.specs.Fates.{is_open}
use Rattle.acta_table.specs.Numbered.{item_at}
use Rattle.acta_table.specs.Sets.{is_named}
use Rattle.acta_deps.specs.Debts.{debt_by, debt_of, owes_commit, owes_abort}
use Rattle.acta_deps.specs.Dependencies.{termination_dep, owing_abort, owing_commit, commit_order, weak_begin, unpayable_commit, unpayable_abort, clash, commit_refusal, abort_refusal, join_refusal}
use Rattle.acta_deps.specs.Statuses.{has_begun, has_ended, with_status}
use Rattle.acta_sets.specs.declared.held_op.HeldOp.{HeldOp}
use Rattle.acta_sets.specs.Operations.{is_held, operation_at, moved_from, moved, ended_op, ended, transferred_op, transferred, added}
use Rattle.acta_sets.specs.Permits.{Permitted}
use Rattle.acta_machine.specs.Summary.{Summary, with_entry, stood, terminated, permit_given, entered, linked, given, inherited, operated, fated, counted}
use Rattle.acta_machine.specs.Changes.{edges_due, settled, effect, summary_of}
use Rattle.acta_machine.specs.Families.{heir_of}
use Rattle.acta_machine.specs.Rules.{not_in_progress, already_begun, dependency, lowest_broken}
use Rattle.acta_machine.specs.Table.{State, kept_as, moved_on, after, after_all}
use Rattle.acta_machine.proofs.Broken.{by_none, in_progress, not_begun}
use Rattle.acta_machine.proofs.Histories.{summary_more}
use Rattle.acta_machine.proofs.Unbroken.{Unbroken, unbroken, none-earlier, none-dependency}
use Rattle.acta_hope.specs.Growth.{IsOpLater, AreLater, StaysOwed, IsLater, paid}
use Rattle.acta_hope.proofs.BlockKinds.{none-all, none-passes-at, item-more}
use Rattle.acta_hope.proofs.Debts.{debt-parts, debt-later}

-- operations

op-same : (i : HeldOp) → IsOpLater i i
op-same i = record { object = refl; op = refl; fate = λ e. refl }

op-on : (i j k : HeldOp) → IsOpLater i j → IsOpLater j k → IsOpLater i k
op-on i j k a b = record {
  object = b.object ∙ a.object;
  op = b.op ∙ a.op;
  fate = λ e. b.fate (ap is_open (a.fate e) ∙ e) ∙ a.fate e;
}

ops-same : (is : List HeldOp) → AreLater is is
ops-same [] = tt
ops-same (i ∷ is) = (op-same i, ops-same is)

ops-on : (is js ks : List HeldOp) → AreLater is js → AreLater js ks → AreLater is ks
ops-on [] js ks a b = tt
ops-on (i ∷ is) [] ks a b = absurd a
ops-on (i ∷ is) (j ∷ js) [] a b = absurd b
ops-on (i ∷ is) (j ∷ js) (k ∷ ks) a b = (op-on i j k a.0 b.0, ops-on is js ks a.1 b.1)

ops-map : (f : HeldOp → HeldOp) → ((i : HeldOp) → IsOpLater i (f i)) → (is : List HeldOp) → AreLater is (map f is)
ops-map f each [] = tt
ops-map f each (i ∷ is) = (each i, ops-map f each is)

ops-more : (is js : List HeldOp) → AreLater is (is ++ js)
ops-more [] js = tt
ops-more (i ∷ is) js = (op-same i, ops-more is js)

op-held : (b : Bool) (i : HeldOp) (u : TxnId) → IsOpLater i (if b then record i { holder = u } else i)
op-held true i u = record { object = refl; op = refl; fate = λ e. refl }
op-held false i u = op-same i

ops-moved : (n : ℕ) (ops : List OpNo) (u : TxnId) (is : List HeldOp) → AreLater is (moved_from n ops u is)
ops-moved n ops u [] = tt
ops-moved n ops u (i ∷ is) = (op-held (is_named ops n) i u, ops-moved (n + 1) ops u is)

ops-transferred : (t : ℕ) (u : TxnId) (is : List HeldOp) → AreLater is (transferred t u is)
ops-transferred t u is = ops-map (transferred_op t u) (λ i. op-held (is_held t i) i u) is

op-ended : (t : ℕ) (fate : Fate) (i : HeldOp) → IsOpLater i (ended_op t fate i)
op-ended t fate i = of (i.holder.0 == t) (is_open i.fate) refl
  where
    of : (a b : Bool) → is_open i.fate ≡ b → IsOpLater i (if a && b then record i { fate = fate } else i)
    of true true is = record { object = refl; op = refl; fate = λ e. absurd (true≢false (sym is ∙ e)) }
    of true false is = op-same i
    of false b is = op-same i

ops-ended : (t : ℕ) (fate : Fate) (is : List HeldOp) → AreLater is (ended t fate is)
ops-ended t fate is = ops-map (ended_op t fate) (op-ended t fate) is

-- the operation of a number
abbrev pub IsThereLater : Option HeldOp → Option HeldOp → Type 0
IsThereLater None j = Unit {0}
IsThereLater (Some i) None = ⊥
IsThereLater (Some i) (Some j) = IsOpLater i j

got : (is js : List HeldOp) (k : ℕ) → AreLater is js → IsThereLater (slice_get is k) (slice_get js k)
got [] js k a = tt
got (i ∷ is) [] k a = absurd a
got (i ∷ is) (j ∷ js) zero a = a.0
got (i ∷ is) (j ∷ js) (suc k) a = got is js k a.1

pub operation-later : (is js : List HeldOp) (n : ℕ) → AreLater is js → IsThereLater (operation_at is n) (operation_at js n)
operation-later is js zero a = tt
operation-later is js (suc k) a = got is js k a

-- edges

abbrev pub MoreEdges : List Edge → List Edge → Type 0
MoreEdges es fs = (more : List Edge) × (fs ≡ es ++ more)

edges-nil : (es : List Edge) → es ≡ es ++ []
edges-nil [] = refl
edges-nil (e ∷ es) = ap (λ xs. e ∷ xs) (edges-nil es)

edges-same : (es : List Edge) → MoreEdges es es
edges-same es = ([], edges-nil es)

edges-on : (es fs gs : List Edge) → MoreEdges es fs → MoreEdges fs gs → MoreEdges es gs
edges-on es fs gs a b = (a.0 ++ b.0, b.1 ∙ ap (λ xs. xs ++ b.0) a.1 ∙ append_assoc es a.0 b.0)

edges-with : (es : List Edge) (f : Edge) → MoreEdges es (with_edge es f)
edges-with es f = of (is_among es f)
  where
    of : (b : Bool) → MoreEdges es (if b then es else es ++ f ∷ [])
    of true = edges-same es
    of false = (f ∷ [], refl)

pub edges-formed : (es due : List Edge) → MoreEdges es (formed es due)
edges-formed es [] = edges-same es
edges-formed es (f ∷ due) = edges-on es (with_edge es f) (formed (with_edge es f) due) (edges-with es f) (edges-formed (with_edge es f) due)

-- statuses, classes and parents

-- what t has changes nothing of those of whom something holds that doesn't hold of t
entry-stays : {X : Type 0} (test : Status → Bool) (status : ℕ → Status) (f : ℕ → X) (t : ℕ) (x : X) → test (status t) ≡ false → (u : ℕ) → test (status u) ≡ true → with_entry f t x u ≡ f u
entry-stays test status f t x not u is = of (u == t) refl
  where
    of : (b : Bool) → (u == t) ≡ b → (if b then x else f u) ≡ f u
    of true same = absurd (true≢false (sym is ∙ ap (λ v. test (status v)) (eqb-true u t same) ∙ not))
    of false same = refl

begun-stays : (status : ℕ → Status) (t : ℕ) (x : Status) → has_begun x ≡ true → (u : ℕ) → has_begun (status u) ≡ true → has_begun (with_status status t x u) ≡ true
begun-stays status t x begun u is = of (u == t)
  where
    of : (b : Bool) → has_begun (if b then x else status u) ≡ true
    of true = begun
    of false = is

-- debts

-- when t starts, debts remain
owed-started : (status : ℕ → Status) (t : ℕ) (f : Edge) (missing : Missing) → status t ≡ NotBegun → debt_of status f ≡ Some missing → debt_of (with_status status t InProgress) f ≡ Some missing
owed-started status t f missing new owed =
    let parts = debt-parts f.kind (status f.i.0) (status f.j.0) missing owed in
    ap (λ i. debt_by f.kind i (with_status status t InProgress f.j.0)) (entry-stays has_ended status status t InProgress (ap has_ended new) f.i.0 parts.0)
    ∙ of (f.j.0 == t)
  where
    of : (b : Bool) → debt_by f.kind (status f.i.0) (if b then InProgress else status f.j.0) ≡ Some missing
    of true = debt-later f.kind (status f.i.0) (status f.j.0) InProgress missing owed (λ is. refl) refl
    of false = owed

-- with its new status t has paid its debt
abbrev Pays : Summary → ℕ → Status → Type 0
Pays s t x =
    (n : ℕ) (f : Edge) (missing : Missing) → item_at s.edges n ≡ Some f → (f.j.0 == t) ≡ true → debt_of s.status f ≡ Some missing → x ≡ paid missing

-- when t ends and pays, the debts of others remain
owed-ended : (s : Summary) (t : ℕ) (x : Status) → s.status t ≡ InProgress → Pays s t x → (n : ℕ) (f : Edge) (missing : Missing) → item_at s.edges n ≡ Some f → debt_of s.status f ≡ Some missing →
    (debt_of (with_status s.status t x) f ≡ Some missing) ⊎ (with_status s.status t x f.j.0 ≡ paid missing)
owed-ended s t x on pays n f missing at owed = of (f.j.0 == t) refl
  where
    stays : with_status s.status t x f.i.0 ≡ s.status f.i.0
    stays = entry-stays has_ended s.status s.status t x (ap has_ended on) f.i.0 (debt-parts f.kind (s.status f.i.0) (s.status f.j.0) missing owed).0

    of : (b : Bool) → (f.j.0 == t) ≡ b → (debt_by f.kind (with_status s.status t x f.i.0) (if b then x else s.status f.j.0) ≡ Some missing) ⊎ ((if b then x else s.status f.j.0) ≡ paid missing)
    of true is = inr (pays n f missing at is owed)
    of false is = inl (ap (λ i. debt_by f.kind i (s.status f.j.0)) stays ∙ owed)

-- a transaction that may commit, abort or join another pays

none-abort : (s : Summary) (t : ℕ) → owing_abort s.status s.edges t ≡ None → (n : ℕ) (f : Edge) → item_at s.edges n ≡ Some f → (f.j.0 == t) ≡ true → debt_of s.status f ≡ Some abort_due → ⊥
unfolding owing_abort
none-abort s t none n f at is owed =
    let owes : owes_abort s.status t f ≡ true = λ k. is k && is_abort (owed k) in
    true≢false (sym owes ∙ none-passes-at (owes_abort s.status t) s.edges n f (by_none OwesAbort _ none) at)

none-commit : (s : Summary) (t : ℕ) → owing_commit s.status s.edges t ≡ None → (n : ℕ) (f : Edge) → item_at s.edges n ≡ Some f → (f.j.0 == t) ≡ true → debt_of s.status f ≡ Some commit_due → ⊥
unfolding owing_commit
none-commit s t none n f at is owed =
    let owes : owes_commit s.status t f ≡ true = λ k. is k && is_commit (owed k) in
    true≢false (sym owes ∙ none-passes-at (owes_commit s.status t) s.edges n f (by_none OwesCommit _ none) at)

commit-pays : (s : Summary) (t : ℕ) → commit_refusal s.status s.edges t ≡ None → Pays s t has_committed
unfolding commit_refusal
commit-pays s t none n f commit_due at is owed = refl
commit-pays s t none n f abort_due at is owed =
    let rules = termination_dep s.status s.edges t ∷ owing_abort s.status s.edges t ∷ commit_order s.status s.edges t ∷ weak_begin s.status s.edges t ∷ unpayable_commit s.status s.edges t ∷ clash s.status s.edges t has_committed ∷ [] in
    absurd (none-abort s t (none-all rules none).1.0 n f at is owed)

abort-pays : (s : Summary) (t : ℕ) → abort_refusal s.status s.edges t ≡ None → Pays s t has_aborted
unfolding abort_refusal
abort-pays s t none n f commit_due at is owed =
    let rules = termination_dep s.status s.edges t ∷ owing_commit s.status s.edges t ∷ unpayable_abort s.status s.edges t ∷ clash s.status s.edges t has_aborted ∷ [] in
    absurd (none-commit s t (none-all rules none).1.0 n f at is owed)
abort-pays s t none n f abort_due at is owed = refl

join-pays : (s : Summary) (t : ℕ) → join_refusal s.status s.edges t ≡ None → Pays s t has_joined
unfolding join_refusal
join-pays s t none n f commit_due at is owed =
    let rules = owing_abort s.status s.edges t ∷ owing_commit s.status s.edges t ∷ [] in
    absurd (none-commit s t (none-all rules none).1.0 n f at is owed)
join-pays s t none n f abort_due at is owed =
    let rules = owing_abort s.status s.edges t ∷ owing_commit s.status s.edges t ∷ [] in
    absurd (none-abort s t (none-all rules none).0 n f at is owed)

-- the three kinds of events: one that starts t, one that ends it, and one that does neither

abbrev after_start : Summary → ℕ → Option ClassId → Option TxnId → List HeldOp → List Edge → Summary
after_start s t class parent operations edges = record {
  kept = s.kept + 1;
  status = with_status s.status t InProgress;
  class = with_entry s.class t class;
  parent = with_entry s.parent t parent;
  operations = operations;
  edges = edges;
  permits = s.permits;
}

later-start : (s : Summary) (t : ℕ) (class : Option ClassId) (parent : Option TxnId) (operations : List HeldOp) (edges : List Edge) → s.status t ≡ NotBegun → AreLater s.operations operations → MoreEdges s.edges edges → IsLater s (after_start s t class parent operations edges)
later-start s t class parent operations edges new ops more = record {
  kept = omega arith;
  begun = begun-stays s.status t InProgress refl;
  ended = entry-stays has_ended s.status s.status t InProgress (ap has_ended new);
  class = entry-stays has_begun s.status s.class t class (ap has_begun new);
  parent = entry-stays has_begun s.status s.parent t parent (ap has_begun new);
  operations = ops;
  edges = more;
  debts = λ n f missing at owed. inl (owed-started s.status t f missing new owed);
}

abbrev after_end : Summary → ℕ → Status → List HeldOp → List Edge → Permitted → Summary
after_end s t x operations edges permits = record {
  kept = s.kept + 1;
  status = with_status s.status t x;
  class = s.class;
  parent = s.parent;
  operations = operations;
  edges = edges;
  permits = permits;
}

later-end : (s : Summary) (t : ℕ) (x : Status) (operations : List HeldOp) (edges : List Edge) (permits : Permitted) → s.status t ≡ InProgress → has_begun x ≡ true → Pays s t x → AreLater s.operations operations → MoreEdges s.edges edges → IsLater s (after_end s t x operations edges permits)
later-end s t x operations edges permits on begun pays ops more = record {
  kept = omega arith;
  begun = begun-stays s.status t x begun;
  ended = entry-stays has_ended s.status s.status t x (ap has_ended on);
  class = λ u is. refl;
  parent = λ u is. refl;
  operations = ops;
  edges = more;
  debts = owed-ended s t x on pays;
}

abbrev after_rest : Summary → List HeldOp → List Edge → Permitted → Summary
after_rest s operations edges permits = record {
  kept = s.kept + 1;
  status = s.status;
  class = s.class;
  parent = s.parent;
  operations = operations;
  edges = edges;
  permits = permits;
}

later-rest : (s : Summary) (operations : List HeldOp) (edges : List Edge) (permits : Permitted) → AreLater s.operations operations → MoreEdges s.edges edges → IsLater s (after_rest s operations edges permits)
later-rest s operations edges permits ops more = record {
  kept = omega arith;
  begun = λ u is. is;
  ended = λ u is. refl;
  class = λ u is. refl;
  parent = λ u is. refl;
  operations = ops;
  edges = more;
  debts = λ n f missing at owed. inl owed;
}

-- an event that breaks no rule

later-commit : (s : Summary) (t : TxnId) (heir : Option TxnId) → s.status t.0 ≡ InProgress → Pays s t.0 has_committed → IsLater s (counted (settled (terminated (linked s []) t has_committed) t heir))
unfolding terminated linked fated inherited counted
later-commit s t None on pays = later-end s t.0 has_committed (ended t.0 Committed s.operations) s.edges _ on refl pays (ops-ended t.0 Committed s.operations) (edges-same s.edges)
later-commit s t (Some u) on pays = later-end s t.0 has_committed (transferred t.0 u s.operations) s.edges _ on refl pays (ops-transferred t.0 u s.operations) (edges-same s.edges)

later-effect : {A : Type 0} (m : Parts A) (s : Summary) (e : Event A) → Unbroken m s e → dependency s e ≡ None → IsLater s (effect m s e)
unfolding stood terminated permit_given entered linked given inherited operated fated counted not_in_progress already_begun
later-effect m s (Begin t class) u fine = later-start s t.0 (Some class) None s.operations s.edges (not_begun s AlreadyBegun t.0 u.begun) (ops-same s.operations) (edges-same s.edges)
later-effect m s (Spawn t c class) u fine = later-start s c.0 (Some class) (Some t) s.operations _ (not_begun s AlreadyBegun c.0 u.begun) (ops-same s.operations) (edges-formed s.edges (edges_due m s (Spawn t c class)))
later-effect m s (Split t v class ops) u fine = later-start s v.0 (Some class) None (moved ops v s.operations) _ (not_begun s AlreadyBegun v.0 u.begun) (ops-moved 1 ops v s.operations) (edges-formed s.edges (edges_due m s (Split t v class ops)))
later-effect m s (Join t v) u fine = later-end s t.0 has_joined (transferred t.0 v s.operations) s.edges _ (in_progress s NotInProgress t.0 u.progress) refl (join-pays s t.0 fine) (ops-transferred t.0 v s.operations) (edges-same s.edges)
later-effect m s (Delegate t v ops) u fine = later-rest s (moved ops v s.operations) s.edges s.permits (ops-moved 1 ops v s.operations) (edges-same s.edges)
later-effect m s (Form kind j i) u fine = later-rest s s.operations _ s.permits (ops-same s.operations) (edges-formed s.edges (edges_due m s (Form kind j i)))
later-effect m s (Operate t ob op) u fine = later-rest s (added s.operations t ob op) _ s.permits (ops-more s.operations _) (edges-formed s.edges (edges_due m s (Operate t ob op)))
later-effect m s (Commit t) u fine = later-commit s t (heir_of m (linked s []) t.0) (in_progress s NotInProgress t.0 u.progress) (commit-pays s t.0 fine)
later-effect m s (Abort t) u fine = later-end s t.0 has_aborted (ended t.0 Aborted s.operations) s.edges _ (in_progress s NotInProgress t.0 u.progress) refl (abort-pays s t.0 fine) (ops-ended t.0 Aborted s.operations) (edges-same s.edges)
later-effect m s (Permit t v ob) u fine = later-rest s s.operations s.edges _ (ops-same s.operations) (edges-same s.edges)

-- one after another

paid-ended : (missing : Missing) → has_ended (paid missing) ≡ true
paid-ended commit_due = refl
paid-ended abort_due = refl

later-same : (s : Summary) → IsLater s s
later-same s = record {
  kept = omega arith;
  begun = λ u is. is;
  ended = λ u is. refl;
  class = λ u is. refl;
  parent = λ u is. refl;
  operations = ops-same s.operations;
  edges = edges-same s.edges;
  debts = λ n f missing at owed. inl owed;
}

still-owed : (s l k : Summary) → IsLater s l → IsLater l k → StaysOwed s k
still-owed s l k a b n f missing at owed =
    elim (a.debts n f missing at owed) [
      | inl still ↦ b.debts n f missing (ap (λ es. item_at es n) a.edges.1 ∙ item-more s.edges a.edges.0 n f at) still
      | inr done ↦ inr (b.ended f.j.0 (ap has_ended done ∙ paid-ended missing) ∙ done)
    ]

later-on : (s l k : Summary) → IsLater s l → IsLater l k → IsLater s k
later-on s l k a b = record {
  kept = omega (arith, a.kept, b.kept);
  begun = λ u is. b.begun u (a.begun u is);
  ended = λ u is. b.ended u (ap has_ended (a.ended u is) ∙ is) ∙ a.ended u is;
  class = λ u is. b.class u (a.begun u is) ∙ a.class u is;
  parent = λ u is. b.parent u (a.begun u is) ∙ a.parent u is;
  operations = ops-on s.operations l.operations k.operations a.operations b.operations;
  edges = edges-on s.edges l.edges k.edges a.edges b.edges;
  debts = still-owed s l k a b;
}

-- the summary of what a machine kept
abbrev pub summary_in : {A : Type 0} → State A → Summary
summary_in state = summary_of state.model state.kept

model-moved : {A : Type 0} (s : State A) (e : Event A) (r : Option Refusal) → (moved_on s e r).model ≡ s.model
model-moved s e None = refl
model-moved s e (Some r) = refl

pub model-after : {A : Type 0} (s : State A) (e : Event A) → (after s e).model ≡ s.model
unfolding after
model-after s e = model-moved s e (lowest_broken s.model (summary_in s) e)

pub model-after_all : {A : Type 0} (s : State A) (es : List (Event A)) → (after_all s es).model ≡ s.model
model-after_all s [] = refl
model-after_all s (e ∷ es) = model-after_all (after s e) es ∙ model-after s e

later-moved : {A : Type 0} (s : State A) (e : Event A) (r : Option Refusal) → lowest_broken s.model (summary_in s) e ≡ r → IsLater (summary_in s) (summary_in (moved_on s e r))
later-moved s e None none =
    subst (IsLater (summary_in s)) (sym (summary_more s.model s.kept (kept_as s e)))
    (later-effect s.model (summary_in s) e (unbroken s.model (summary_in s) e (none-earlier s.model (summary_in s) e none)) (none-dependency s.model (summary_in s) e none))
later-moved s e (Some r) broken = later-same (summary_in s)

pub later-after : {A : Type 0} (s : State A) (e : Event A) → IsLater (summary_in s) (summary_in (after s e))
unfolding after
later-after s e = later-moved s e (lowest_broken s.model (summary_in s) e) refl

-- whatever events come, what was so of those who had begun, of operations and of edges stays
pub later-after_all : {A : Type 0} (s : State A) (es : List (Event A)) → IsLater (summary_in s) (summary_in (after_all s es))
later-after_all s [] = later-same (summary_in s)
later-after_all s (e ∷ es) = later-on (summary_in s) (summary_in (after s e)) (summary_in (after_all (after s e) es)) (later-after s e) (later-after_all (after s e) es)
