-- The edges that a spawn or a split forms block no start and have no debts, and their formulas are true.
use Rattle.std.proofs.Common.{◌≡◌, ℕ, zero, suc, Bool, true, false, ◌&&◌, not, ◌==◌, List, [], ◌∷◌, slice_get, Option, Some, None, is_some, refl, ap, eq-eqb}
use Rattle.std.specs.Prelude.{if◌then◌else◌}
use Rattle.std.specs.List.{list_any, list_all}
use Rattle.std.specs.Option.{option_map_or}
use Rattle.std.proofs.lemmas.Bool.{or_parts}
use Rattle.acta_table.specs.declared.answer.Status.{Status}
use Rattle.acta_table.specs.declared.answer.Status.TheVariants.{InProgress}
use Rattle.acta_table.specs.declared.dep.Dep.{Dep}
use Rattle.acta_table.specs.declared.dep.Edge.{Edge}
use Rattle.acta_table.specs.declared.event.ClassId.{ClassId}
use Rattle.acta_table.specs.declared.event.TxnId.{TxnId}
use Rattle.acta_table.specs.declared.model.Class.{Class}
use Rattle.acta_table.specs.declared.model.ModelFault.{ModelFault}
use Rattle.acta_table.specs.declared.model.ModelFault.TheVariants.{BeginKindAtStart, HeirWithoutSpawn, BadPolicyKind}
use Rattle.acta_table.specs.declared.model.Parts.{Parts}
use Rattle.acta_table.specs.declared.start_edges.Dependent.{Dependent}
use Rattle.acta_table.specs.declared.start_edges.Dependent.TheVariants.{Starter, Started}
use Rattle.acta_table.specs.declared.start_edges.StartEdge.{StartEdge}
use Rattle.acta_table.specs.Classes.{class_at}
use Rattle.acta_table.specs.Dependencies.{is_begin_kind}
use Rattle.acta_table.specs.Faults.{lowest_fault, has_begin_edge, has_begin_kind, lacks_parents, fault_if}
use Rattle.acta_table.specs.Policies.{is_bad_policy}
use Rattle.acta_table.specs.Starts.{directed, edges_between}
use Rattle.acta_deps.specs.Statuses.{with_status}
use Rattle.acta_axioms.specs.declared.course.Course.{Course}
use Rattle.acta_axioms.specs.History.{end}
use Rattle.acta_axioms.specs.Formulas.{is_false}
use Rattle.acta_machine.proofs.Broken.{or_none}
use Rattle.acta_machine.proofs.DependencyTies.{is_neutral, neutral-edge}
use Rattle.acta_machine.proofs.EdgeSteps.{formed-other}

-- the edges formed when t spawns or splits off u with the class
abbrev pub spawn_due : {A : Type 0} → Parts A → TxnId → TxnId → ClassId → List Edge
spawn_due m t u class = option_map_or (λ k. edges_between t u k.spawn_edges) (class_at m class.0) []

abbrev pub split_due : {A : Type 0} → Parts A → TxnId → TxnId → ClassId → List Edge
split_due m t u class = option_map_or (λ k. edges_between t u k.split_edges) (class_at m class.0) []

pub no_fault : (b : Bool) (fault : ModelFault) → fault_if b fault ≡ None → b ≡ false
no_fault true fault e = cc
no_fault false fault e = refl

pub any-at : {X : Type 0} (test : X → Bool) (xs : List X) (i : ℕ) → list_any test xs ≡ false → option_map_or test (slice_get xs i) false ≡ false
any-at test [] i none = refl
any-at test (x ∷ xs) zero none = (or_parts (test x) (list_any test xs) none).0
any-at test (x ∷ xs) (suc i) none = any-at test xs i (or_parts (test x) (list_any test xs) none).1

-- no class of a checked model has a start edge of a begin kind
plain-class : {A : Type 0} (m : Parts A) → lowest_fault m ≡ None → (class : ℕ) → option_map_or has_begin_kind (class_at m class) false ≡ false
plain-class m faultless class =
    any-at has_begin_kind m.classes class (no_fault (list_any has_begin_kind m.classes) BeginKindAtStart (or_none _ (fault_if (list_any has_begin_kind m.classes) BeginKindAtStart) (or_none _ (fault_if (list_any lacks_parents m.classes) HeirWithoutSpawn) (or_none _ (fault_if (list_any (λ k. is_bad_policy k.policy) m.classes) BadPolicyKind) faultless).0).0).1)

-- a property of every edge of another kind between t and u is a property of the edges formed
each-between : (p : Edge → Bool) (t u : TxnId) → ((kind : Dep) (d : Dependent) → is_begin_kind kind ≡ false → p (directed kind t u d) ≡ true)
    → (es : List StartEdge) → list_any (λ e. is_begin_kind e.kind) es ≡ false → list_all p (edges_between t u es) ≡ true
each-between p t u each [] plain = refl
each-between p t u each (e ∷ es) plain =
    let parts = or_parts (is_begin_kind e.kind) (list_any (λ f. is_begin_kind f.kind) es) plain in
    λ x. each e.kind e.dependent parts.0 x && each-between p t u each es parts.1 x

module _ {A : Type 0} (p : Edge → Bool) (m : Parts A) (faultless : lowest_fault m ≡ None) (t u : TxnId) (class : ClassId)
    (each : (kind : Dep) (d : Dependent) → is_begin_kind kind ≡ false → p (directed kind t u d) ≡ true) where
  pub each-spawned : list_all p (spawn_due m t u class) ≡ true
  each-spawned = of_class (class_at m class.0) (plain-class m faultless class.0)
    where
      of_class : (k : Option (Class A)) → option_map_or has_begin_kind k false ≡ false → list_all p (option_map_or (λ c. edges_between t u c.spawn_edges) k []) ≡ true
      of_class None plain = refl
      of_class (Some k) plain = each-between p t u each k.spawn_edges (or_parts (has_begin_edge k.spawn_edges) (has_begin_edge k.split_edges) plain).0

  pub each-split : list_all p (split_due m t u class) ≡ true
  each-split = of_class (class_at m class.0) (plain-class m faultless class.0)
    where
      of_class : (k : Option (Class A)) → option_map_or has_begin_kind k false ≡ false → list_all p (option_map_or (λ c. edges_between t u c.split_edges) k []) ≡ true
      of_class None plain = refl
      of_class (Some k) plain = each-between p t u each k.split_edges (or_parts (has_begin_edge k.spawn_edges) (has_begin_edge k.split_edges) plain).1

-- t is in progress, and so is u once it has started
on_then : (status : ℕ → Status) (t u : ℕ) → status t ≡ InProgress → with_status status u InProgress t ≡ InProgress
on_then status t u on = of (t == u)
  where
    of : (b : Bool) → (if b then InProgress else status t) ≡ InProgress
    of true = refl
    of false = on

started_then : (status : ℕ → Status) (u : ℕ) → with_status status u InProgress u ≡ InProgress
started_then status u = ap (λ b. if b then InProgress else status u) (eq-eqb u u refl)

neutral : (status : ℕ → Status) (t u : TxnId) → status t.0 ≡ InProgress → (kind : Dep) (d : Dependent) → is_begin_kind kind ≡ false → is_neutral status u.0 (directed kind t u d) ≡ true
neutral status t u on kind Starter other = neutral-edge status u.0 (directed kind t u Starter) other (started_then status u.0) (on_then status t.0 u.0 on)
neutral status t u on kind Started other = neutral-edge status u.0 (directed kind t u Started) other (on_then status t.0 u.0 on) (started_then status u.0)

pub neutral-spawn : {A : Type 0} (m : Parts A) (status : ℕ → Status) (t u : TxnId) (class : ClassId) → lowest_fault m ≡ None → status t.0 ≡ InProgress → list_all (is_neutral status u.0) (spawn_due m t u class) ≡ true
neutral-spawn m status t u class faultless on = each-spawned (is_neutral status u.0) m faultless t u class (neutral status t u on)

pub neutral-split : {A : Type 0} (m : Parts A) (status : ℕ → Status) (t u : TxnId) (class : ClassId) → lowest_fault m ≡ None → status t.0 ≡ InProgress → list_all (is_neutral status u.0) (split_due m t u class) ≡ true
neutral-split m status t u class faultless on = each-split (is_neutral status u.0) m faultless t u class (neutral status t u on)

-- whether the formula of the edge is true
abbrev pub holds_in : (ℕ → Course) → Edge → Bool
holds_in courses f = not (is_false f.kind (courses f.j.0) (courses f.i.0))

holding : (courses : ℕ → Course) (t u : TxnId) → is_some (end (courses t.0)) ≡ false → is_some (end (courses u.0)) ≡ false → (kind : Dep) (d : Dependent) → is_begin_kind kind ≡ false → holds_in courses (directed kind t u d) ≡ true
holding courses t u t_open u_open kind Starter other = ap not (formed-other kind (courses t.0) (courses u.0) other t_open u_open)
holding courses t u t_open u_open kind Started other = ap not (formed-other kind (courses u.0) (courses t.0) other u_open t_open)

pub holding-spawn : {A : Type 0} (m : Parts A) (courses : ℕ → Course) (t u : TxnId) (class : ClassId) → lowest_fault m ≡ None → is_some (end (courses t.0)) ≡ false → is_some (end (courses u.0)) ≡ false
    → list_all (holds_in courses) (spawn_due m t u class) ≡ true
holding-spawn m courses t u class faultless t_open u_open = each-spawned (holds_in courses) m faultless t u class (holding courses t u t_open u_open)

pub holding-split : {A : Type 0} (m : Parts A) (courses : ℕ → Course) (t u : TxnId) (class : ClassId) → lowest_fault m ≡ None → is_some (end (courses t.0)) ≡ false → is_some (end (courses u.0)) ≡ false
    → list_all (holds_in courses) (split_due m t u class) ≡ true
holding-split m courses t u class faultless t_open u_open = each-split (holds_in courses) m faultless t u class (holding courses t u t_open u_open)

-- a class of a checked model that can start by a begin or a split does not commit to parents
pub rooted-class : {A : Type 0} (m : Parts A) → lowest_fault m ≡ None → (class : ℕ) → option_map_or lacks_parents (class_at m class) false ≡ false
rooted-class m faultless class =
    any-at lacks_parents m.classes class (no_fault (list_any lacks_parents m.classes) HeirWithoutSpawn (or_none _ (fault_if (list_any lacks_parents m.classes) HeirWithoutSpawn) (or_none _ (fault_if (list_any (λ k. is_bad_policy k.policy) m.classes) BadPolicyKind) faultless).0).1)
