-- The edges of an event that breaks no rule before those on dependencies: they are between valid transaction numbers
-- and have no debt yet.
use Rattle.std.proofs.Common.{if◌then◌else◌, ◌≡◌, ℕ, Bool, true, false, not, ◌&&◌, ◌||◌, List, [], ◌∷◌, filter, Option, Some, None, is_none, refl, sym, ap, ◌∙◌}
use Rattle.std.specs.List.{list_any, list_all}
use Rattle.std.specs.Option.{option_map_or}
use Rattle.std.proofs.lemmas.Bool.{true≢false, or_parts}
use Rattle.acta_table.specs.declared.answer.Status.{Status}
use Rattle.acta_table.specs.declared.answer.Status.TheVariants.{NotBegun, InProgress}
use Rattle.acta_table.specs.declared.answer.Rule.TheVariants.{BadNumber, NotInProgress, AlreadyBegun, FormTooLate}
use Rattle.acta_table.specs.declared.dep.Dep.{Dep}
use Rattle.acta_table.specs.declared.dep.Edge.{Edge}
use Rattle.acta_table.specs.declared.event.Event.{Event}
use Rattle.acta_table.specs.declared.event.Event.TheVariants.{Begin, Spawn, Split, Join, Delegate, Form, Operate, Commit, Abort, Permit}
use Rattle.acta_table.specs.declared.event.ObjId.{ObjId}
use Rattle.acta_table.specs.declared.event.Op.{Op}
use Rattle.acta_table.specs.declared.event.TxnId.{TxnId}
use Rattle.acta_table.specs.declared.model.Class.{Class}
use Rattle.acta_table.specs.declared.model.Parts.{Parts}
use Rattle.acta_table.specs.declared.start_edges.Dependent.{Dependent}
use Rattle.acta_table.specs.declared.start_edges.Dependent.TheVariants.{Starter, Started}
use Rattle.acta_table.specs.Dependencies.{is_begin_kind}
use Rattle.acta_table.specs.Events.{named}
use Rattle.acta_table.specs.Faults.{lowest_fault}
use Rattle.acta_table.specs.Numbered.{smallest}
use Rattle.acta_table.specs.Policies.{edges_upon}
use Rattle.acta_table.specs.Starts.{directed}
use Rattle.acta_table.specs.WellFormed.{is_bad_number, bad_number}
use Rattle.acta_axioms.proofs.Holders.{all-upon}
use Rattle.acta_deps.specs.Statuses.{is_new, is_in_progress, has_ended}
use Rattle.acta_deps.proofs.Clear.{undecided, not_ended, of_begin}
use Rattle.acta_machine.specs.Changes.{edges_due}
use Rattle.acta_machine.specs.Conflicts.{conflicting_holders, conflict_edges}
use Rattle.acta_machine.specs.Families.{class_of}
use Rattle.acta_machine.specs.Places.{AreHeldWell}
use Rattle.acta_machine.specs.Rules.{fails, not_in_progress, already_begun, too_late, form_too_late}
use Rattle.acta_machine.specs.Summary.{Summary}
use Rattle.acta_machine.specs.inside.FreshEdges.{is_fresh_edge}
use Rattle.acta_machine.proofs.Broken.{by_none, in_progress, not_begun, is_begun}
use Rattle.acta_machine.proofs.ConflictTies.{conflicting_holders-on}
use Rattle.acta_machine.proofs.Starting.{each-spawned, each-split}
use Rattle.acta_machine.proofs.Unbroken.{Unbroken}

-- none of the numbers named is bad
none_bad : (test : ℕ → Bool) (ns : List ℕ) → smallest (filter test ns) ≡ None → list_any test ns ≡ false
none_bad test [] e = refl
none_bad test (n ∷ ns) e = of (test n) e (none_bad test ns)
  where
    of : (b : Bool) → smallest (if b then n ∷ filter test ns else filter test ns) ≡ None → (smallest (filter test ns) ≡ None → list_any test ns ≡ false) → (b || list_any test ns) ≡ false
    of true e later = cc
    of false e later = later e

good-names : {A : Type 0} (e : Event A) → bad_number e ≡ None → list_any is_bad_number (named e) ≡ false
unfolding bad_number
good-names e none = none_bad is_bad_number (named e) (by_none BadNumber _ none)

module _ (status : ℕ → Status) (nobody : (t : ℕ) → is_bad_number t ≡ true → status t ≡ NotBegun) where
  -- a transaction in progress has a valid number
  good_running : (t : ℕ) → status t ≡ InProgress → is_bad_number t ≡ false
  good_running t on = of (is_bad_number t) refl
    where
      of : (b : Bool) → is_bad_number t ≡ b → b ≡ false
      of true is = absurd (true≢false (ap is_in_progress (sym on ∙ nobody t is)))
      of false is = refl

  -- an edge on a transaction that has not ended is fresh
  fresh-open : (e : Edge) → is_bad_number e.j.0 ≡ false → is_bad_number e.i.0 ≡ false → has_ended (status e.i.0) ≡ false → is_fresh_edge status e ≡ true
  fresh-open e j i on =
      λ x. not (j x) && not (i x) && is_none (not_ended e.kind (status e.i.0) (status e.j.0) (undecided (status e.i.0) on) x)

  -- so is an edge of a kind that limits when j begins
  fresh-begin : (e : Edge) → is_bad_number e.j.0 ≡ false → is_bad_number e.i.0 ≡ false → is_begin_kind e.kind ≡ true → is_fresh_edge status e ≡ true
  fresh-begin e j i is =
      λ x. not (j x) && not (i x) && is_none (of_begin e.kind (status e.i.0) (status e.j.0) is x)

  fresh-between : (t u : TxnId) → status t.0 ≡ InProgress → is_bad_number u.0 ≡ false → status u.0 ≡ NotBegun → (kind : Dep) (d : Dependent) → is_begin_kind kind ≡ false → is_fresh_edge status (directed kind t u d) ≡ true
  fresh-between t u on good new kind Starter other =
      fresh-open (directed kind t u Starter) (good_running t.0 on) good (ap has_ended new)
  fresh-between t u on good new kind Started other =
      fresh-open (directed kind t u Started) good (good_running t.0 on) (ap has_ended on)

-- an edge that is formed in time is fresh
fresh-formed : (s : Summary) (kind : Dep) (j i : TxnId) → is_bad_number j.0 ≡ false → is_bad_number i.0 ≡ false → too_late s kind j.0 i.0 ≡ None → ((t : ℕ) → is_bad_number t ≡ true → s.status t ≡ NotBegun) → is_fresh_edge s.status (record { kind = kind; j = j; i = i }) ≡ true
fresh-formed s kind j i good_j good_i none nobody = of (is_begin_kind kind) refl none
  where
    e : Edge
    e = record { kind = kind; j = j; i = i }

    of : (b : Bool) → is_begin_kind kind ≡ b → (if b then fails s is_new j.0 else smallest (filter (λ t. has_ended (s.status t)) (j.0 ∷ i.0 ∷ []))) ≡ None → is_fresh_edge s.status e ≡ true
    of true is late = fresh-begin s.status nobody e good_j good_i is
    of false is late =
        let neither : list_any (λ t. has_ended (s.status t)) (j.0 ∷ i.0 ∷ []) ≡ false = none_bad (λ t. has_ended (s.status t)) (j.0 ∷ i.0 ∷ []) late in
        let behind = or_parts (has_ended (s.status j.0)) (has_ended (s.status i.0) || false) neither in
        fresh-open s.status nobody e good_j good_i (or_parts (has_ended (s.status i.0)) false behind.1).0

fresh-conflicts : {A : Type 0} (m : Parts A) (s : Summary) → AreHeldWell s → ((t : ℕ) → is_bad_number t ≡ true → s.status t ≡ NotBegun) → (t : TxnId) (ob : ObjId) (op : Op) → s.status t.0 ≡ InProgress → list_all (is_fresh_edge s.status) (conflict_edges m s t ob op) ≡ true
fresh-conflicts {A} m s well nobody t ob op on = of_class (class_of m s t.0)
  where
    of_class : (k : Option (Class A)) → list_all (is_fresh_edge s.status) (option_map_or (λ c. edges_upon c.policy t (conflicting_holders m s t.0 ob op)) k []) ≡ true
    of_class None = refl
    of_class (Some k) =
        all-upon (is_fresh_edge s.status) (λ u. is_in_progress (s.status u)) k.policy t (conflicting_holders m s t.0 ob op)
        (λ kind u formed running. let open_u : s.status u ≡ InProgress = is_begun (s.status u) running in
        fresh-open s.status nobody (record { kind = kind; j = t; i = record { 0 = u } }) (good_running s.status nobody t.0 on) (good_running s.status nobody u open_u) (ap has_ended open_u))
        (conflicting_holders-on m s well t.0 ob op)

pub fresh-due : {A : Type 0} (m : Parts A) (s : Summary) (e : Event A) → lowest_fault m ≡ None → AreHeldWell s → ((t : ℕ) → is_bad_number t ≡ true → s.status t ≡ NotBegun) → Unbroken m s e → list_all (is_fresh_edge s.status) (edges_due m s e) ≡ true
unfolding not_in_progress already_begun form_too_late
fresh-due m s (Begin t class) faultless well nobody u = refl
fresh-due m s (Spawn t c class) faultless well nobody u =
    let names = or_parts (is_bad_number t.0) _ (good-names (Spawn t c class) u.number) in
    let good = or_parts (is_bad_number c.0) false names.1 in
    each-spawned (is_fresh_edge s.status) m faultless t c class (fresh-between s.status nobody t c (in_progress s NotInProgress t.0 u.progress) good.0 (not_begun s AlreadyBegun c.0 u.begun))
fresh-due m s (Split t c class ops) faultless well nobody u =
    let names = or_parts (is_bad_number t.0) _ (good-names (Split t c class ops) u.number) in
    let good = or_parts (is_bad_number c.0) false names.1 in
    each-split (is_fresh_edge s.status) m faultless t c class (fresh-between s.status nobody t c (in_progress s NotInProgress t.0 u.progress) good.0 (not_begun s AlreadyBegun c.0 u.begun))
fresh-due m s (Join t c) faultless well nobody u = refl
fresh-due m s (Delegate t c ops) faultless well nobody u = refl
fresh-due m s (Form kind j i) faultless well nobody u =
    let names = or_parts (is_bad_number j.0) _ (good-names (Form kind j i) u.number) in
    let good = or_parts (is_bad_number i.0) false names.1 in
    λ x. fresh-formed s kind j i names.0 good.0 (by_none FormTooLate _ u.time) nobody x && true
fresh-due m s (Operate t ob op) faultless well nobody u =
    fresh-conflicts m s well nobody t ob op (in_progress s NotInProgress t.0 u.progress)
fresh-due m s (Commit t) faultless well nobody u = refl
fresh-due m s (Abort t) faultless well nobody u = refl
fresh-due m s (Permit t v ob) faultless well nobody u = refl
