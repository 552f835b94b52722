-- A transaction with an edge that blocks its start for ever never begins.
use Rattle.std.proofs.Common.{◌≡◌, ◌<◌, ◌≤◌, ℕ, zero, suc, ◌+◌, Bool, true, false, ◌==◌, ◌&&◌, List, [], ◌∷◌, length, Option, Some, None, refl, sym, ap, ◌∙◌, subst, ◌⊎◌, inl, inr, eqb-true, eq-eqb, arith}
use Rattle.std.specs.Prelude.{if◌then◌else◌, get_or, replicate, set, slice_get}
use Rattle.std.proofs.lemmas.Bool.{true≢false, and_parts, cases_lt}
use Rattle.std.proofs.lemmas.List.{get_or-replicate, get_or-set_other, get_or_past, length-replicate}
use Rattle.acta_table.specs.declared.answer.Refusal.{Refusal}
use Rattle.acta_table.specs.declared.answer.Rule.TheVariants.{NotInProgress, SerialDep, BeginOnCommit, BeginOnAbort}
use Rattle.acta_table.specs.declared.answer.Status.{Status}
use Rattle.acta_table.specs.declared.answer.Status.TheVariants.{NotBegun, InProgress, Committed, Aborted, Joined}
use Rattle.acta_table.specs.declared.dep.Dep.{Dep}
use Rattle.acta_table.specs.declared.dep.Dep.TheVariants.{Sd, Bcd, Bad}
use Rattle.acta_table.specs.declared.dep.Edge.{Edge}
use Rattle.acta_table.specs.declared.event.Event.{Event}
use Rattle.acta_table.specs.declared.event.Event.TheVariants as event
use Rattle.acta_table.specs.declared.model.Parts.{Parts}
use Rattle.acta_table.specs.Numbered.{item_at}
use Rattle.acta_deps.specs.Dependencies.{awaits_end, awaits_commit, awaits_abort, begin_dep, serial_dep, begin_on_commit, begin_on_abort, clash, start_refusal, depends}
use Rattle.acta_deps.specs.Statuses.{has_ended, is_new, with_status}
use Rattle.acta_machine.specs.Changes.{effect}
use Rattle.acta_machine.specs.Families.{heir_of}
use Rattle.acta_machine.specs.Rules.{lowest_broken, not_in_progress}
use Rattle.acta_machine.specs.Summary.{Summary, stood, terminated, permit_given, entered, linked, given, inherited, operated, fated, counted}
use Rattle.acta_machine.specs.Table.{State, after, kept_as, moved_on}
use Rattle.acta_machine.proofs.Broken.{by_none, in_progress}
use Rattle.acta_machine.proofs.Histories.{summary_more}
use Rattle.acta_machine.proofs.Unbroken.{unbroken, none-earlier, none-dependency}
use Rattle.acta_hope.specs.Starts.{bars_start, is_lost_by, AreLost, NeverBegins}
use Rattle.acta_hope.proofs.BlockKinds.{none-all, none-passes-at, item-more}
use Rattle.acta_hope.proofs.Growth.{summary_in, later-after}
use Rattle.acta_hope.proofs.Waits.{settled-status}

-- one of the three rules demands what has become impossible
awaits : (kind : Dep) (x : Status) → bars_start kind x ≡ true → (awaits_end kind x ≡ true) ⊎ ((awaits_commit kind x ≡ true) ⊎ (awaits_abort kind x ≡ true))
awaits Sd Joined is = inl refl
awaits Bcd Joined is = inr (inl refl)
awaits Bcd Aborted is = inr (inl refl)
awaits Bad Joined is = inr (inr refl)
awaits Bad Committed is = inr (inr refl)
awaits Sd NotBegun is = cc
awaits Sd InProgress is = cc
awaits Sd Committed is = cc
awaits Sd Aborted is = cc
awaits Bcd NotBegun is = cc
awaits Bcd InProgress is = cc
awaits Bcd Committed is = cc
awaits Bad NotBegun is = cc
awaits Bad InProgress is = cc
awaits Bad Aborted is = cc
awaits _ x is = absurd (true≢false (sym is))

off : (a b : Bool) → a ≡ true → b ≡ true → (a && b) ≡ false → ⊥
off true true is_a is_b e = cc
off true false is_a is_b e = cc
off false b is_a is_b e = cc

-- a transaction starts only if no edge blocks its start for ever
start-blocked : (s : Summary) (t n : ℕ) (f : Edge) → start_refusal s.status s.edges t ≡ None → item_at s.edges n ≡ Some f → f.j.0 ≡ t → bars_start f.kind (s.status f.i.0) ≡ true → ⊥
unfolding start_refusal serial_dep begin_on_commit begin_on_abort
start-blocked s t n f none at same blocks =
    let all = none-all (begin_dep s.status s.edges t ∷ serial_dep s.status s.edges t ∷ begin_on_commit s.status s.edges t ∷ begin_on_abort s.status s.edges t ∷ clash s.status s.edges t InProgress ∷ []) none in
    let own = eq-eqb f.j.0 t same in
    elim (awaits f.kind (s.status f.i.0) blocks) [
      | inl is ↦ off (f.j.0 == t) (awaits_end f.kind (s.status f.i.0)) own is (none-passes-at (depends awaits_end s.status t) s.edges n f (by_none SerialDep _ all.1.0) at)
      | inr more ↦ elim more [
        | inl is ↦ off (f.j.0 == t) (awaits_commit f.kind (s.status f.i.0)) own is (none-passes-at (depends awaits_commit s.status t) s.edges n f (by_none BeginOnCommit _ all.1.1.0) at)
        | inr is ↦ off (f.j.0 == t) (awaits_abort f.kind (s.status f.i.0)) own is (none-passes-at (depends awaits_abort s.status t) s.edges n f (by_none BeginOnAbort _ all.1.1.1.0) at)
      ]
    ]

kept-new : (status : ℕ → Status) (t : ℕ) (x : Status) (u : ℕ) → (u ≡ t → ⊥) → status u ≡ NotBegun → with_status status t x u ≡ NotBegun
kept-new status t x u other new = of (u == t) refl
  where
    of : (b : Bool) → (u == t) ≡ b → (if b then x else status u) ≡ NotBegun
    of true is = absurd (other (eqb-true u t is))
    of false is = new

on-new : (s : Summary) (t u : ℕ) → s.status t ≡ InProgress → s.status u ≡ NotBegun → u ≡ t → ⊥
on-new s t u on new same = let clash_of = sym new ∙ ap s.status same ∙ on in cc

-- an event that breaks no rule doesn't begin it
still-new : {A : Type 0} (m : Parts A) (s : Summary) (e : Event A) (n : ℕ) (f : Edge) → lowest_broken m s e ≡ None → item_at s.edges n ≡ Some f → s.status f.j.0 ≡ NotBegun → bars_start f.kind (s.status f.i.0) ≡ true → (effect m s e).status f.j.0 ≡ NotBegun
unfolding stood terminated permit_given entered linked given inherited operated fated counted not_in_progress
still-new m s (event.Begin u class) n f none at new blocks = kept-new s.status u.0 InProgress f.j.0 (λ is. start-blocked s u.0 n f (none-dependency m s (event.Begin u class) none) at is blocks) new
still-new m s (event.Spawn u c class) n f none at new blocks = kept-new s.status c.0 InProgress f.j.0 (λ is. start-blocked s c.0 n f (none-dependency m s (event.Spawn u c class) none) at is blocks) new
still-new m s (event.Split u v class ops) n f none at new blocks = kept-new s.status v.0 InProgress f.j.0 (λ is. start-blocked s v.0 n f (none-dependency m s (event.Split u v class ops) none) at is blocks) new
still-new m s (event.Join u v) n f none at new blocks = kept-new s.status u.0 Joined f.j.0 (on-new s u.0 f.j.0 (in_progress s NotInProgress u.0 (unbroken m s (event.Join u v) (none-earlier m s (event.Join u v) none)).progress) new) new
still-new m s (event.Delegate u v ops) n f none at new blocks = new
still-new m s (event.Form kind v u) n f none at new blocks = new
still-new m s (event.Operate u ob op) n f none at new blocks = new
still-new m s (event.Commit u) n f none at new blocks =
    ap (λ (g : ℕ → Status). g f.j.0) (settled-status (terminated (linked s []) u Committed) u (heir_of m (linked s []) u.0))
    ∙ kept-new s.status u.0 Committed f.j.0 (on-new s u.0 f.j.0 (in_progress s NotInProgress u.0 (unbroken m s (event.Commit u) (none-earlier m s (event.Commit u) none)).progress) new) new
still-new m s (event.Abort u) n f none at new blocks = kept-new s.status u.0 Aborted f.j.0 (on-new s u.0 f.j.0 (in_progress s NotInProgress u.0 (unbroken m s (event.Abort u) (none-earlier m s (event.Abort u) none)).progress) new) new
still-new m s (event.Permit u v ob) n f none at new blocks = new

blocked-ended : (kind : Dep) (x : Status) → bars_start kind x ≡ true → has_ended x ≡ true
blocked-ended kind Committed is = refl
blocked-ended kind Aborted is = refl
blocked-ended kind Joined is = refl
blocked-ended Sd NotBegun is = cc
blocked-ended Sd InProgress is = cc
blocked-ended Bcd NotBegun is = cc
blocked-ended Bcd InProgress is = cc
blocked-ended Bad NotBegun is = cc
blocked-ended Bad InProgress is = cc
blocked-ended _ x is = absurd (true≢false (sym is))

module _ (n : ℕ) (f : Edge) where
  -- the edge is in force, its j has not begun, and it blocks the start of j for ever
  record IsLost (s : Summary) : Type 0 where
    at : item_at s.edges n ≡ Some f
    new : s.status f.j.0 ≡ NotBegun
    blocks : bars_start f.kind (s.status f.i.0) ≡ true

module _ {A : Type 0} (n : ℕ) (f : Edge) where
  new-moved : (state : State A) (e : Event A) (r : Option Refusal) → lowest_broken state.model (summary_in state) e ≡ r → IsLost n f (summary_in state) → (summary_in (moved_on state e r)).status f.j.0 ≡ NotBegun
  new-moved state e (Some r) broken lost = lost.new
  new-moved state e None none lost =
      ap (λ (s : Summary). s.status f.j.0) (summary_more state.model state.kept (kept_as state e))
      ∙ still-new state.model (summary_in state) e n f none lost.at lost.new lost.blocks

  new-after : (state : State A) (e : Event A) → IsLost n f (summary_in state) → (summary_in (after state e)).status f.j.0 ≡ NotBegun
  unfolding after
  new-after state e = new-moved state e (lowest_broken state.model (summary_in state) e) refl

  lost-after : (state : State A) (e : Event A) → IsLost n f (summary_in state) → IsLost n f (summary_in (after state e))
  lost-after state e lost =
      let later = later-after state e in
      record {
        at = ap (λ es. item_at es n) later.edges.1 ∙ item-more (summary_in state).edges later.edges.0 n f lost.at;
        new = new-after state e lost;
        blocks = ap (bars_start f.kind) (later.ended f.i.0 (blocked-ended f.kind ((summary_in state).status f.i.0) lost.blocks)) ∙ lost.blocks;
      }

  lost-on : (state : State A) → IsLost n f (summary_in state) → NeverBegins state f.j.0
  lost-on state lost [] = lost.new
  lost-on state lost (e ∷ es) = lost-on (after state e) (lost-after state e lost) es

is_unbegun : (x : Status) → is_new x ≡ true → x ≡ NotBegun
is_unbegun NotBegun is = refl
is_unbegun _ is = cc

-- a transaction with an edge that blocks its start for ever never begins
pub never-begins : {A : Type 0} (state : State A) (n : ℕ) (f : Edge) → item_at (summary_in state).edges n ≡ Some f → is_lost_by (summary_in state).status f ≡ true → NeverBegins state f.j.0
never-begins {A} state n f at is =
    let parts = and_parts (is_new ((summary_in state).status f.j.0)) (bars_start f.kind ((summary_in state).status f.i.0)) is in
    lost-on {A = A} n f state (record { at = at; new = is_unbegun ((summary_in state).status f.j.0) parts.0; blocks = parts.1 })

-- the numbers of edges, by transaction

-- one more is noted
pub lost-set : {A : Type 0} (state : State A) (lost : List ℕ) (t number : ℕ) → t < length lost → AreLost state lost → NeverBegins state t → AreLost state (set lost t number)
lost-set state lost t number low old new u noted = of (u == t) refl
  where
    of : (b : Bool) → (u == t) ≡ b → NeverBegins state u
    of true is = subst (NeverBegins state) (sym (eqb-true u t is)) new
    of false is = old u (λ none. noted (get_or-set_other lost t u number 0 (λ same. true≢false (sym (eq-eqb u t same) ∙ is)) ∙ none))

abbrev pub zeros : ℕ → List ℕ
zeros n = replicate n 0

-- each is 0 if all are
pub zero-at : (n t : ℕ) → get_or (zeros n) t 0 ≡ zero
zero-at n t =
    elim (cases_lt t n) [
      | inl low ↦ get_or-replicate n t 0 0 low
      | inr high ↦ get_or_past (zeros n) t 0 (subst (λ k. k ≤ t) (sym (length-replicate n zero)) high)
    ]

-- none is noted if all are 0
pub none-lost : {A : Type 0} (state : State A) (lost : List ℕ) (n : ℕ) → lost ≡ replicate n 0 → AreLost state lost
none-lost state lost n is t noted = absurd (noted (ap (λ xs. get_or xs t 0) is ∙ zero-at n t))

-- the edge at a place has the number of the place plus one
pub edge-at : (es : List Edge) (place number : ℕ) (f : Edge) → number ≡ place + 1 → slice_get es place ≡ Some f → item_at es number ≡ Some f
edge-at es place number f is at =
    let same : suc place ≡ number = omega (arith, is) in
    ap (item_at es) (sym same) ∙ at
