-- Statuses, classes and parents by the table are those by places, also after one more event.
use Rattle.std.proofs.Common.{◌≡◌, ℕ, Bool, true, false, ◌==◌, List, [], ◌∷◌, ◌++◌, Option, Some, None, refl, sym, ap, ◌∙◌, eq-eqb, inl, inr}
use Rattle.std.specs.Prelude.{option_map, option_and_then, is_some, if◌then◌else◌}
use Rattle.std.proofs.lemmas.Bool.{ne_eqb, cases_eq}
use Rattle.acta_table.specs.declared.event.TxnId.{TxnId}
use Rattle.acta_table.specs.declared.event.ClassId.{ClassId}
use Rattle.acta_table.specs.declared.event.OpNo.{OpNo}
use Rattle.acta_table.specs.declared.event.Event.{Event}
use Rattle.acta_table.specs.declared.event.Event.TheVariants.{Begin, Spawn, Split, Join, Commit, Abort}
use Rattle.acta_table.specs.declared.event.Kept.{Kept}
use Rattle.acta_table.specs.declared.event.Ret.{Ret}
use Rattle.acta_table.specs.declared.answer.Status.{Status}
use Rattle.acta_table.specs.declared.answer.Status.TheVariants.{NotBegun, InProgress, Committed, Aborted, Joined}
use Rattle.acta_table.specs.Events.{class_named}
use Rattle.acta_axioms.specs.History.{Place, number, first, starts, has_begun, has_ended, class_number, spawner, parent_of}
use Rattle.acta_axioms.specs.Claims.{status_at}
use Rattle.acta_axioms.proofs.Growth.{class_number-push, parent_of-push}
use Rattle.acta_axioms.proofs.Statuses.{is_under_way, is_ended_status, has_begun-status, has_ended-status, when_begun, when_aborted, when_joined, status_after, status_at-push}
use Rattle.acta_deps.specs.Statuses.{with_status, has_ended as has_ended_status}
use Rattle.acta_machine.specs.Summary.{with_entry}

-- comparing transaction numbers is symmetric
pub flipped : (t u : ℕ) → (u ≡ t → ⊥) → (t == u) ≡ false
flipped t u apart = ne_eqb t u (λ e. apart (sym e))

-- t gets the status of the event, and every other status is unchanged
pub statuses-tie : {A : Type 0} (f : ℕ → Status) (h : List (Kept A)) (k : Kept A) (t : ℕ) (x : Status) → ((u : ℕ) → f u ≡ status_at h u)
    → status_after t k.event (f t) ≡ x
    → ((u : ℕ) → (u ≡ t → ⊥) → status_after u k.event (status_at h u) ≡ status_at h u)
    → (u : ℕ) → with_status f t x u ≡ status_at (h ++ k ∷ []) u
statuses-tie f h k t x shows now others u =
    elim (cases_eq u t) [
      | inl e ↦
          ap (λ b. if b then x else f u) (eq-eqb u t e)
          ∙ sym (ap (λ v. status_after v k.event (f v)) e ∙ now)
          ∙ ap (status_after u k.event) (shows u) ∙ sym (status_at-push h k u)
      | inr ne ↦
          ap (λ b. if b then x else f u) (ne_eqb u t ne)
          ∙ shows u ∙ sym (others u ne) ∙ sym (status_at-push h k u)
    ]

pub statuses-begin : {A : Type 0} (f : ℕ → Status) (h : List (Kept A)) (ret : Option Ret) (t : TxnId) (class : ClassId) → ((u : ℕ) → f u ≡ status_at h u) → f t.0 ≡ NotBegun →
    (u : ℕ) → with_status f t.0 InProgress u ≡ status_at (h ++ (record { event = Begin t class; ret = ret }) ∷ []) u
statuses-begin {A} f h ret t class shows new =
    let e : Event A = Begin t class in
    statuses-tie f h _ t.0 InProgress shows
    ((λ i. status_after t.0 e (new i)) ∙ ap (λ b. if b then InProgress else NotBegun) (eq-eqb t.0 t.0 refl))
    (λ u ne. ap (λ b. if b then when_begun (status_at h u) else status_at h u) (flipped t.0 u ne))

pub statuses-spawn : {A : Type 0} (f : ℕ → Status) (h : List (Kept A)) (ret : Option Ret) (t c : TxnId) (class : ClassId) → ((u : ℕ) → f u ≡ status_at h u) → f c.0 ≡ NotBegun →
    (u : ℕ) → with_status f c.0 InProgress u ≡ status_at (h ++ (record { event = Spawn t c class; ret = ret }) ∷ []) u
statuses-spawn {A} f h ret t c class shows new =
    let e : Event A = Spawn t c class in
    statuses-tie f h _ c.0 InProgress shows
    ((λ i. status_after c.0 e (new i)) ∙ ap (λ b. if b then InProgress else NotBegun) (eq-eqb c.0 c.0 refl))
    (λ u ne. ap (λ b. if b then when_begun (status_at h u) else status_at h u) (flipped c.0 u ne))

pub statuses-split : {A : Type 0} (f : ℕ → Status) (h : List (Kept A)) (ret : Option Ret) (t v : TxnId) (class : ClassId) (ops : List OpNo) → ((u : ℕ) → f u ≡ status_at h u) → f v.0 ≡ NotBegun →
    (u : ℕ) → with_status f v.0 InProgress u ≡ status_at (h ++ (record { event = Split t v class ops; ret = ret }) ∷ []) u
statuses-split {A} f h ret t v class ops shows new =
    let e : Event A = Split t v class ops in
    statuses-tie f h _ v.0 InProgress shows
    ((λ i. status_after v.0 e (new i)) ∙ ap (λ b. if b then InProgress else NotBegun) (eq-eqb v.0 v.0 refl))
    (λ u ne. ap (λ b. if b then when_begun (status_at h u) else status_at h u) (flipped v.0 u ne))

pub statuses-commit : {A : Type 0} (f : ℕ → Status) (h : List (Kept A)) (ret : Option Ret) (t : TxnId) → ((u : ℕ) → f u ≡ status_at h u) →
    (u : ℕ) → with_status f t.0 Committed u ≡ status_at (h ++ (record { event = Commit t; ret = ret }) ∷ []) u
statuses-commit f h ret t shows =
    statuses-tie f h _ t.0 Committed shows
    (ap (λ b. if b then Committed else f t.0) (eq-eqb t.0 t.0 refl))
    (λ u ne. ap (λ b. if b then Committed else status_at h u) (flipped t.0 u ne))

pub statuses-abort : {A : Type 0} (f : ℕ → Status) (h : List (Kept A)) (ret : Option Ret) (t : TxnId) → ((u : ℕ) → f u ≡ status_at h u) → f t.0 ≡ InProgress →
    (u : ℕ) → with_status f t.0 Aborted u ≡ status_at (h ++ (record { event = Abort t; ret = ret }) ∷ []) u
statuses-abort {A} f h ret t shows on =
    let e : Event A = Abort t in
    statuses-tie f h _ t.0 Aborted shows
    ((λ i. status_after t.0 e (on i)) ∙ ap (λ b. if b then Aborted else InProgress) (eq-eqb t.0 t.0 refl))
    (λ u ne. ap (λ b. if b then when_aborted (status_at h u) else status_at h u) (flipped t.0 u ne))

pub statuses-join : {A : Type 0} (f : ℕ → Status) (h : List (Kept A)) (ret : Option Ret) (t v : TxnId) → ((u : ℕ) → f u ≡ status_at h u) → f t.0 ≡ InProgress →
    (u : ℕ) → with_status f t.0 Joined u ≡ status_at (h ++ (record { event = Join t v; ret = ret }) ∷ []) u
statuses-join {A} f h ret t v shows on =
    let e : Event A = Join t v in
    statuses-tie f h _ t.0 Joined shows
    ((λ i. status_after t.0 e (on i)) ∙ ap (λ b. if b then Joined else InProgress) (eq-eqb t.0 t.0 refl))
    (λ u ne. ap (λ b. if b then when_joined (status_at h u) else status_at h u) (flipped t.0 u ne))

-- what a status implies by places

-- a transaction that has ended by its status has ended by places
pub ended-places : {A : Type 0} (h : List (Kept A)) (t : ℕ) → has_ended_status (status_at h t) ≡ has_ended h t
ended-places h t = of_status (status_at h t) ∙ sym (has_ended-status h t)
  where
    of_status : (s : Status) → has_ended_status s ≡ is_ended_status s
    of_status NotBegun = refl
    of_status s = refl

-- a transaction that has not begun by its status has not begun by places
pub begun-places : {A : Type 0} (h : List (Kept A)) (t : ℕ) → status_at h t ≡ NotBegun → has_begun h t ≡ false
begun-places h t is = has_begun-status h t (ap is_ended_status is) ∙ ap is_under_way is

-- classes

-- a transaction that has not begun has no class
pub no_class : {A : Type 0} (h : List (Kept A)) (u : ℕ) → has_begun h u ≡ false → class_number h u ≡ None
no_class h u = of (first (starts u) h)
  where
    of : {A : Type 0} (p : Option (Place A)) → is_some (option_map number p) ≡ false → option_and_then (λ q. class_named q.kept.event) p ≡ None
    of None e = refl
    of (Some q) e = cc

branch : {X : Type 0} (b : Bool) (x y : Option X) → (b ≡ false → x ≡ None) → (if b then x else if false then y else None) ≡ x
branch true x y none = refl
branch false x y none = sym (none refl)

-- an event that does not start u does not change its class
pub class-stays : {A : Type 0} (h : List (Kept A)) (k : Kept A) (u : ℕ) → starts u k.event ≡ false → class_number (h ++ k ∷ []) u ≡ class_number h u
class-stays h k u idle =
    class_number-push h k u
    ∙ ap (λ b. if has_begun h u then class_number h u else if b then class_named k.event else None) idle
    ∙ branch (has_begun h u) (class_number h u) (class_named k.event) (no_class h u)

-- an event that starts t with the class gives it this class
classes-start : {A : Type 0} (f : ℕ → Option ClassId) (h : List (Kept A)) (k : Kept A) (t : TxnId) (class : ClassId) → ((u : ℕ) → starts u k.event ≡ (t.0 == u)) → class_named k.event ≡ Some class.0
    → ((u : ℕ) → option_map (λ c. c.0) (f u) ≡ class_number h u) → has_begun h t.0 ≡ false →
    (u : ℕ) → option_map (λ c. c.0) (with_entry f t.0 (Some class) u) ≡ class_number (h ++ k ∷ []) u
classes-start f h k t class is_start named shows new u =
    elim (cases_eq u t.0) [
      | inl e ↦
          let here = eq-eqb u t.0 e in
          let there = is_start u ∙ eq-eqb t.0 u (sym e) in
          let fresh : has_begun h u ≡ false = ap (has_begun h) e ∙ new in
          ap (λ b. option_map (λ c. c.0) (if b then Some class else f u)) here
          ∙ sym (class_number-push h k u ∙ (λ i. if fresh i then class_number h u else if there i then named i else None))
      | inr ne ↦
          let here = ne_eqb u t.0 ne in
          let there = is_start u ∙ flipped t.0 u ne in
          ap (λ b. option_map (λ c. c.0) (if b then Some class else f u)) here ∙ shows u ∙ sym (class-stays h k u there)
    ]

pub classes-begin : {A : Type 0} (f : ℕ → Option ClassId) (h : List (Kept A)) (ret : Option Ret) (t : TxnId) (class : ClassId) → ((u : ℕ) → option_map (λ c. c.0) (f u) ≡ class_number h u) → has_begun h t.0 ≡ false →
    (u : ℕ) → option_map (λ c. c.0) (with_entry f t.0 (Some class) u) ≡ class_number (h ++ (record { event = Begin t class; ret = ret }) ∷ []) u
classes-begin f h ret t class = classes-start f h (record { event = Begin t class; ret = ret }) t class (λ u. refl) refl

pub classes-spawn : {A : Type 0} (f : ℕ → Option ClassId) (h : List (Kept A)) (ret : Option Ret) (t c : TxnId) (class : ClassId) → ((u : ℕ) → option_map (λ x. x.0) (f u) ≡ class_number h u) → has_begun h c.0 ≡ false →
    (u : ℕ) → option_map (λ x. x.0) (with_entry f c.0 (Some class) u) ≡ class_number (h ++ (record { event = Spawn t c class; ret = ret }) ∷ []) u
classes-spawn f h ret t c class = classes-start f h (record { event = Spawn t c class; ret = ret }) c class (λ u. refl) refl

pub classes-split : {A : Type 0} (f : ℕ → Option ClassId) (h : List (Kept A)) (ret : Option Ret) (t v : TxnId) (class : ClassId) (ops : List OpNo) → ((u : ℕ) → option_map (λ c. c.0) (f u) ≡ class_number h u) → has_begun h v.0 ≡ false →
    (u : ℕ) → option_map (λ c. c.0) (with_entry f v.0 (Some class) u) ≡ class_number (h ++ (record { event = Split t v class ops; ret = ret }) ∷ []) u
classes-split f h ret t v class ops = classes-start f h (record { event = Split t v class ops; ret = ret }) v class (λ u. refl) refl

-- parents

-- a transaction that has not begun has no parent
pub no_parent : {A : Type 0} (h : List (Kept A)) (u : ℕ) → has_begun h u ≡ false → parent_of h u ≡ None
no_parent h u = of (first (starts u) h)
  where
    of : {A : Type 0} (p : Option (Place A)) → is_some (option_map number p) ≡ false → option_and_then (λ q. spawner q.before q.kept.event) p ≡ None
    of None e = refl
    of (Some q) e = cc

-- an event that does not start u does not change its parent
pub parent-stays : {A : Type 0} (h : List (Kept A)) (k : Kept A) (u : ℕ) → starts u k.event ≡ false → parent_of (h ++ k ∷ []) u ≡ parent_of h u
parent-stays h k u idle =
    parent_of-push h k u
    ∙ ap (λ b. if has_begun h u then parent_of h u else if b then spawner h k.event else None) idle
    ∙ branch (has_begun h u) (parent_of h u) (spawner h k.event) (no_parent h u)

-- an event that starts t gives it the spawning transaction as its parent, if it is a spawn
pub parents-start : {A : Type 0} (f : ℕ → Option TxnId) (h : List (Kept A)) (k : Kept A) (t : TxnId) (parent : Option TxnId) → ((u : ℕ) → starts u k.event ≡ (t.0 == u)) → spawner h k.event ≡ parent
    → ((u : ℕ) → f u ≡ parent_of h u) → has_begun h t.0 ≡ false →
    (u : ℕ) → with_entry f t.0 parent u ≡ parent_of (h ++ k ∷ []) u
parents-start f h k t parent is_start by shows new u =
    elim (cases_eq u t.0) [
      | inl e ↦
          let here = eq-eqb u t.0 e in
          let there = is_start u ∙ eq-eqb t.0 u (sym e) in
          let fresh : has_begun h u ≡ false = ap (has_begun h) e ∙ new in
          ap (λ b. if b then parent else f u) here
          ∙ sym (parent_of-push h k u ∙ (λ i. if fresh i then parent_of h u else if there i then by i else None))
      | inr ne ↦
          let here = ne_eqb u t.0 ne in
          let there = is_start u ∙ flipped t.0 u ne in
          ap (λ b. if b then parent else f u) here ∙ shows u ∙ sym (parent-stays h k u there)
    ]
