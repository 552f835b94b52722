-- A history that grows by faultless items satisfies the axioms, and which items are faultless.
use Rattle.std.proofs.Common.{if◌then◌else◌, ◌==◌, filter, ◌≡◌, ℕ, Bool, true, false, ◌||◌, not, cond, List, [], ◌∷◌, ◌++◌, None, is_some, refl, ap, ◌∙◌}
use Rattle.acta_table.specs.declared.answer.Status.TheVariants.{NotBegun, InProgress}
use Rattle.acta_table.specs.declared.dep.Dep.{Dep}
use Rattle.acta_table.specs.declared.event.ClassId.{ClassId}
use Rattle.acta_table.specs.declared.event.Event.{Event}
use Rattle.acta_table.specs.declared.event.Event.TheVariants.{Begin, Spawn, Split, Join, Delegate, Form, Commit, Abort, Permit}
use Rattle.acta_table.specs.declared.event.Kept.{Kept}
use Rattle.acta_table.specs.declared.event.OpNo.{OpNo}
use Rattle.acta_table.specs.declared.event.TxnId.{TxnId}
use Rattle.acta_table.specs.declared.event.ObjId.{ObjId}
use Rattle.acta_table.specs.declared.model.Parts.{Parts}
use Rattle.acta_table.specs.WellFormed.{bad_number, bad_class, bad_object, same_transaction}
use Rattle.acta_objects.specs.WellFormed.{bad_operation}
use Rattle.acta_axioms.specs.declared.fault.Axiom.{Axiom}
use Rattle.acta_axioms.specs.declared.fault.Axiom.TheVariants.{BegunOnce, EndedAfterBegun, EndedOnce, OperatesInProgress, FormOfEvent, Allowed, PartiesInProgress, Responsible, HandsWhole, Conflict, Return, Heir, FormedInTime}
use Rattle.acta_axioms.specs.History.{number, has_begun, has_ended, is_in_progress}
use Rattle.acta_axioms.specs.Faults.{when, first_named, begun_again, ended_unbegun, ended_again, operated_idle, ill_formed, not_allowed, idle_party, transferred_unheld, kept_back, in_conflict, wrong_return, without_heir, not_in_time, breaches, faults_of, faults_at}
use Rattle.acta_axioms.specs.Legal.{is_legal}
use Rattle.acta_axioms.specs.Claims.{MeetsAxioms, status_at}
use Rattle.acta_axioms.proofs.Growth.{at_end, faults_in_places-push}
use Rattle.acta_axioms.proofs.Statuses.{is_under_way, is_ended_status, in_progress-status, has_ended-status, has_begun-status}

-- an item after these breaks no axiom
pub record IsFaultless {A : Type 0} (m : Parts A) (before : List (Kept A)) (k : Kept A) : Type 0 where
  pub begun_once : begun_again before k.event ≡ []
  pub ended_after_begun : ended_unbegun before k.event ≡ []
  pub ended_once : ended_again before k.event ≡ []
  pub operates_in_progress : operated_idle before k.event ≡ []
  pub form_of_event : ill_formed m k.event ≡ []
  pub allowed : not_allowed m before k.event ≡ []
  pub parties_in_progress : idle_party before k.event ≡ []
  pub responsible : transferred_unheld m before k.event ≡ []
  pub transfers_whole : kept_back m before k.event ≡ []
  pub conflict : in_conflict m before k.event ≡ []
  pub return : wrong_return m before k.ret k.event ≡ []
  pub heir : without_heir m before k.event ≡ []
  pub formed_in_time : not_in_time before k.event ≡ []

pub faults_at-none : {A : Type 0} (m : Parts A) (h : List (Kept A)) (k : Kept A) → IsFaultless m h k → faults_at m (at_end h k) ≡ []
unfolding breaches
faults_at-none m h k ok =
    let n = number (at_end h k) in
    λ i. faults_of BegunOnce n (ok.begun_once i)
    ++ (faults_of EndedAfterBegun n (ok.ended_after_begun i)
    ++ (faults_of EndedOnce n (ok.ended_once i)
    ++ (faults_of OperatesInProgress n (ok.operates_in_progress i)
    ++ (faults_of FormOfEvent n (ok.form_of_event i)
    ++ (faults_of Allowed n (ok.allowed i)
    ++ (faults_of PartiesInProgress n (ok.parties_in_progress i)
    ++ (faults_of Responsible n (ok.responsible i)
    ++ (faults_of HandsWhole n (ok.transfers_whole i)
    ++ (faults_of Conflict n (ok.conflict i)
    ++ (faults_of Return n (ok.return i)
    ++ (faults_of Heir n (ok.heir i)
    ++ (faults_of FormedInTime n (ok.formed_in_time i) ++ []))))))))))))

-- if the concatenation is empty, both parts are
pub none-both : {X : Type 0} (xs ys : List X) → xs ++ ys ≡ [] → (xs ≡ []) × (ys ≡ [])
none-both [] ys e = (refl, e)
none-both (x ∷ xs) ys e = cc

no_by : (broken : Axiom) (n : ℕ) (bys : List ℕ) → faults_of broken n bys ≡ [] → bys ≡ []
no_by broken n [] e = refl
no_by broken n (b ∷ bys) e = cc

-- if the last place has no fault, the item there breaks no axiom
pub faultless-from : {A : Type 0} (m : Parts A) (h : List (Kept A)) (k : Kept A) → faults_at m (at_end h k) ≡ [] → IsFaultless m h k
unfolding breaches
faultless-from m h k none =
    let n = number (at_end h k) in
    let f1 = none-both (faults_of BegunOnce n (begun_again h k.event)) _ none in
    let f2 = none-both (faults_of EndedAfterBegun n (ended_unbegun h k.event)) _ f1.1 in
    let f3 = none-both (faults_of EndedOnce n (ended_again h k.event)) _ f2.1 in
    let f4 = none-both (faults_of OperatesInProgress n (operated_idle h k.event)) _ f3.1 in
    let f5 = none-both (faults_of FormOfEvent n (ill_formed m k.event)) _ f4.1 in
    let f6 = none-both (faults_of Allowed n (not_allowed m h k.event)) _ f5.1 in
    let f7 = none-both (faults_of PartiesInProgress n (idle_party h k.event)) _ f6.1 in
    let f8 = none-both (faults_of Responsible n (transferred_unheld m h k.event)) _ f7.1 in
    let f9 = none-both (faults_of HandsWhole n (kept_back m h k.event)) _ f8.1 in
    let f10 = none-both (faults_of Conflict n (in_conflict m h k.event)) _ f9.1 in
    let f11 = none-both (faults_of Return n (wrong_return m h k.ret k.event)) _ f10.1 in
    let f12 = none-both (faults_of Heir n (without_heir m h k.event)) _ f11.1 in
    let f13 = none-both (faults_of FormedInTime n (not_in_time h k.event)) _ f12.1 in
    record {
      begun_once = no_by BegunOnce n _ f1.0;
      ended_after_begun = no_by EndedAfterBegun n _ f2.0;
      ended_once = no_by EndedOnce n _ f3.0;
      operates_in_progress = no_by OperatesInProgress n _ f4.0;
      form_of_event = no_by FormOfEvent n _ f5.0;
      allowed = no_by Allowed n _ f6.0;
      parties_in_progress = no_by PartiesInProgress n _ f7.0;
      responsible = no_by Responsible n _ f8.0;
      transfers_whole = no_by HandsWhole n _ f9.0;
      conflict = no_by Conflict n _ f10.0;
      return = no_by Return n _ f11.0;
      heir = no_by Heir n _ f12.0;
      formed_in_time = no_by FormedInTime n _ f13.0;
    }

-- the empty history satisfies the axioms
pub meets-none : {A : Type 0} (m : Parts A) → MeetsAxioms m []
unfolding is_legal
meets-none m = record { faultless = refl; legal = refl }

-- so does a history with one more faultless item, if it is legal
pub meets-push : {A : Type 0} (m : Parts A) (h : List (Kept A)) (k : Kept A) → MeetsAxioms m h → IsFaultless m h k → is_legal m (h ++ k ∷ []) ≡ true → MeetsAxioms m (h ++ k ∷ [])
meets-push m h k meets ok legal =
    record {
      faultless = faults_in_places-push m h k ∙ (λ i. meets.faultless i ++ faults_at-none m h k ok i);
      legal = legal;
    }

-- faultless events, by the status of their transaction

-- no rule on the form of an event is broken
pub well_formed : {A : Type 0} (m : Parts A) (e : Event A) → bad_number e ≡ None → bad_class m e ≡ None → bad_object m e ≡ None → bad_operation m e ≡ None → same_transaction e ≡ None → ill_formed m e ≡ []
well_formed m e number class object operation apart =
    λ i. when (is_some (number i) || (is_some (class i) || (is_some (object i) || (is_some (operation i) || (is_some (apart i) || false))))) (first_named e)

not_begun : {A : Type 0} (h : List (Kept A)) (t : ℕ) → status_at h t ≡ NotBegun → has_begun h t ≡ false
not_begun h t is = has_begun-status h t (ap is_ended_status is) ∙ ap is_under_way is

under_way : {A : Type 0} (h : List (Kept A)) (t : ℕ) → status_at h t ≡ InProgress → is_in_progress h t ≡ true
under_way h t is = in_progress-status h t ∙ ap is_under_way is

begun : {A : Type 0} (h : List (Kept A)) (t : ℕ) → status_at h t ≡ InProgress → has_begun h t ≡ true
begun h t is = has_begun-status h t (ap is_ended_status is) ∙ ap is_under_way is

not_ended : {A : Type 0} (h : List (Kept A)) (t : ℕ) → status_at h t ≡ InProgress → has_ended h t ≡ false
not_ended h t is = has_ended-status h t ∙ ap is_ended_status is

-- a begin of a transaction that has not begun
pub faultless-begin : {A : Type 0} (m : Parts A) (h : List (Kept A)) (t : TxnId) (class : ClassId) → status_at h t.0 ≡ NotBegun →
    ill_formed m (Begin t class) ≡ [] → not_allowed m h (Begin t class) ≡ [] → IsFaultless m h (record { event = Begin t class; ret = None })
faultless-begin m h t class status form allowed =
    record {
      begun_once = ap (λ b. cond b (t.0 ∷ []) []) (not_begun h t.0 status);
      ended_after_begun = refl;
      ended_once = refl;
      operates_in_progress = refl;
      form_of_event = form;
      allowed = allowed;
      parties_in_progress = refl;
      responsible = refl;
      transfers_whole = refl;
      conflict = refl;
      return = refl;
      heir = refl;
      formed_in_time = refl;
    }

-- a form event in time
pub faultless-form : {A : Type 0} (m : Parts A) (h : List (Kept A)) (kind : Dep) (j i : TxnId) →
    ill_formed m (Form kind j i) ≡ [] → not_allowed m h (Form kind j i) ≡ [] → not_in_time h (Form kind j i) ≡ [] → IsFaultless m h (record { event = Form kind j i; ret = None })
faultless-form m h kind j i form allowed in_time =
    record {
      begun_once = refl;
      ended_after_begun = refl;
      ended_once = refl;
      operates_in_progress = refl;
      form_of_event = form;
      allowed = allowed;
      parties_in_progress = refl;
      responsible = refl;
      transfers_whole = refl;
      conflict = refl;
      return = refl;
      heir = refl;
      formed_in_time = in_time;
    }

-- a spawn, by a transaction in progress, of one that has not begun
pub faultless-spawn : {A : Type 0} (m : Parts A) (h : List (Kept A)) (t c : TxnId) (class : ClassId) → status_at h t.0 ≡ InProgress → status_at h c.0 ≡ NotBegun →
    ill_formed m (Spawn t c class) ≡ [] → not_allowed m h (Spawn t c class) ≡ [] → IsFaultless m h (record { event = Spawn t c class; ret = None })
faultless-spawn m h t c class status status_of_child form allowed =
    record {
      begun_once = ap (λ b. cond b (c.0 ∷ []) []) (not_begun h c.0 status_of_child);
      ended_after_begun = refl;
      ended_once = refl;
      operates_in_progress = refl;
      form_of_event = form;
      allowed = allowed;
      parties_in_progress = ap (λ b. cond (not b) (t.0 ∷ []) []) (under_way h t.0 status);
      responsible = refl;
      transfers_whole = refl;
      conflict = refl;
      return = refl;
      heir = refl;
      formed_in_time = refl;
    }

-- a split, by a transaction in progress, of one that has not begun, with operations that it holds, and all if required
pub faultless-split : {A : Type 0} (m : Parts A) (h : List (Kept A)) (t u : TxnId) (class : ClassId) (ops : List OpNo) → status_at h t.0 ≡ InProgress → status_at h u.0 ≡ NotBegun →
    ill_formed m (Split t u class ops) ≡ [] → not_allowed m h (Split t u class ops) ≡ [] → transferred_unheld m h (Split t u class ops) ≡ [] → kept_back m h (Split t u class ops) ≡ [] →
    IsFaultless m h (record { event = Split t u class ops; ret = None })
faultless-split m h t u class ops status status_of_other form allowed held whole =
    record {
      begun_once = ap (λ b. cond b (u.0 ∷ []) []) (not_begun h u.0 status_of_other);
      ended_after_begun = refl;
      ended_once = refl;
      operates_in_progress = refl;
      form_of_event = form;
      allowed = allowed;
      parties_in_progress = ap (λ b. cond (not b) (t.0 ∷ []) []) (under_way h t.0 status);
      responsible = held;
      transfers_whole = whole;
      conflict = refl;
      return = refl;
      heir = refl;
      formed_in_time = refl;
    }

-- a join of a transaction in progress with one in progress
pub faultless-join : {A : Type 0} (m : Parts A) (h : List (Kept A)) (t u : TxnId) → status_at h t.0 ≡ InProgress → status_at h u.0 ≡ InProgress →
    ill_formed m (Join t u) ≡ [] → not_allowed m h (Join t u) ≡ [] → IsFaultless m h (record { event = Join t u; ret = None })
faultless-join m h t u status status_of_other form allowed =
    record {
      begun_once = refl;
      ended_after_begun = ap (λ b. cond (not b) (t.0 ∷ []) []) (begun h t.0 status);
      ended_once = ap (λ b. cond b (t.0 ∷ []) []) (not_ended h t.0 status);
      operates_in_progress = refl;
      form_of_event = form;
      allowed = allowed;
      parties_in_progress = ap (λ b. cond (not b) (u.0 ∷ []) []) (under_way h u.0 status_of_other);
      responsible = refl;
      transfers_whole = refl;
      conflict = refl;
      return = refl;
      heir = refl;
      formed_in_time = refl;
    }

-- if two transactions are in progress, also if they are the same, none is idle
both-under-way : {A : Type 0} (h : List (Kept A)) (t u : TxnId) → status_at h t.0 ≡ InProgress → status_at h u.0 ≡ InProgress → filter (λ v. not (is_in_progress h v)) (if t.0 == u.0 then t.0 ∷ [] else t.0 ∷ u.0 ∷ []) ≡ []
both-under-way h t u status status_of_other = of_test (t.0 == u.0)
  where
    of_test : (b : Bool) → filter (λ v. not (is_in_progress h v)) (if b then t.0 ∷ [] else t.0 ∷ u.0 ∷ []) ≡ []
    of_test true = ap (λ b. cond (not b) (t.0 ∷ []) []) (under_way h t.0 status)
    of_test false = λ i. let others = cond (not (under_way h u.0 status_of_other i)) (u.0 ∷ []) [] in cond (not (under_way h t.0 status i)) (t.0 ∷ others) others

-- a delegation between transactions in progress, of operations held, and of all if required
pub faultless-delegate : {A : Type 0} (m : Parts A) (h : List (Kept A)) (t u : TxnId) (ops : List OpNo) → status_at h t.0 ≡ InProgress → status_at h u.0 ≡ InProgress →
    ill_formed m (Delegate t u ops) ≡ [] → not_allowed m h (Delegate t u ops) ≡ [] → transferred_unheld m h (Delegate t u ops) ≡ [] → kept_back m h (Delegate t u ops) ≡ [] →
    IsFaultless m h (record { event = Delegate t u ops; ret = None })
faultless-delegate m h t u ops status status_of_other form allowed held whole =
    record {
      begun_once = refl;
      ended_after_begun = refl;
      ended_once = refl;
      operates_in_progress = refl;
      form_of_event = form;
      allowed = allowed;
      parties_in_progress = both-under-way h t u status status_of_other;
      responsible = held;
      transfers_whole = whole;
      conflict = refl;
      return = refl;
      heir = refl;
      formed_in_time = refl;
    }

-- a permit between transactions in progress
pub faultless-permit : {A : Type 0} (m : Parts A) (h : List (Kept A)) (t u : TxnId) (ob : ObjId) → status_at h t.0 ≡ InProgress → status_at h u.0 ≡ InProgress →
    ill_formed m (Permit t u ob) ≡ [] → not_allowed m h (Permit t u ob) ≡ [] → IsFaultless m h (record { event = Permit t u ob; ret = None })
faultless-permit m h t u ob status status_of_other form allowed =
    record {
      begun_once = refl;
      ended_after_begun = refl;
      ended_once = refl;
      operates_in_progress = refl;
      form_of_event = form;
      allowed = allowed;
      parties_in_progress = both-under-way h t u status status_of_other;
      responsible = refl;
      transfers_whole = refl;
      conflict = refl;
      return = refl;
      heir = refl;
      formed_in_time = refl;
    }

-- a commit of a transaction in progress, which has a parent in progress if it commits to parents
pub faultless-commit : {A : Type 0} (m : Parts A) (h : List (Kept A)) (t : TxnId) → status_at h t.0 ≡ InProgress →
    ill_formed m (Commit t) ≡ [] → not_allowed m h (Commit t) ≡ [] → without_heir m h (Commit t) ≡ [] → IsFaultless m h (record { event = Commit t; ret = None })
faultless-commit m h t status form allowed left =
    record {
      begun_once = refl;
      ended_after_begun = ap (λ b. cond (not b) (t.0 ∷ []) []) (begun h t.0 status);
      ended_once = ap (λ b. cond b (t.0 ∷ []) []) (not_ended h t.0 status);
      operates_in_progress = refl;
      form_of_event = form;
      allowed = allowed;
      parties_in_progress = refl;
      responsible = refl;
      transfers_whole = refl;
      conflict = refl;
      return = refl;
      heir = left;
      formed_in_time = refl;
    }

pub faultless-abort : {A : Type 0} (m : Parts A) (h : List (Kept A)) (t : TxnId) → status_at h t.0 ≡ InProgress →
    ill_formed m (Abort t) ≡ [] → not_allowed m h (Abort t) ≡ [] → IsFaultless m h (record { event = Abort t; ret = None })
faultless-abort m h t status form allowed =
    record {
      begun_once = refl;
      ended_after_begun = ap (λ b. cond (not b) (t.0 ∷ []) []) (begun h t.0 status);
      ended_once = ap (λ b. cond b (t.0 ∷ []) []) (not_ended h t.0 status);
      operates_in_progress = refl;
      form_of_event = form;
      allowed = allowed;
      parties_in_progress = refl;
      responsible = refl;
      transfers_whole = refl;
      conflict = refl;
      return = refl;
      heir = refl;
      formed_in_time = refl;
    }
