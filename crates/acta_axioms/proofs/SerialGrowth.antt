-- A history of a strict model without faults is serial, item by item.
use Rattle.std.proofs.Common.{◌≡◌, ℕ, ◌≤◌, ◌==◌, Bool, true, false, ◌&&◌, ◌||◌, not, cond, List, [], ◌∷◌, ◌++◌, length, map, filter, fold, Option, Some, None, is_some, refl, sym, ap, ◌∙◌, subst}
use Rattle.std.specs.Prelude.{if◌then◌else◌}
use Rattle.std.specs.List.{list_all, list_any, flat_map, cons_option, AllByRecursion}
use Rattle.std.specs.Option.{option_map_or}
use Rattle.std.proofs.lemmas.Bool.{true≢false, and_parts, eqb-true}
use Rattle.std.proofs.lemmas.List.{append-nil, append_assoc}
use Rattle.std.proofs.lemmas.List.Elements.{filter_map-append}
use Rattle.acta_table.specs.declared.answer.Fate.{Fate}
use Rattle.acta_table.specs.declared.answer.Fate.TheVariants.{InProgress, Committed, Aborted}
use Rattle.acta_table.specs.declared.answer.Status.{Status}
use Rattle.acta_table.specs.declared.answer.Status.TheVariants as status
use Rattle.acta_table.specs.declared.event.Event.{Event}
use Rattle.acta_table.specs.declared.event.Event.TheVariants.{Begin, Spawn, Split, Join, Delegate, Form, Operate, Commit, Abort, Permit}
use Rattle.acta_table.specs.declared.event.Kept.{Kept}
use Rattle.acta_table.specs.declared.event.ObjId.{ObjId}
use Rattle.acta_table.specs.declared.event.Op.{Op}
use Rattle.acta_table.specs.declared.event.Ret.{Ret}
use Rattle.acta_table.specs.declared.event.TxnId.{TxnId}
use Rattle.acta_table.specs.declared.model.Class.{Class}
use Rattle.acta_table.specs.declared.model.Parts.{Parts}
use Rattle.acta_table.specs.Classes.{exempts, has_heir}
use Rattle.acta_table.specs.Fates.{is_open, is_committed, is_aborted}
use Rattle.acta_axioms.specs.declared.course.Course.{Course}
use Rattle.acta_axioms.specs.History.{number, places_after, starts, course, has_begun, has_ended, is_in_progress, has_class, class_of, spawner, parent_of, ancestors}
use Rattle.acta_axioms.specs.Operations.{Operation, Standing, number_after, operations, held_by, ended_by, heir, followed, carried, standing, is_exempt, is_of_others, is_in_view, view_set, conflict_set}
use Rattle.acta_axioms.specs.Values.{do_conflict, conflicting}
use Rattle.acta_axioms.specs.Faults.{ill_formed, faults_at, faults_in_places}
use Rattle.acta_axioms.specs.Claims.{status_at}
use Rattle.acta_axioms.proofs.Conflicts.{do_conflict-on}
use Rattle.acta_axioms.proofs.Faultless.{IsFaultless, faultless-from, none-both}
use Rattle.acta_axioms.proofs.Growth.{at_end, or_here, added, course-push, class_in, class_of-push, parent_of-push, operations-push, operations_within, standing-push, added-new}
use Rattle.acta_axioms.proofs.Statuses.{when_begun, when_aborted, is_under_way, status_at-push, in_progress-status}
use Rattle.acta_axioms.proofs.ValueGrowth.{filter-both, eqb-turned}
use Rattle.acta_axioms.specs.Serial.{is_strict_class, is_strict, committed_by, commit_order, is_of_group, group_of, serial_order, first_values, values_after, returned_from, replayed}
use Rattle.acta_axioms.proofs.Reordering.{IsSerial, ended_so, serial-none, serial-commit, serial-abort, serial-operate, serial-returns}
use Rattle.acta_axioms.proofs.Replays.{AreValues, values-first, values-step, is_free, commute-values, due-replayed}
use Rattle.acta_axioms.specs.Permits.{has_permitted, is_permitted}
use Rattle.acta_table.specs.Events.{permits}
use Rattle.acta_axioms.proofs.Permitting.{has_permitted-push, unpermitted-counts}
use Rattle.acta_axioms.proofs.StrictItems.{of-strict, class-strict, no-spawn, no-split, no-join, no-delegation, no-permit, ends-begun, ends-open, parties-begun, operates-open, conflicts-none, returns-due}

-- the fate that all operations of a transaction with this status have
abbrev pub fate_of : Status → Fate
fate_of status.Committed = Committed
fate_of status.Aborted = Aborted
fate_of _ = InProgress

-- the same, by places
abbrev pub fates : {A : Type 0} → List (Kept A) → ℕ → Fate
fates h t = fate_of (status_at h t)

-- held by its invoker, with that transaction's fate
abbrev pub stands_so : (ℕ → Fate) → Operation → Standing
stands_so f o = record { holder = o.invoker; fate = f o.invoker }

-- operations on a model's objects are serial, given each transaction's fate and the commits in order
abbrev pub AreSerial : {A : Type 0} → Parts A → List Operation → (ℕ → Fate) → List ℕ → Type 0
AreSerial m os f order =
    IsSerial values_after returned_from (λ o. o.ret) (AreValues m) (values-step m) (λ o. o.invoker) (is_free m) (commute-values m) (first_values m) os f order

-- invariant of a history, given each transaction's fate: its operations are serial, each is held by its invoker, every
-- transaction that has begun has a strict class, and none has a parent
pub record IsSerialSoFar {A : Type 0} (m : Parts A) (h : List (Kept A)) (f : ℕ → Fate) : Type 0 where
  pub serial : AreSerial m (operations h) f (commit_order h)
  pub stand : AllByRecursion (λ o. standing m h o ≡ stands_so f o) (operations h)
  pub classes : (t : ℕ) → has_begun h t ≡ true → has_class is_strict_class m h t ≡ true
  pub orphans : (t : ℕ) → parent_of h t ≡ None
  pub unpermitted : (u t object : ℕ) → has_permitted h u t object ≡ false

-- lists

pub AllByRecursion-append : {X : Type 0} (P : X → Type 0) (xs ys : List X) → AllByRecursion P xs → AllByRecursion P ys → AllByRecursion P (xs ++ ys)
AllByRecursion-append P [] ys all more = more
AllByRecursion-append P (x ∷ xs) ys all more = (all.0, AllByRecursion-append P xs ys all.1 more)

all-zip : {X : Type 0} (P Q R : X → Type 0) → ((x : X) → P x → Q x → R x) → (xs : List X) → AllByRecursion P xs → AllByRecursion Q xs → AllByRecursion R xs
all-zip P Q R both [] ps qs = tt
all-zip P Q R both (x ∷ xs) ps qs = (both x ps.0 qs.0, all-zip P Q R both xs ps.1 qs.1)

filter-within : {X : Type 0} (P : X → Type 0) (p q : X → Bool) → ((x : X) → P x → p x ≡ q x) → (xs : List X) → AllByRecursion P xs → filter p xs ≡ filter q xs
filter-within P p q same [] all = refl
filter-within P p q same (x ∷ xs) all = λ i. cond (same x all.0 i) (x ∷ filter-within P p q same xs all.1 i) (filter-within P p q same xs all.1 i)

none-against : {X : Type 0} (test q : X → Bool) (xs : List X) → filter q (filter (λ x. not (test x)) xs) ≡ [] → list_all (λ x. test x || not (q x)) xs ≡ true
none-against test q [] none = refl
none-against {X} test q (x ∷ xs) none = of (test x) (q x) refl none (none-against test q xs)
  where
    of : (b c : Bool) → q x ≡ c → filter q (cond (not b) (x ∷ filter (λ y. not (test y)) xs) (filter (λ y. not (test y)) xs)) ≡ [] → (filter q (filter (λ y. not (test y)) xs) ≡ [] → list_all (λ y. test y || not (q y)) xs ≡ true)
        → ((b || not c) && list_all (λ y. test y || not (q y)) xs) ≡ true
    of true c is e later = later e
    of false false is e later = later (sym (ap (λ b. cond b (x ∷ filter q (filter (λ y. not (test y)) xs)) (filter q (filter (λ y. not (test y)) xs))) is) ∙ e)
    of false true is e later = let e2 : x ∷ filter q (filter (λ y. not (test y)) xs) ≡ [] = sym (ap (λ b. cond b (x ∷ filter q (filter (λ y. not (test y)) xs)) (filter q (filter (λ y. not (test y)) xs))) is) ∙ e in cc

-- classes and parents

classes-push : {A : Type 0} (m : Parts A) (h : List (Kept A)) (k : Kept A) → is_strict m ≡ true → ill_formed m k.event ≡ [] → ((t : ℕ) → has_begun h t ≡ true → has_class is_strict_class m h t ≡ true)
    → (t : ℕ) → has_begun (h ++ k ∷ []) t ≡ true → has_class is_strict_class m (h ++ k ∷ []) t ≡ true
classes-push {A} m h k strict formed earlier t begun =
    ap (λ c. option_map_or is_strict_class c false) (class_of-push m h k t)
    ∙ of (course h t).start refl (starts t k.event) refl (sym (ap (λ (c : Course). is_some c.start) (course-push h k t)) ∙ begun)
  where
    names : (e : Event A) → ill_formed m e ≡ [] → starts t e ≡ true → option_map_or is_strict_class (class_in m e) false ≡ true
    names (Begin u class) fine is = class-strict m (Begin u class) class.0 strict fine refl
    names (Spawn v u class) fine is = class-strict m (Spawn v u class) class.0 strict fine refl
    names (Split v u class ops) fine is = class-strict m (Split v u class ops) class.0 strict fine refl
    names _ fine is = absurd (true≢false (sym is))

    of : (s : Option ℕ) → (course h t).start ≡ s → (b : Bool) → starts t k.event ≡ b → is_some (or_here h s b) ≡ true → option_map_or is_strict_class (if is_some s then class_of m h t else if b then class_in m k.event else None) false ≡ true
    of (Some n) at b is e = earlier t (ap is_some at)
    of None at true is e = names k.event formed is
    of None at false is e = absurd (true≢false (sym e))

orphans-push : {A : Type 0} (h : List (Kept A)) (k : Kept A) → spawner h k.event ≡ None → ((t : ℕ) → parent_of h t ≡ None) → (t : ℕ) → parent_of (h ++ k ∷ []) t ≡ None
orphans-push h k none earlier t = parent_of-push h k t ∙ of (has_begun h t) (starts t k.event)
  where
    of : (a b : Bool) → (if a then parent_of h t else if b then spawner h k.event else None) ≡ None
    of true b = earlier t
    of false true = none
    of false false = refl

unpermitted-push : {A : Type 0} (h : List (Kept A)) (k : Kept A) → ((u t object : ℕ) → permits u t object k.event ≡ false) → ((u t object : ℕ) → has_permitted h u t object ≡ false) → (u t object : ℕ) → has_permitted (h ++ k ∷ []) u t object ≡ false
unpermitted-push h k none earlier u t object = has_permitted-push h k u t object ∙ (λ i. earlier u t object i || none u t object i)

-- how operations stand

stand-push : {A : Type 0} (m : Parts A) (h : List (Kept A)) (k : Kept A) (f g : ℕ → Fate) → ((o : Operation) → carried m o.number (stands_so f o) (at_end h k) ≡ stands_so g o) → AllByRecursion (λ o. held_by o.invoker ≡ stands_so g o) (added h k)
    → AllByRecursion (λ o. standing m h o ≡ stands_so f o) (operations h) → AllByRecursion (λ o. standing m (h ++ k ∷ []) o ≡ stands_so g o) (operations (h ++ k ∷ []))
stand-push m h k f g moves fresh all =
    subst (AllByRecursion (λ o. standing m (h ++ k ∷ []) o ≡ stands_so g o)) (sym (operations-push h k))
    (AllByRecursion-append (λ o. standing m (h ++ k ∷ []) o ≡ stands_so g o) (operations h) (added h k)
    (all-zip (λ o. o.place ≤ length h) (λ o. standing m h o ≡ stands_so f o) (λ o. standing m (h ++ k ∷ []) o ≡ stands_so g o)
    (λ o within so. standing-push m h k o within ∙ ap (λ s. carried m o.number s (at_end h k)) so ∙ moves o)
    (operations h) (operations_within h) all)
    (all-zip (λ o. standing m (h ++ k ∷ []) o ≡ held_by o.invoker) (λ o. held_by o.invoker ≡ stands_so g o) (λ o. standing m (h ++ k ∷ []) o ≡ stands_so g o)
    (λ o new held. new ∙ held) (added h k) (added-new m h k) fresh))

stays_idle : (f : Fate) (v : ℕ) (x : Standing) → x ≡ held_by v → (if is_open f then x else ended_by v f) ≡ ended_by v f
stays_idle InProgress v x e = e
stays_idle Committed v x e = refl
stays_idle Aborted v x e = refl

settles : (b : Bool) (f end : Fate) (v : ℕ) (x : Standing) → (b ≡ true → f ≡ InProgress) → x ≡ (if b then ended_by v end else held_by v) → (if is_open f then x else ended_by v f) ≡ ended_by v (if b then end else f)
settles false InProgress end v x on e = e
settles false Committed end v x on e = refl
settles false Aborted end v x on e = refl
settles true InProgress end v x on e = e
settles true Committed end v x on e = let no = on refl in cc
settles true Aborted end v x on e = let no = on refl in cc

-- the order of commits

order-push : {A : Type 0} (h : List (Kept A)) (k : Kept A) → commit_order (h ++ k ∷ []) ≡ commit_order h ++ cons_option (committed_by k.event) []
order-push h k = filter_map-append (λ q. committed_by q.event) h (k ∷ [])

-- an event that ends no transaction and is no operation
step-idle : {A : Type 0} (m : Parts A) (h : List (Kept A)) (k : Kept A) → is_strict m ≡ true → ill_formed m k.event ≡ [] → added h k ≡ [] → committed_by k.event ≡ None → ((o v : ℕ) → followed m h o v k.event ≡ held_by v)
    → ((t : ℕ) → fates (h ++ k ∷ []) t ≡ fates h t) → spawner h k.event ≡ None → ((u t object : ℕ) → permits u t object k.event ≡ false) → IsSerialSoFar m h (fates h) → IsSerialSoFar m (h ++ k ∷ []) (fates (h ++ k ∷ []))
step-idle {A} m h k strict formed no_operation no_commit idle same no_spawn no_permits so_far =
    subst (IsSerialSoFar m (h ++ k ∷ [])) (λ i t. sym (same t) i)
    (record {
      serial =
          subst (λ os. AreSerial m os (fates h) (commit_order (h ++ k ∷ []))) (sym (operations-push h k ∙ ap (λ os. operations h ++ os) no_operation ∙ append-nil (operations h)))
          (subst (AreSerial m (operations h) (fates h)) (sym (order-push h k ∙ ap (λ c. commit_order h ++ cons_option c []) no_commit ∙ append-nil (commit_order h))) so_far.serial);
      stand =
          stand-push m h k (fates h) (fates h) (λ o. stays_idle (fates h o.invoker) o.invoker (followed m h o.number o.invoker k.event) (idle o.number o.invoker))
          (subst (AllByRecursion (λ o. held_by o.invoker ≡ stands_so (fates h) o)) (sym no_operation) tt) so_far.stand;
      classes = classes-push m h k strict formed so_far.classes;
      orphans = orphans-push h k no_spawn so_far.orphans;
      unpermitted = unpermitted-push h k no_permits so_far.unpermitted;
    })

-- an event that ends a transaction in progress
step-ended : {A : Type 0} (m : Parts A) (h : List (Kept A)) (k : Kept A) (t : ℕ) (end : Fate) → is_strict m ≡ true → ill_formed m k.event ≡ [] → fates h t ≡ InProgress → added h k ≡ []
    → ((o v : ℕ) → followed m h o v k.event ≡ (if v == t then ended_by v end else held_by v)) → ((u : ℕ) → fates (h ++ k ∷ []) u ≡ ended_so (fates h) t end u) → spawner h k.event ≡ None → ((u v object : ℕ) → permits u v object k.event ≡ false)
    → AreSerial m (operations h) (ended_so (fates h) t end) (commit_order (h ++ k ∷ [])) → IsSerialSoFar m h (fates h) → IsSerialSoFar m (h ++ k ∷ []) (fates (h ++ k ∷ []))
step-ended {A} m h k t end strict formed on no_operation ends so no_spawn no_permits serial so_far =
    subst (IsSerialSoFar m (h ++ k ∷ [])) (λ i u. sym (so u) i)
    (record {
      serial =
          subst (λ os. AreSerial m os (ended_so (fates h) t end) (commit_order (h ++ k ∷ []))) (sym (operations-push h k ∙ ap (λ os. operations h ++ os) no_operation ∙ append-nil (operations h))) serial;
      stand =
          stand-push m h k (fates h) (ended_so (fates h) t end)
          (λ o. settles (o.invoker == t) (fates h o.invoker) end o.invoker (followed m h o.number o.invoker k.event) (λ is. ap (fates h) (eqb-true o.invoker t is) ∙ on) (ends o.number o.invoker))
          (subst (AllByRecursion (λ o. held_by o.invoker ≡ stands_so (ended_so (fates h) t end) o)) (sym no_operation) tt) so_far.stand;
      classes = classes-push m h k strict formed so_far.classes;
      orphans = orphans-push h k no_spawn so_far.orphans;
      unpermitted = unpermitted-push h k no_permits so_far.unpermitted;
    })

-- a transaction in progress has no fate yet
no_fate : (s : Status) → is_under_way s ≡ true → fate_of s ≡ InProgress
no_fate status.NotBegun e = refl
no_fate status.InProgress e = refl
no_fate status.Committed e = absurd (true≢false (sym e))
no_fate status.Aborted e = absurd (true≢false (sym e))
no_fate status.Joined e = refl

fates-open : {A : Type 0} (h : List (Kept A)) (t : ℕ) → is_in_progress h t ≡ true → fates h t ≡ InProgress
fates-open h t on = no_fate (status_at h t) (sym (in_progress-status h t) ∙ on)

fate_begun : (b : Bool) (s : Status) → fate_of (if b then when_begun s else s) ≡ fate_of s
fate_begun true status.NotBegun = refl
fate_begun true status.InProgress = refl
fate_begun true status.Committed = refl
fate_begun true status.Aborted = refl
fate_begun true status.Joined = refl
fate_begun false s = refl

fate_committed : (b : Bool) (s : Status) → fate_of (if b then status.Committed else s) ≡ (if b then Committed else fate_of s)
fate_committed true s = refl
fate_committed false s = refl

fate_aborted : (b : Bool) (s : Status) → (b ≡ true → fate_of s ≡ InProgress) → fate_of (if b then when_aborted s else s) ≡ (if b then Aborted else fate_of s)
fate_aborted true status.NotBegun on = refl
fate_aborted true status.InProgress on = refl
fate_aborted true status.Committed on = let no = on refl in cc
fate_aborted true status.Aborted on = refl
fate_aborted true status.Joined on = refl
fate_aborted false s on = refl

-- no commit transfers operations to an heir
no_heir : {A : Type 0} (m : Parts A) (h : List (Kept A)) (t : ℕ) → parent_of h t ≡ None → heir m h t ≡ None
no_heir m h t none = of (has_class (λ k. has_heir k.at_commit) m h t)
  where
    of : (b : Bool) → (if b then parent_of h t else None) ≡ None
    of true = none
    of false = refl

-- an operation without conflicts commutes with those in progress of others
unconflicted : {A : Type 0} (m : Parts A) (h : List (Kept A)) (t : ℕ) (o : Operation) (f : ℕ → Fate) → o.invoker ≡ t → has_class is_strict_class m h t ≡ true → ((u v object : ℕ) → has_permitted h u v object ≡ false) → AllByRecursion (λ x. standing m h x ≡ stands_so f x) (operations h) → conflicting m h t o.object o.op ≡ []
    → list_all (λ x. (x.invoker == o.invoker) || is_free m x o) (filter (λ x. is_open (f x.invoker)) (operations h)) ≡ true
unconflicted {A} m h t o f of_t strict unpermitted stand none =
    (λ i. list_all (λ x. (x.invoker == of_t i) || not ((x.object == o.object) && sym (do_conflict-on m o.object x.op o.op) i)) waiting)
    ∙ none-against (λ x. x.invoker == t) (λ x. (x.object == o.object) && do_conflict m o.object x.op o.op) waiting
    (ap (filter (λ x. (x.object == o.object) && do_conflict m o.object x.op o.op)) (sym others) ∙ none)
  where
    waiting : List Operation
    waiting = filter (λ x. is_open (f x.invoker)) (operations h)

    no_permit : (u object : ℕ) → is_permitted h u t object ≡ false
    no_permit u object = unpermitted-counts h u t object (unpermitted u t object)

    not_exempt : (u object : ℕ) → is_exempt m h t object u ≡ false
    not_exempt u object = λ i. (of-strict (λ (k : Class A). exempts k.scope) false (λ k s. s.scope) (class_of m h t) strict i && list_any (λ a. a.0 == u) (ancestors h t)) || no_permit u object i

    and-true : (b : Bool) → (b && not false) ≡ b
    and-true true = refl
    and-true false = refl

    others : conflict_set m h t ≡ filter (λ x. not (x.invoker == t)) waiting
    others =
        filter-within (λ x. standing m h x ≡ stands_so f x) (λ x. is_of_others m h t x.object (standing m h x)) (λ x. is_open (f x.invoker) && not (x.invoker == t))
        (λ x so. ap (is_of_others m h t x.object) so ∙ ap (λ b. is_open (f x.invoker) && not (x.invoker == t) && not b) (not_exempt x.invoker x.object) ∙ and-true (is_open (f x.invoker) && not (x.invoker == t)))
        (operations h) stand
        ∙ filter-both (λ x. is_open (f x.invoker)) (λ x. not (x.invoker == t)) (operations h)

step-operate : {A : Type 0} (m : Parts A) (h : List (Kept A)) (ret : Option Ret) (t : TxnId) (ob : ObjId) (op : Op) → is_strict m ≡ true → IsFaultless m h (record { event = Operate t ob op; ret = ret })
    → IsSerialSoFar m h (fates h) → IsSerialSoFar m (h ++ (record { event = Operate t ob op; ret = ret }) ∷ []) (fates (h ++ (record { event = Operate t ob op; ret = ret }) ∷ []))
step-operate {A} m h ret t ob op strict fine so_far =
    subst (IsSerialSoFar m (h ++ k ∷ [])) (λ i u. ap fate_of (sym (status_at-push h k u)) i)
    (record {
      serial =
          subst (λ os. AreSerial m os (fates h) (commit_order (h ++ k ∷ []))) (sym (operations-push h k))
          (subst (AreSerial m (operations h ++ o ∷ []) (fates h)) (sym (order-push h k ∙ append-nil (commit_order h)))
          (serial-operate values_after returned_from (λ x. x.ret) (AreValues m) (values-step m) (λ x. x.invoker) (is_free m) (commute-values m) (first_values m) (operations h) (fates h) (commit_order h) o on
          (ap (λ os. returned_from (fold values_after (first_values m) os) o) (sym seen) ∙ due-replayed m h o ∙ returns-due m h ret t ob op fine.form_of_event fine.return)
          (unconflicted m h t.0 o (fates h) refl class so_far.unpermitted so_far.stand (conflicts-none m h t ob op class fine.conflict))
          so_far.serial));
      stand =
          stand-push m h k (fates h) (fates h) (λ x. stays_idle (fates h x.invoker) x.invoker (held_by x.invoker) refl) ((λ i. record { holder = t.0; fate = sym on i }), tt) so_far.stand;
      classes = classes-push m h k strict fine.form_of_event so_far.classes;
      orphans = orphans-push h k refl so_far.orphans;
      unpermitted = unpermitted-push h k (λ u v object. refl) so_far.unpermitted;
    })
  where
    k : Kept A
    k = record { event = Operate t ob op; ret = ret }

    o : Operation
    o = record { number = number_after h; place = number (at_end h (record { event = Operate t ob op; ret = ret })); invoker = t.0; object = ob.0; op = op; ret = ret }

    going : is_in_progress h t.0 ≡ true
    going = operates-open h t.0 fine.operates_in_progress

    on : fates h t.0 ≡ InProgress
    on = fates-open h t.0 going

    class : has_class is_strict_class m h t.0 ≡ true
    class = so_far.classes t.0 (and_parts (has_begun h t.0) (not (has_ended h t.0)) going).0

    seen : view_set m h ≡ filter (λ x. not (is_aborted (fates h x.invoker))) (operations h)
    seen = filter-within (λ x. standing m h x ≡ stands_so (fates h) x) (λ x. is_in_view (standing m h x)) (λ x. not (is_aborted (fates h x.invoker))) (λ x so. ap is_in_view so) (operations h) so_far.stand

step : {A : Type 0} (m : Parts A) (h : List (Kept A)) (e : Event A) (ret : Option Ret) → is_strict m ≡ true → IsFaultless m h (record { event = e; ret = ret })
    → IsSerialSoFar m h (fates h) → IsSerialSoFar m (h ++ (record { event = e; ret = ret }) ∷ []) (fates (h ++ (record { event = e; ret = ret }) ∷ []))
step {A} m h (Begin t class) ret strict fine so_far =
    let k : Kept A = record { event = Begin t class; ret = ret } in
    step-idle m h k strict fine.form_of_event refl refl (λ o v. refl) (λ u. ap fate_of (status_at-push h k u) ∙ fate_begun (t.0 == u) (status_at h u)) refl (λ u v object. refl) so_far
step m h (Spawn t c class) ret strict fine so_far = absurd (no-spawn m h t c class strict fine.form_of_event fine.allowed)
step m h (Split t u class ops) ret strict fine so_far = absurd (no-split m h t u class ops strict fine.form_of_event fine.allowed)
step m h (Join t u) ret strict fine so_far = absurd (no-join m h t u (so_far.classes t.0 (ends-begun h t.0 fine.ended_after_begun)) fine.allowed)
step m h (Delegate t u ops) ret strict fine so_far = absurd (no-delegation m h t u ops (so_far.classes t.0 (parties-begun h t u fine.parties_in_progress)) fine.allowed)
step {A} m h (Form kind j i) ret strict fine so_far =
    let k : Kept A = record { event = Form kind j i; ret = ret } in
    step-idle m h k strict fine.form_of_event refl refl (λ o v. refl) (λ u. ap fate_of (status_at-push h k u)) refl (λ u v object. refl) so_far
step m h (Operate t ob op) ret strict fine so_far = step-operate m h ret t ob op strict fine so_far
step m h (Permit t u ob) ret strict fine so_far = absurd (no-permit m h t u ob (so_far.classes t.0 (parties-begun h t u fine.parties_in_progress)) fine.allowed)
step {A} m h (Commit t) ret strict fine so_far =
    let k : Kept A = record { event = Commit t; ret = ret } in
    let on : fates h t.0 ≡ InProgress = fates-open h t.0 (λ i. ends-begun h t.0 fine.ended_after_begun i && not (ends-open h t.0 fine.ended_once i)) in
    step-ended m h k t.0 Committed strict fine.form_of_event on refl
    (λ o v. λ i. if eqb-turned t.0 v i then option_map_or (λ u. held_by u.0) (no_heir m h v (so_far.orphans v) i) (ended_by v Committed) else held_by v)
    (λ u. ap fate_of (status_at-push h k u) ∙ fate_committed (t.0 == u) (status_at h u) ∙ ap (λ b. if b then Committed else fates h u) (eqb-turned t.0 u))
    refl
    (λ u v object. refl)
    (subst (AreSerial m (operations h) (ended_so (fates h) t.0 Committed)) (sym (order-push h k))
    (serial-commit values_after returned_from (λ x. x.ret) (AreValues m) (values-step m) (λ x. x.invoker) (is_free m) (commute-values m) (first_values m) (values-first m) (operations h) (fates h) (commit_order h) t.0 on so_far.serial))
    so_far
step {A} m h (Abort t) ret strict fine so_far =
    let k : Kept A = record { event = Abort t; ret = ret } in
    let on : fates h t.0 ≡ InProgress = fates-open h t.0 (λ i. ends-begun h t.0 fine.ended_after_begun i && not (ends-open h t.0 fine.ended_once i)) in
    step-ended m h k t.0 Aborted strict fine.form_of_event on refl
    (λ o v. ap (λ b. if b then ended_by v Aborted else held_by v) (eqb-turned t.0 v))
    (λ u. ap fate_of (status_at-push h k u) ∙ fate_aborted (t.0 == u) (status_at h u) (λ is. ap (fates h) (sym (eqb-true t.0 u is)) ∙ on) ∙ ap (λ b. if b then Aborted else fates h u) (eqb-turned t.0 u))
    refl
    (λ u v object. refl)
    (subst (AreSerial m (operations h) (ended_so (fates h) t.0 Aborted)) (sym (order-push h k ∙ append-nil (commit_order h)))
    (serial-abort values_after returned_from (λ x. x.ret) (AreValues m) (values-step m) (λ x. x.invoker) (is_free m) (commute-values m) (first_values m) (values-first m) (operations h) (fates h) (commit_order h) t.0 on so_far.serial))
    so_far

-- item by item
grown : {A : Type 0} (m : Parts A) (front ks : List (Kept A)) → is_strict m ≡ true → flat_map (faults_at m) (places_after front ks) ≡ [] → IsSerialSoFar m front (fates front) → IsSerialSoFar m (front ++ ks) (fates (front ++ ks))
grown m front [] strict none so_far = subst (λ h. IsSerialSoFar m h (fates h)) (sym (append-nil front)) so_far
grown m front (k ∷ ks) strict none so_far =
    let both = none-both (faults_at m (at_end front k)) (flat_map (faults_at m) (places_after (front ++ k ∷ []) ks)) none in
    subst (λ h. IsSerialSoFar m h (fates h)) (append_assoc front (k ∷ []) ks)
    (grown m (front ++ k ∷ []) ks strict both.1 (step m front k.event k.ret strict (faultless-from m front k both.0) so_far))

serial-nothing : {A : Type 0} (m : Parts A) → IsSerialSoFar m [] (fates {A = A} [])
serial-nothing {A} m =
    record {
      serial = serial-none values_after returned_from (λ x. x.ret) (AreValues m) (values-step m) (λ x. x.invoker) (is_free m) (commute-values m) (first_values m) (fates {A = A} []);
      stand = tt;
      classes = λ t begun. absurd (true≢false (sym begun));
      orphans = λ t. refl;
      unpermitted = λ u t object. refl;
    }

pub serial-history : {A : Type 0} (m : Parts A) (h : List (Kept A)) → is_strict m ≡ true → faults_in_places m h ≡ [] → IsSerialSoFar m h (fates h)
serial-history m h strict none = grown m [] h strict none (serial-nothing m)

-- the groups by places
groups-places : {A : Type 0} (m : Parts A) (h : List (Kept A)) → IsSerialSoFar m h (fates h) → (order : List ℕ) → list_all (λ t. is_committed (fates h t)) order ≡ true → flat_map (group_of m h) order ≡ flat_map (λ t. filter (λ o. o.invoker == t) (operations h)) order
groups-places m h so_far [] all = refl
groups-places m h so_far (t ∷ order) all =
    let both = and_parts (is_committed (fates h t)) (list_all (λ u. is_committed (fates h u)) order) all in
    λ i. filter-within (λ o. standing m h o ≡ stands_so (fates h) o) (λ o. is_of_group t (standing m h o)) (λ o. o.invoker == t) (λ o so. ap (is_of_group t) so ∙ of o (o.invoker == t) refl both.0) (operations h) so_far.stand i
    ++ groups-places m h so_far order both.1 i
  where
    of : (o : Operation) (b : Bool) → (o.invoker == t) ≡ b → is_committed (fates h t) ≡ true → ((o.invoker == t) && is_committed (fates h o.invoker)) ≡ (o.invoker == t)
    of o true same is = (λ i. same i && is_committed (fates h (eqb-true o.invoker t same i))) ∙ is ∙ sym same
    of o false apart is = (λ i. apart i && is_committed (fates h o.invoker)) ∙ sym apart

-- the serial order by places
pub order-places : {A : Type 0} (m : Parts A) (h : List (Kept A)) → is_strict m ≡ true → faults_in_places m h ≡ [] → serial_order m h ≡ flat_map (λ t. filter (λ o. o.invoker == t) (operations h)) (commit_order h)
order-places m h strict none =
    let so_far = serial-history m h strict none in
    groups-places m h so_far (commit_order h) so_far.serial.ended

-- strict models are serial in the order of their commits: replaying the serial order from the initial values gives each
-- committed operation the return that it had
pub strict-serial : {A : Type 0} (m : Parts A) (h : List (Kept A)) → is_strict m ≡ true → faults_in_places m h ≡ [] → replayed m (serial_order m h) ≡ map (λ o. o.ret) (serial_order m h)
strict-serial {A} m h strict none =
    let so_far = serial-history m h strict none in
    let same = order-places m h strict none in
    ap (replayed m) same
    ∙ serial-returns values_after returned_from (λ x. x.ret) (AreValues m) (values-step m) (λ x. x.invoker) (is_free m) (commute-values m) (first_values m) (operations h) (fates h) (commit_order h) so_far.serial
    ∙ ap (map (λ (o : Operation). o.ret)) (sym same)
