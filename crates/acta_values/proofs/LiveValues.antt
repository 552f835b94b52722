-- Current values with one more operation, and with one undone.
use Rattle.std.proofs.Common.{◌≡◌, ℕ, zero, suc, ◌+◌, ◌<◌, ◌≤◌, ◌==◌, Bool, true, false, not, cond, List, [], ◌∷◌, ◌++◌, length, get_or, take, drop, filter_map, fold, Option, Some, None, refl, sym, ap, ◌∙◌, subst, arith}
use Rattle.std.specs.Prelude.{ℤ, ◌+ℤ◌, ◌-ℤ◌, FitsSigned, is_some, IfSome}
use Rattle.std.specs.Int.{w64}
use Rattle.std.specs.List.{AllByRecursion, Contains, cons_option}
use Rattle.std.specs.Ordering.{int_eq}
use Rattle.std.proofs.lemmas.Int.{ints}
use Rattle.std.proofs.lemmas.List.Elements.{filter_map-append}
use Rattle.acta_table.specs.declared.limits.TheConstants.{MOST_EVENTS}
use Rattle.acta_table.specs.declared.model.Kind.{Kind}
use Rattle.acta_table.specs.declared.model.Kind.TheVariants.{Register as register_kind, Counter as counter_kind, Elements as elements_kind}
use Rattle.acta_table.specs.declared.event.Op.{Op}
use Rattle.acta_table.specs.declared.event.Op.TheVariants.{Write, Insert, Remove}
use Rattle.acta_objects.specs.declared.state.ObjectState.TheVariants.{Register as register_state, Counter as counter_state, Elements as elements_state}
use Rattle.acta_objects.specs.Objects.{first_state, state_after, register_step, counter_step, set_step}
use Rattle.acta_objects.specs.Limits.{AmountFits, FirstFits}
use Rattle.acta_objects.proofs.Near.{IsNear}
use Rattle.acta_values.specs.declared.live_value.LiveValue.{LiveValue}
use Rattle.acta_values.specs.declared.live_value.LiveValue.TheVariants.{Register, Counter, Elements}
use Rattle.acta_values.specs.declared.trail.Numbered.{Numbered}
use Rattle.acta_values.specs.LiveSets.{Marks, trail_at}
use Rattle.acta_values.specs.LiveValues.{ops_of, write_by, written, mark_by, marked, amount, Shows, IsAfter, state_of, IsInOrder}
use Rattle.acta_values.specs.Trails.{without, AreBelow, IsAscending, last_or}
use Rattle.acta_values.proofs.CounterStates.{sum_after, sum_push, sum_among, sum_near, near_fits, near_less}
use Rattle.acta_values.proofs.SetStates.{elements_after}
use Rattle.acta_values.proofs.Trails.{ascending_push, ascending_without, removed_at}

-- ---- what is picked out of the operations, each with its number

-- what is picked has the operation's number
abbrev Keeps : {T : Type 0} → (Numbered Op → Option (Numbered T)) → Type 0
Keeps f = (o : Numbered Op) → IfSome (f o) (λ c. c.number ≡ o.number)

keeps_write : (n : ℕ) (op : Op) → IfSome (write_by n op) (λ c. c.number ≡ n)
keeps_write n (Write v) = refl
keeps_write n _ = tt

keeps_written : Keeps written
keeps_written o = keeps_write o.number o.item

keeps_mark : (x : ℤ) (n : ℕ) (op : Op) → IfSome (mark_by x n op) (λ c. c.number ≡ n)
keeps_mark x n (Insert y) = at (int_eq y x)
  where
    at : (b : Bool) → IfSome {T = Numbered Bool} (cond b (Some (record { number = n; item = true })) None) (λ c. c.number ≡ n)
    at true = refl
    at false = tt
keeps_mark x n (Remove y) = at (int_eq y x)
  where
    at : (b : Bool) → IfSome {T = Numbered Bool} (cond b (Some (record { number = n; item = false })) None) (λ c. c.number ≡ n)
    at true = refl
    at false = tt
keeps_mark x n _ = tt

keeps_marked : (x : ℤ) → Keeps (marked x)
keeps_marked x o = keeps_mark x o.number o.item

below_picked : {T : Type 0} (f : Numbered Op → Option (Numbered T)) → Keeps f → (n : ℕ) (ops : List (Numbered Op)) → AreBelow n ops → AreBelow n (filter_map f ops)
below_picked f keeps n [] below = tt
below_picked f keeps n (o ∷ ops) below = at (f o) (keeps o) (below_picked f keeps n ops below.1)
  where
    at : (r : Option (Numbered _)) → IfSome r (λ c. c.number ≡ o.number) → AreBelow n (filter_map f ops) → AreBelow n (cons_option r (filter_map f ops))
    at None same later = later
    at (Some c) same later = (subst (λ m. m < n) (sym same) below.0, later)

picked_without : {T : Type 0} (f : Numbered Op → Option (Numbered T)) → Keeps f → (n : ℕ) (ops : List (Numbered Op)) → filter_map f (without n ops) ≡ without n (filter_map f ops)
picked_without f keeps n [] = refl
picked_without f keeps n (o ∷ ops) = at (o.number == n) refl (f o) refl (keeps o) (picked_without f keeps n ops)
  where
    at : (b : Bool) → (o.number == n) ≡ b → (r : Option (Numbered _)) → f o ≡ r → IfSome r (λ c. c.number ≡ o.number)
        → filter_map f (without n ops) ≡ without n (filter_map f ops)
        → filter_map f (cond (not b) (o ∷ without n ops) (without n ops)) ≡ without n (cons_option r (filter_map f ops))
    at true e None is same later = later
    at true e (Some c) is same later =
        later ∙ sym (ap (λ t. cond (not t) (c ∷ without n (filter_map f ops)) (without n (filter_map f ops))) (ap (λ m. m == n) same ∙ e))
    at false e None is same later = ap (λ r. cons_option r (filter_map f (without n ops))) is ∙ later
    at false e (Some c) is same later =
        ap (λ r. cons_option r (filter_map f (without n ops))) is
        ∙ ap (λ (cs : List (Numbered _)). c ∷ cs) later
        ∙ sym (ap (λ t. cond (not t) (c ∷ without n (filter_map f ops)) (without n (filter_map f ops))) (ap (λ m. m == n) same ∙ e))

-- ---- one of them, and the others

split_at : (ops : List (Numbered Op)) (k : ℕ) (o : Numbered Op) → k < length ops → get_or ops k o ≡ o → take k ops ++ o ∷ drop (suc k) ops ≡ ops
split_at [] k o within is = absurd (omega arith)
split_at (p ∷ ops) zero o within is = ap (λ q. q ∷ ops) (sym is)
split_at (p ∷ ops) (suc k) o within is = ap (λ (xs : List (Numbered Op)). p ∷ xs) (split_at ops k o (omega arith) is)

others_at : (ops : List (Numbered Op)) (k : ℕ) (o : Numbered Op) → IsAscending ops → k < length ops → get_or ops k o ≡ o → take k ops ++ drop (suc k) ops ≡ without o.number ops
others_at ops k o ascending within is = removed_at o.number ops k o ascending within (ap (λ p. p.number) is)

-- where one is not picked, it makes no difference
picked_same : {T : Type 0} (f : Numbered Op → Option (Numbered T)) (ops : List (Numbered Op)) (o : Numbered Op) → IsAscending ops → Contains ops o → f o ≡ None → filter_map f (without o.number ops) ≡ filter_map f ops
picked_same f ops o ascending there none =
    let k = there.0 in
    ap (filter_map f) (sym (others_at ops k o ascending there.1 there.2))
    ∙ filter_map-append f (take k ops) (drop (suc k) ops)
    ∙ ap (λ r. filter_map f (take k ops) ++ cons_option r (filter_map f (drop (suc k) ops))) (sym none)
    ∙ sym (filter_map-append f (take k ops) (o ∷ drop (suc k) ops))
    ∙ ap (filter_map f) (split_at ops k o there.1 there.2)

sum_without : (v : ℤ) (ops : List (Numbered Op)) (o : Numbered Op) → IsAscending ops → Contains ops o → sum_after v ops ≡ sum_after v (without o.number ops) +ℤ amount o.item
sum_without v ops o ascending there =
    let k = there.0 in
    ap (sum_after v) (sym (split_at ops k o there.1 there.2))
    ∙ sum_among v (take k ops) o (drop (suc k) ops)
    ∙ ap (λ (xs : List (Numbered Op)). sum_after v xs +ℤ amount o.item) (others_at ops k o ascending there.1 there.2)

-- ---- what holds of operations with one more, and with one less

fits_push : (ops : List (Numbered Op)) (o : Numbered Op) → AllByRecursion (λ p. AmountFits p.item) ops → AmountFits o.item → AllByRecursion (λ p. AmountFits p.item) (ops ++ o ∷ [])
fits_push [] o fits fit = (fit, tt)
fits_push (p ∷ ops) o fits fit = (fits.0, fits_push ops o fits.1 fit)

fits_without : (n : ℕ) (ops : List (Numbered Op)) → AllByRecursion (λ p. AmountFits p.item) ops → AllByRecursion (λ p. AmountFits p.item) (without n ops)
fits_without n [] fits = tt
fits_without n (o ∷ ops) fits = at (not (o.number == n)) (fits_without n ops fits.1)
  where
    at : (b : Bool) → AllByRecursion (λ p. AmountFits p.item) (without n ops) → AllByRecursion (λ p. AmountFits p.item) (cond b (o ∷ without n ops) (without n ops))
    at true later = (fits.0, later)
    at false later = later

length_push : (ops : List (Numbered Op)) (o : Numbered Op) → length (ops ++ o ∷ []) ≡ length ops + 1
length_push [] o = omega arith
length_push (p ∷ ops) o = let later = length_push ops o in omega (arith, later)

length_without : (n : ℕ) (ops : List (Numbered Op)) → length (without n ops) ≤ length ops
length_without n [] = omega arith
length_without n (o ∷ ops) = at (not (o.number == n)) (length_without n ops)
  where
    at : (b : Bool) → length (without n ops) ≤ length ops → length (cond b (o ∷ without n ops) (without n ops)) ≤ length (o ∷ ops)
    at true later = omega (arith, later)
    at false later = omega (arith, later)

after_added : {A : Type 0} (kind : Kind) (ops : List (Numbered Op)) (o : Numbered Op) (old new : LiveValue A) → IsAfter kind ops old → AreBelow o.number ops → length ops < MOST_EVENTS → AmountFits o.item → Shows kind (ops ++ o ∷ []) new → IsAfter kind (ops ++ o ∷ []) new
after_added kind ops o old new after below room fit shows = record {
  ascending = ascending_push ops o after.ascending below;
  few = let long = length_push ops o in omega (arith, long, room);
  first_fits = after.first_fits;
  fits = fits_push ops o after.fits fit;
  shows = shows;
}

after_taken : {A : Type 0} (kind : Kind) (ops : List (Numbered Op)) (n : ℕ) (old new : LiveValue A) → IsAfter kind ops old → Shows kind (without n ops) new → IsAfter kind (without n ops) new
after_taken kind ops n old new after shows = record {
  ascending = ascending_without n ops after.ascending;
  few = let long = length_without n ops in omega (arith, long, after.few);
  first_fits = after.first_fits;
  fits = fits_without n ops after.fits;
  shows = shows;
}

-- ---- what is kept, in each kind, with one more

write_shown : (A : Type 0) (kind : Kind) (ops : List (Numbered Op)) (n : ℕ) (op : Op) (first : ℤ) (old new : List (Numbered ℤ)) → Shows {A = A} kind ops (Register first old) → new ≡ old ++ cons_option (write_by n op) [] → Shows {A = A} kind (ops ++ (record { number = n; item = op }) ∷ []) (Register first new)
write_shown A (register_kind v) ops n op first old new shows is =
    (shows.0, is ∙ ap (λ (ws : List (Numbered ℤ)). ws ++ cons_option (write_by n op) []) shows.1 ∙ sym (filter_map-append written ops ((record { number = n; item = op }) ∷ [])))
write_shown A (counter_kind v) ops n op first old new shows is = absurd shows
write_shown A elements_kind ops n op first old new shows is = absurd shows

amount_shown : (A : Type 0) (kind : Kind) (ops : List (Numbered Op)) (n : ℕ) (op : Op) (old new : ℤ) → Shows {A = A} kind ops (Counter old) → new ≡ counter_step old op → Shows {A = A} kind (ops ++ (record { number = n; item = op }) ∷ []) (Counter new)
amount_shown A (register_kind v) ops n op old new shows is = absurd shows
amount_shown A (counter_kind v) ops n op old new shows is =
    is ∙ ap (λ z. counter_step z op) shows ∙ sym (sum_push v ops (record { number = n; item = op }))
amount_shown A elements_kind ops n op old new shows is = absurd shows

mark_shown : (A : Type 0) (kind : Kind) (ops : List (Numbered Op)) (n : ℕ) (op : Op) (old new : Marks) → Shows {A = A} kind ops (Elements old) → ((x : ℤ) → trail_at new x ≡ trail_at old x ++ cons_option (mark_by x n op) []) → Shows {A = A} kind (ops ++ (record { number = n; item = op }) ∷ []) (Elements new)
mark_shown A (register_kind v) ops n op old new shows is = absurd shows
mark_shown A (counter_kind v) ops n op old new shows is = absurd shows
mark_shown A elements_kind ops n op old new shows is = λ x.
    is x ∙ ap (λ (ms : List (Numbered Bool)). ms ++ cons_option (mark_by x n op) []) (shows x) ∙ sym (filter_map-append (marked x) ops ((record { number = n; item = op }) ∷ []))

-- ---- with one less

write_taken : (A : Type 0) (kind : Kind) (ops : List (Numbered Op)) (n : ℕ) (first : ℤ) (old new : List (Numbered ℤ)) → Shows {A = A} kind ops (Register first old) → new ≡ without n old → Shows {A = A} kind (without n ops) (Register first new)
write_taken A (register_kind v) ops n first old new shows is =
    (shows.0, is ∙ ap (λ (ws : List (Numbered ℤ)). without n ws) shows.1 ∙ sym (picked_without written keeps_written n ops))
write_taken A (counter_kind v) ops n first old new shows is = absurd shows
write_taken A elements_kind ops n first old new shows is = absurd shows

amount_taken : (A : Type 0) (kind : Kind) (ops : List (Numbered Op)) (o : Numbered Op) (old new : ℤ) → IsAscending ops → Contains ops o → Shows {A = A} kind ops (Counter old) → new ≡ old -ℤ amount o.item → Shows {A = A} kind (without o.number ops) (Counter new)
amount_taken A (register_kind v) ops o old new ascending there shows is = absurd shows
amount_taken A (counter_kind v) ops o old new ascending there shows is =
    let whole = sum_without v ops o ascending there in omega (arith, ints, is, shows, whole)
amount_taken A elements_kind ops o old new ascending there shows is = absurd shows

mark_taken : (A : Type 0) (kind : Kind) (ops : List (Numbered Op)) (o : Numbered Op) (old new : Marks) → IsAscending ops → Contains ops o → Shows {A = A} kind ops (Elements old)
    → ((x : ℤ) → trail_at new x ≡ cond (is_some (marked x o)) (without o.number (trail_at old x)) (trail_at old x)) → Shows {A = A} kind (without o.number ops) (Elements new)
mark_taken A (register_kind v) ops o old new ascending there shows is = absurd shows
mark_taken A (counter_kind v) ops o old new ascending there shows is = absurd shows
mark_taken A elements_kind ops o old new ascending there shows is = λ x. is x ∙ at x (marked x o) refl
  where
    at : (x : ℤ) (r : Option (Numbered Bool)) → marked x o ≡ r → cond (is_some r) (without o.number (trail_at old x)) (trail_at old x) ≡ filter_map (marked x) (without o.number ops)
    at x None e = shows x ∙ sym (picked_same (marked x) ops o ascending there e)
    at x (Some m) e = ap (λ (ms : List (Numbered Bool)). without o.number ms) (shows x) ∙ sym (picked_without (marked x) (keeps_marked x) o.number ops)

-- ---- the answers' lemmas: a value that is of this kind, which is told by an equation

pub write_added : {A : Type 0} (kind : Kind) (ops : List (Numbered Op)) (n : ℕ) (op : Op) (value : LiveValue A) (first : ℤ) (old new : List (Numbered ℤ)) → value ≡ Register first old → IsAfter kind ops value → AreBelow n ops → length ops < MOST_EVENTS → AmountFits op → new ≡ old ++ cons_option (write_by n op) [] → IsAfter {A = A} kind (ops ++ (record { number = n; item = op }) ∷ []) (Register first new)
write_added kind ops n op value first old new of after below room fit is =
    after_added kind ops (record { number = n; item = op }) value (Register first new) after below room fit
    (write_shown _ kind ops n op first old new (subst (λ (w : LiveValue _). Shows kind ops w) of after.shows) is)

pub amount_added : {A : Type 0} (kind : Kind) (ops : List (Numbered Op)) (n : ℕ) (op : Op) (value : LiveValue A) (old new : ℤ) → value ≡ Counter old → IsAfter kind ops value → AreBelow n ops → length ops < MOST_EVENTS → AmountFits op → new ≡ counter_step old op → IsAfter {A = A} kind (ops ++ (record { number = n; item = op }) ∷ []) (Counter new)
amount_added kind ops n op value old new of after below room fit is =
    after_added kind ops (record { number = n; item = op }) value (Counter new) after below room fit
    (amount_shown _ kind ops n op old new (subst (λ (w : LiveValue _). Shows kind ops w) of after.shows) is)

pub mark_added : {A : Type 0} (kind : Kind) (ops : List (Numbered Op)) (n : ℕ) (op : Op) (value : LiveValue A) (old new : Marks) → value ≡ Elements old → IsAfter kind ops value → AreBelow n ops → length ops < MOST_EVENTS → AmountFits op → ((x : ℤ) → trail_at new x ≡ trail_at old x ++ cons_option (mark_by x n op) []) → IsAfter {A = A} kind (ops ++ (record { number = n; item = op }) ∷ []) (Elements new)
mark_added kind ops n op value old new of after below room fit is =
    after_added kind ops (record { number = n; item = op }) value (Elements new) after below room fit
    (mark_shown _ kind ops n op old new (subst (λ (w : LiveValue _). Shows kind ops w) of after.shows) is)

pub write_undone : {A : Type 0} (kind : Kind) (ops : List (Numbered Op)) (n : ℕ) (value : LiveValue A) (first : ℤ) (old new : List (Numbered ℤ)) → value ≡ Register first old → IsAfter kind ops value → new ≡ without n old → IsAfter {A = A} kind (without n ops) (Register first new)
write_undone kind ops n value first old new of after is =
    after_taken kind ops n value (Register first new) after
    (write_taken _ kind ops n first old new (subst (λ (w : LiveValue _). Shows kind ops w) of after.shows) is)

pub amount_undone : {A : Type 0} (kind : Kind) (ops : List (Numbered Op)) (n : ℕ) (op : Op) (value : LiveValue A) (old new : ℤ) → value ≡ Counter old → IsAfter kind ops value → Contains ops (record { number = n; item = op }) → new ≡ old -ℤ amount op → IsAfter {A = A} kind (without n ops) (Counter new)
amount_undone kind ops n op value old new of after there is =
    after_taken kind ops n value (Counter new) after
    (amount_taken _ kind ops (record { number = n; item = op }) old new after.ascending there (subst (λ (w : LiveValue _). Shows kind ops w) of after.shows) is)

pub mark_undone : {A : Type 0} (kind : Kind) (ops : List (Numbered Op)) (n : ℕ) (op : Op) (value : LiveValue A) (old new : Marks) → value ≡ Elements old → IsAfter kind ops value → Contains ops (record { number = n; item = op }) → ((x : ℤ) → trail_at new x ≡ cond (is_some (mark_by x n op)) (without n (trail_at old x)) (trail_at old x)) → IsAfter {A = A} kind (without n ops) (Elements new)
mark_undone kind ops n op value old new of after there is =
    after_taken kind ops n value (Elements new) after
    (mark_taken _ kind ops (record { number = n; item = op }) old new after.ascending there (subst (λ (w : LiveValue _). Shows kind ops w) of after.shows) is)

-- ---- what the calls inside require

below_writes : (A : Type 0) (kind : Kind) (ops : List (Numbered Op)) (n : ℕ) (first : ℤ) (writes : List (Numbered ℤ)) → AreBelow n ops → Shows {A = A} kind ops (Register first writes) → AreBelow n writes
below_writes A (register_kind v) ops n first writes below shows = subst (λ (ws : List (Numbered ℤ)). AreBelow n ws) (sym shows.1) (below_picked written keeps_written n ops below)
below_writes A (counter_kind v) ops n first writes below shows = absurd shows
below_writes A elements_kind ops n first writes below shows = absurd shows

pub writes_below : {A : Type 0} (kind : Kind) (ops : List (Numbered Op)) (n : ℕ) (value : LiveValue A) (first : ℤ) (writes : List (Numbered ℤ)) → value ≡ Register first writes → IsAfter kind ops value → AreBelow n ops → AreBelow n writes
writes_below kind ops n value first writes of after below =
    below_writes _ kind ops n first writes below (subst (λ (w : LiveValue _). Shows kind ops w) of after.shows)

below_marks : (A : Type 0) (kind : Kind) (ops : List (Numbered Op)) (n : ℕ) (marks : Marks) → AreBelow n ops → Shows {A = A} kind ops (Elements marks) → (x : ℤ) → AreBelow n (trail_at marks x)
below_marks A (register_kind v) ops n marks below shows = absurd shows
below_marks A (counter_kind v) ops n marks below shows = absurd shows
below_marks A elements_kind ops n marks below shows = λ x. subst (λ (ms : List (Numbered Bool)). AreBelow n ms) (sym (shows x)) (below_picked (marked x) (keeps_marked x) n ops below)

pub marks_below : {A : Type 0} (kind : Kind) (ops : List (Numbered Op)) (n : ℕ) (value : LiveValue A) (marks : Marks) → value ≡ Elements marks → IsAfter kind ops value → AreBelow n ops → (x : ℤ) → AreBelow n (trail_at marks x)
marks_below kind ops n value marks of after below =
    below_marks _ kind ops n marks below (subst (λ (w : LiveValue _). Shows kind ops w) of after.shows)

near_sum : (A : Type 0) (kind : Kind) (ops : List (Numbered Op)) (sum : ℤ) → FirstFits kind → AllByRecursion (λ p. AmountFits p.item) ops → Shows {A = A} kind ops (Counter sum) → IsNear (length ops + 1) sum
near_sum A (register_kind v) ops sum first fits shows = absurd shows
near_sum A (counter_kind v) ops sum first fits shows = subst (λ z. IsNear (length ops + 1) z) (sym shows) (sum_near v ops first fits)
near_sum A elements_kind ops sum first fits shows = absurd shows

pub sum_is_near : {A : Type 0} (kind : Kind) (ops : List (Numbered Op)) (value : LiveValue A) (sum : ℤ) → value ≡ Counter sum → IsAfter kind ops value → IsNear (length ops + 1) sum
sum_is_near kind ops value sum of after =
    near_sum _ kind ops sum after.first_fits after.fits (subst (λ (w : LiveValue _). Shows kind ops w) of after.shows)

-- ---- the value

last_written : (n : ℕ) (op : Op) (v : ℤ) (rest : List (Numbered ℤ)) → last_or (register_step v op) rest ≡ last_or v (cons_option (write_by n op) rest)
last_written n (Write w) v rest = refl
last_written n _ v rest = refl

register_state_after : (A : Type 0) (v : ℤ) (ops : List (Numbered Op)) → state_after {A = A} (register_state v) (ops_of ops) ≡ register_state (last_or v (filter_map written ops))
register_state_after A v [] = refl
register_state_after A v (o ∷ ops) =
    register_state_after A (register_step v o.item) ops
    ∙ ap (λ z. register_state z) (last_written o.number o.item v (filter_map written ops))

counter_state_after : (A : Type 0) (v : ℤ) (ops : List (Numbered Op)) → state_after {A = A} (counter_state v) (ops_of ops) ≡ counter_state (sum_after v ops)
counter_state_after A v [] = refl
counter_state_after A v (o ∷ ops) = counter_state_after A (counter_step v o.item) ops

set_state_after : (A : Type 0) (xs : List ℤ) (ops : List (Numbered Op)) → state_after {A = A} (elements_state xs) (ops_of ops) ≡ elements_state (fold set_step xs (ops_of ops))
set_state_after A xs [] = refl
set_state_after A xs (o ∷ ops) = set_state_after A (set_step xs o.item) ops

shown_state : {A : Type 0} (kind : Kind) (ops : List (Numbered Op)) (value : LiveValue A) → IsInOrder value → Shows kind ops value → state_of value ≡ state_after (first_state kind) (ops_of ops)
shown_state {A = A} (register_kind v) ops (Register first writes) ordered shows =
    (λ i. register_state (last_or (shows.0 i) (shows.1 i))) ∙ sym (register_state_after A v ops)
shown_state {A = A} (counter_kind v) ops (Counter sum) ordered shows = ap (λ z. counter_state z) shows ∙ sym (counter_state_after A v ops)
shown_state {A = A} elements_kind ops (Elements marks) ordered shows =
    ap (λ xs. elements_state xs) (elements_after marks ops ordered shows) ∙ sym (set_state_after A [] ops)
shown_state _ ops _ ordered shows = absurd shows

pub state_is : {A : Type 0} (kind : Kind) (ops : List (Numbered Op)) (value : LiveValue A) → IsInOrder value → IsAfter kind ops value → state_of value ≡ state_after (first_state kind) (ops_of ops)
state_is kind ops value ordered after = shown_state kind ops value ordered after.shows

-- an amount may be taken off
pub amount_off_fits : {A : Type 0} (kind : Kind) (ops : List (Numbered Op)) (op : Op) (value : LiveValue A) (sum : ℤ) → value ≡ Counter sum → IsAfter kind ops value → AmountFits op → FitsSigned w64 (sum -ℤ amount op)
amount_off_fits kind ops op value sum of after fit =
    near_fits _ _ (omega (arith, after.few)) (near_less (length ops + 1) sum op (sum_is_near kind ops value sum of after) fit)
