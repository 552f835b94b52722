-- Replays: a history and its prefixes are kept whole, and a list stops being a history at the first item that is not
-- admitted with its return.
use Rattle.std.proofs.Common.{◌≡◌, ℕ, suc, ◌+◌, ◌-◌, subst, ◌<◌, ◌≤◌, List, [], ◌∷◌, ◌++◌, length, take, drop, get_or, Option, Some, None, refl, sym, ap, ◌∙◌, append_assoc, append-nil, arith, length-append}
use Rattle.std.proofs.lemmas.List.{append_cancel_left, map-append, take-append-drop, take_more, length-take-le}
use Rattle.acta_table.specs.declared.answer.Answer.{Answer}
use Rattle.acta_table.specs.declared.answer.Answer.TheVariants.{Admitted, Refused}
use Rattle.acta_table.specs.declared.answer.Rule.{Rule}
use Rattle.acta_table.specs.declared.answer.Refusal.{Refusal}
use Rattle.acta_table.specs.declared.event.Event.{Event}
use Rattle.acta_table.specs.declared.event.Kept.{Kept}
use Rattle.acta_table.specs.declared.model.Parts.{Parts}
use Rattle.acta_machine.specs.Changes.{summary_of}
use Rattle.acta_machine.specs.Rules.{lowest_broken}
use Rattle.acta_machine.specs.Table.{State, fresh, kept_as, answered, moved_on, answer_to, after, after_all, run_state}
use Rattle.acta_debug.specs.Histories.{IsFirstOther, IsHistory, events_in, state_at}

-- a machine whose history is this list
abbrev pub with_kept : {A : Type 0} → Parts A → List (Kept A) → State A
with_kept m ks = record { model = m; kept = ks }

pub after_all-append : {A : Type 0} (s : State A) (xs ys : List (Event A)) → after_all s (xs ++ ys) ≡ after_all (after_all s xs) ys
after_all-append s [] ys = refl
after_all-append s (x ∷ xs) ys = after_all-append (after s x) xs ys

-- one item more is one event more
pub replay-more : {A : Type 0} (m : Parts A) (ks : List (Kept A)) (k : Kept A) → run_state m (events_in (ks ++ k ∷ [])) ≡ after (run_state m (events_in ks)) k.event
replay-more {A} m ks k =
    ap (run_state m) (map-append (λ (x : Kept A). x.event) ks (k ∷ [])) ∙ after_all-append (fresh m) (events_in ks) (k.event ∷ [])

-- events add at most one item each to a history
pub record Gained {A : Type 0} (s t : State A) (most : ℕ) : Type 0 where
  pub more : List (Kept A)
  pub model : t.model ≡ s.model
  pub kept : t.kept ≡ s.kept ++ more
  pub few : length more ≤ most

moved-gained : {A : Type 0} (s : State A) (e : Event A) (r : Option Refusal) → Gained s (moved_on s e r) 1
moved-gained s e None = record { more = kept_as s e ∷ []; model = refl; kept = refl; few = omega arith }
moved-gained s e (Some r) = record { more = []; model = refl; kept = sym (append-nil s.kept); few = omega arith }

pub after-gained : {A : Type 0} (s : State A) (e : Event A) → Gained s (after s e) 1
unfolding after
after-gained s e = moved-gained s e (lowest_broken s.model (summary_of s.model s.kept) e)

all-gained : {A : Type 0} (s : State A) (es : List (Event A)) → Gained s (after_all s es) (length es)
all-gained s [] = record { more = []; model = refl; kept = sym (append-nil s.kept); few = omega arith }
all-gained s (e ∷ es) =
    let one = after-gained s e in
    let rest = all-gained (after s e) es in
    record {
      more = one.more ++ rest.more;
      model = rest.model ∙ one.model;
      kept = rest.kept ∙ (λ i. one.kept i ++ rest.more) ∙ append_assoc s.kept one.more rest.more;
      few = let a = one.few in let b = rest.few in omega (arith, a, b, length-append one.more rest.more);
    }

length-events_in : {A : Type 0} (ks : List (Kept A)) → length (events_in ks) ≡ length ks
length-events_in [] = refl
length-events_in (k ∷ ks) = ap suc (length-events_in ks)

same-front : {X : Type 0} (xs ys us vs : List X) → length xs ≡ length us → xs ++ ys ≡ us ++ vs → xs ≡ us
same-front [] ys [] vs n e = refl
same-front [] ys (u ∷ us) vs n e = absurd (omega (arith, n))
same-front (x ∷ xs) ys [] vs n e = absurd (omega (arith, n))
same-front {X} (x ∷ xs) ys (u ∷ us) vs n e =
    let head : x ≡ u = cc in
    let tail : xs ++ ys ≡ us ++ vs = cc in
    let rest = same-front xs ys us vs (omega (arith, n)) tail in
    λ i. head i ∷ rest i

-- every prefix of a history is one
pub fronts : {A : Type 0} (m : Parts A) (h : List (Kept A)) → IsHistory m h → (n : ℕ) → IsHistory m (take n h)
fronts {A} m h whole n =
    let front = take n h in
    let rest = drop n h in
    let split = take-append-drop n h in
    let reached = run_state m (events_in front) in
    let first = all-gained (fresh m) (events_in front) in
    let then = all-gained reached (events_in rest) in
    let on : after_all reached (events_in rest) ≡ run_state m (events_in h) =
    sym (after_all-append (fresh m) (events_in front) (events_in rest)) ∙ ap (run_state m) (sym (map-append (λ (x : Kept A). x.event) front rest) ∙ ap events_in split) in
    let both : reached.kept ++ then.more ≡ front ++ rest =
    sym then.kept ∙ ap (λ (s : State A). s.kept) (on ∙ whole) ∙ sym split in
    let size = ap (length {A = Kept A}) both in
    let one = ap (length {A = Kept A}) first.kept in
    let few = first.few in
    let more = then.few in
    let same : length reached.kept ≡ length front =
    omega (arith, size, one, few, more, length-append reached.kept then.more, length-append front rest, length-events_in front, length-events_in rest) in
    let front-is = same-front reached.kept then.more front rest same both in
    λ i. with_kept (first.model i) (front-is i)

-- events do not change the model
pub runs-model : {A : Type 0} (m : Parts A) (es : List (Event A)) → (run_state m es).model ≡ m
runs-model m es = (all-gained (fresh m) es).model

-- every list that a machine has kept is a history
own-moved : {A : Type 0} (m : Parts A) (s : State A) (e : Event A) (r : Option Refusal) → run_state m (events_in s.kept) ≡ s → after s e ≡ moved_on s e r
    → run_state m (events_in (moved_on s e r).kept) ≡ moved_on s e r
own-moved {A} m s e None own next = replay-more m s.kept (kept_as s e) ∙ ap (λ (t : State A). after t e) own ∙ next
own-moved m s e (Some r) own next = own

own-after : {A : Type 0} (m : Parts A) (s : State A) (e : Event A) → run_state m (events_in s.kept) ≡ s → run_state m (events_in (after s e).kept) ≡ after s e
unfolding after
own-after m s e own = own-moved m s e (lowest_broken s.model (summary_of s.model s.kept) e) own refl

own-all : {A : Type 0} (m : Parts A) (s : State A) (es : List (Event A)) → run_state m (events_in s.kept) ≡ s → run_state m (events_in (after_all s es).kept) ≡ after_all s es
own-all m s [] own = own
own-all m s (e ∷ es) own = own-all m (after s e) es (own-after m s e own)

pub runs : {A : Type 0} (m : Parts A) (es : List (Event A)) → IsHistory m (run_state m es).kept
runs m es =
    let s = run_state m es in
    let own = own-all m (fresh m) es refl in
    let model = runs-model m es in
    own ∙ (λ i. with_kept (model i) s.kept)

-- the answer that an item requires
abbrev pub due : {A : Type 0} → List (Kept A) → Kept A → Answer
due front k = Admitted (length front + 1) k.ret

moved-on : {A : Type 0} (s : State A) (k : Kept A) (n : ℕ) (r : Option Refusal) → answered s k.event r ≡ Admitted n k.ret → moved_on s k.event r ≡ with_kept s.model (s.kept ++ k ∷ [])
moved-on {A} s k n None e =
    let same : (kept_as s k.event).ret ≡ k.ret = cc in
    λ i. with_kept s.model (s.kept ++ record { event = k.event; ret = same i } ∷ [])
moved-on s k n (Some r) e = absurd cc

pub after-on : {A : Type 0} (s : State A) (k : Kept A) (n : ℕ) → answer_to s k.event ≡ Admitted n k.ret → after s k.event ≡ with_kept s.model (s.kept ++ k ∷ [])
unfolding after answer_to
after-on s k n e = moved-on s k n (lowest_broken s.model (summary_of s.model s.kept) k.event) e

moved-nowhere : {A : Type 0} (s : State A) (e : Event A) (rule : Rule) (by : Option ℕ) (r : Option Refusal) → answered s e r ≡ Refused rule by → moved_on s e r ≡ s
moved-nowhere s e rule by None h = absurd cc
moved-nowhere s e rule by (Some r) h = refl

-- a refused event changes nothing
pub after-refused : {A : Type 0} (s : State A) (e : Event A) (rule : Rule) (by : Option ℕ) → answer_to s e ≡ Refused rule by → after s e ≡ s
unfolding after answer_to
after-refused s e rule by h = moved-nowhere s e rule by (lowest_broken s.model (summary_of s.model s.kept) e) h

-- an item that is admitted with its return makes a longer history
pub history-on : {A : Type 0} (m : Parts A) (front : List (Kept A)) (k : Kept A) (n : ℕ) → IsHistory m front → answer_to (with_kept m front) k.event ≡ Admitted n k.ret
    → IsHistory m (front ++ k ∷ [])
history-on {A} m front k n so_far admitted =
    replay-more m front k ∙ ap (λ (t : State A). after t k.event) so_far ∙ after-on (with_kept m front) k n admitted

moved-off : {A : Type 0} (m : Parts A) (front : List (Kept A)) (k : Kept A) (r : Option Refusal) → moved_on (with_kept m front) k.event r ≡ with_kept m (front ++ k ∷ [])
    → answered (with_kept m front) k.event r ≡ due front k
moved-off {A} m front k None e =
    let kept = ap (λ (t : State A). t.kept) e in
    let tail = append_cancel_left front (kept_as (with_kept m front) k.event ∷ []) (k ∷ []) kept in
    let item : kept_as (with_kept m front) k.event ≡ k = cc in
    ap (λ (x : Kept A). Admitted (length front + 1) x.ret) item
moved-off {A} m front k (Some r) e =
    let size = ap (λ (t : State A). length t.kept) e in
    absurd (omega (arith, size, length-append front (k ∷ [])))

after-off : {A : Type 0} (m : Parts A) (front : List (Kept A)) (k : Kept A) → after (with_kept m front) k.event ≡ with_kept m (front ++ k ∷ []) → answer_to (with_kept m front) k.event ≡ due front k
unfolding after answer_to
after-off m front k e = moved-off m front k (lowest_broken m (summary_of m front) k.event) e

-- and a longer history admits its last item with its return
pub history-off : {A : Type 0} (m : Parts A) (front : List (Kept A)) (k : Kept A) → IsHistory m front → IsHistory m (front ++ k ∷ []) → answer_to (with_kept m front) k.event ≡ due front k
history-off {A} m front k so_far longer =
    after-off m front k (sym (replay-more m front k ∙ ap (λ (t : State A). after t k.event) so_far) ∙ longer)

-- a place with another answer than required is the first place that does not fit
pub first-other : {A : Type 0} (m : Parts A) (h : List (Kept A)) (i : ℕ) (k : Kept A) → i < length h → take (i + 1) h ≡ take i h ++ k ∷ [] → IsHistory m (take i h)
    → ¬ (answer_to (with_kept m (take i h)) k.event ≡ Admitted (i + 1) k.ret) → IsFirstOther m h (i + 1)
first-other {A} m h i k below next so_far wrong = record {
  within = omega arith;
  before = let same : (i + 1) - 1 ≡ i = omega arith in subst (λ n. IsHistory m (take n h)) (sym same) so_far;
  other = λ longer. wrong (history-off m (take i h) k so_far (subst (λ (x : List (Kept A)). IsHistory m x) next longer) ∙ ap (λ (n : ℕ). Admitted (n + 1) k.ret) (length-take-le i h (omega arith)));
}

-- the prefix that is one item longer
pub taken : {X : Type 0} (xs : List X) (i : ℕ) (x : X) → i < length xs → x ≡ get_or xs i x → take (i + 1) xs ≡ take i xs ++ x ∷ []
taken {X} xs i x below is = take_more xs i x below ∙ ap (λ (y : X). take i xs ++ y ∷ []) (sym is)

-- the machine has kept these items, which are a history
pub record HasKept {A : Type 0} (m : Parts A) (front : List (Kept A)) (s : State A) : Type 0 where
  pub kept : s ≡ with_kept m front
  pub so_far : IsHistory m front

-- an item that is admitted with its return is kept
pub kept-one : {A : Type 0} (m : Parts A) (h : List (Kept A)) (i : ℕ) (k : Kept A) (s t : State A) → HasKept m (take i h) s → take (i + 1) h ≡ take i h ++ k ∷ []
    → (n : ℕ) → answer_to s k.event ≡ Admitted n k.ret → t ≡ after s k.event → HasKept m (take (i + 1) h) t
kept-one {A} m h i k s t has next n admitted goes =
    let there : answer_to (with_kept m (take i h)) k.event ≡ Admitted n k.ret = ap (λ (x : State A). answer_to x k.event) (sym has.kept) ∙ admitted in
    record {
      kept = goes ∙ ap (λ (x : State A). after x k.event) has.kept ∙ after-on (with_kept m (take i h)) k n there ∙ (λ j. with_kept m (sym next j));
      so_far = subst (λ (x : List (Kept A)). IsHistory m x) (sym next) (history-on m (take i h) k n has.so_far there);
    }

-- after any item the machine is one place further
pub state-next : {A : Type 0} (m : Parts A) (h : List (Kept A)) (i : ℕ) (k : Kept A) (s t : State A) → HasKept m (take i h) s → take (i + 1) h ≡ take i h ++ k ∷ [] → t ≡ after s k.event
    → t ≡ state_at m h (i + 1)
state-next {A} m h i k s t has next goes =
    goes ∙ ap (λ (x : State A). after x k.event) (has.kept ∙ sym has.so_far) ∙ sym (replay-more m (take i h) k)
    ∙ ap (λ (x : List (Kept A)). run_state m (events_in x)) (sym next)

-- in a history every item is kept
pub kept-next : {A : Type 0} (m : Parts A) (h : List (Kept A)) → IsHistory m h → (i : ℕ) (k : Kept A) (s t : State A) → s ≡ with_kept m (take i h) → i < length h → k ≡ get_or h i k
    → t ≡ after s k.event → t ≡ with_kept m (take (i + 1) h)
kept-next {A} m h whole i k s t has below item goes =
    goes ∙ ap (λ (x : State A). after x k.event) (has ∙ sym (fronts m h whole i)) ∙ sym (replay-more m (take i h) k)
    ∙ ap (λ (x : List (Kept A)). run_state m (events_in x)) (sym (taken h i k below item)) ∙ fronts m h whole (i + 1)

history-along : {A : Type 0} {m n : Parts A} {h j : List (Kept A)} → m ≡ n → h ≡ j → IsHistory m h → IsHistory n j
history-along {A} {m} {n} {h} {j} model list whole = sym (λ i. run_state (model i) (events_in (list i))) ∙ whole ∙ (λ i. with_kept (model i) (list i))

-- a history has no place that does not fit
pub no-other : {A : Type 0} {m n : Parts A} {h j : List (Kept A)} (place : ℕ) → m ≡ n → h ≡ j → IsFirstOther m h place → IsHistory n j → ⊥
no-other {A} {m} {n} {h} {j} place model list first whole = first.other (fronts m h (history-along (sym model) (sym list) whole) place)
