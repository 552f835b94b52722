-- Machines that have kept prefixes of a history.
use Rattle.std.proofs.Common.{◌≡◌, ℕ, ◌+◌, ◌-◌, ◌<◌, ◌≤◌, List, [], ◌∷◌, ◌++◌, get_or, set, length, take, refl, sym, ap, ◌∙◌, subst, arith}
use Rattle.std.specs.Prelude.{slice_range}
use Rattle.std.proofs.Math.Seq.{take-add}
use Rattle.std.proofs.lemmas.List.{length-take, length-take-le, map-append, take-append-le, take_all, take_min}
use Rattle.std.proofs.lemmas.List.Elements.{All-append, All-cons, All-set}
use Rattle.acta_table.specs.declared.event.Event.{Event}
use Rattle.acta_table.specs.declared.event.Kept.{Kept}
use Rattle.acta_table.specs.declared.model.Parts.{Parts}
use Rattle.acta_machine.specs.Table.{State, after, after_all, fresh, run_state}
use Rattle.acta_debug.specs.Histories.{IsHistory, events_in}
use Rattle.acta_debug.specs.inside.Shown.{AreFronts, IsFront, IsInside}
use Rattle.acta_debug.proofs.Replaying.{after-gained, after_all-append, fronts, with_kept}

-- a machine has kept the whole of its own history
pub whole-front : {A : Type 0} (t : State A) → IsFront t.model t.kept t
whole-front t = record { model = refl; kept = sym (take_all (length t.kept) t.kept (omega arith)) }

pub fresh-front : {A : Type 0} (m : Parts A) (h : List (Kept A)) → IsFront m h (fresh m)
fresh-front m h = record { model = refl; kept = refl }

pub taken-front : {A : Type 0} (m : Parts A) (h : List (Kept A)) (n : ℕ) (t : State A) → t ≡ with_kept m (take n h) → IsFront m h t
taken-front {A} m h n t is =
    subst (λ (x : State A). IsFront m h x) (sym is) (record { model = refl; kept = sym (ap (λ j. take j h) (length-take n h) ∙ take_min n h) })

-- no prefix is longer
pub front-within : {A : Type 0} (m : Parts A) (h : List (Kept A)) (t : State A) → IsFront m h t → length t.kept ≤ length h
front-within {A} m h t front = let size = ap (length {A = Kept A}) front.kept in omega (arith, size, length-take (length t.kept) h)

-- a prefix stays one when the history grows
pub front-on : {A : Type 0} (m : Parts A) (h more : List (Kept A)) (t : State A) → IsFront m h t → IsFront m (h ++ more) t
front-on m h more t front = record {
  model = front.model;
  kept = front.kept ∙ sym (take-append-le (length t.kept) h more (front-within m h t front));
}

pub fronts-more : {A : Type 0} (m : Parts A) (h : List (Kept A)) (ts : List (State A)) (t : State A) → AreFronts m h ts → IsFront m h t → AreFronts m h (ts ++ t ∷ [])
fronts-more m h ts t all one = record { each = All-append (IsFront m h) ts (t ∷ []) all.each (All-cons (IsFront m h) t [] one (λ k d lt. absurd (omega (arith, lt)))) }

pub no-fronts : {A : Type 0} (m : Parts A) (h : List (Kept A)) → AreFronts m h []
no-fronts m h = record { each = λ k d lt. absurd (omega (arith, lt)) }

pub front-at : {A : Type 0} (m : Parts A) (h : List (Kept A)) (ts : List (State A)) (k : ℕ) (d t : State A) → AreFronts m h ts → k < length ts → t ≡ get_or ts k d → IsFront m h t
front-at {A} m h ts k d t all below is = subst (λ (x : State A). IsFront m h x) (sym is) (all.each k d below)

-- the machine of a debugger has kept a prefix
pub inside-front : {A : Type 0} (s t : State A) (h : List (Kept A)) (at : ℕ) → IsInside s h at → t ≡ s → IsFront s.model h t
inside-front {A} s t h at inside is =
    let long : length s.kept ≡ at = ap (length {A = Kept A}) inside.kept ∙ length-take-le at h inside.within in
    subst (λ (x : State A). IsFront s.model h x) (sym is) (record { model = refl; kept = inside.kept ∙ ap (λ n. take n h) (sym long) })

-- one of the machines may be replaced
pub fronts-set : {A : Type 0} (m : Parts A) (h : List (Kept A)) (ts : List (State A)) (k : ℕ) (t : State A) → AreFronts m h ts → IsFront m h t → AreFronts m h (set ts k t)
fronts-set m h ts k t all one = record { each = All-set (IsFront m h) ts k t one all.each }

-- no event changes the model
pub after-model : {A : Type 0} (s t : State A) (e : Event A) → t ≡ after s e → t.model ≡ s.model
after-model {A} s t e goes = ap (λ (x : State A). x.model) goes ∙ (after-gained s e).model

-- prefixes of what the machine s has kept are prefixes of what it has kept after an event
pub fronts-after : {A : Type 0} (s t : State A) (e : Event A) (ts : List (State A)) → t ≡ after s e → AreFronts s.model s.kept ts → AreFronts t.model t.kept ts
fronts-after {A} s t e ts goes all =
    let on = after-gained s e in
    let model = after-model s t e goes in
    let kept : t.kept ≡ s.kept ++ on.more = ap (λ (x : State A). x.kept) goes ∙ on.kept in
    record {
      each = λ k d lt. subst (λ (m : Parts A). IsFront m t.kept (get_or ts k d)) (sym model)
          (subst (λ (h : List (Kept A)). IsFront s.model h (get_or ts k d)) (sym kept) (front-on s.model s.kept on.more (get_or ts k d) (all.each k d lt)));
    }

-- a machine that has kept a prefix, and takes the following items up to the place n, is at n
pub front-goes : {A : Type 0} (m : Parts A) (h : List (Kept A)) → IsHistory m h → (s t : State A) (k n : ℕ) → IsFront m h s → k ≡ length s.kept → k ≤ n → t ≡ after_all s (events_in (slice_range h k n)) → t ≡ with_kept m (take n h)
front-goes {A} m h whole s t k n front long up goes =
    let there : s ≡ run_state m (events_in (take k h)) = (λ i. with_kept (front.model i) (front.kept i)) ∙ ap (λ n. with_kept m (take n h)) (sym long) ∙ sym (fronts m h whole k) in
    let seam : take k h ++ slice_range h k n ≡ take n h = sym (take-add k (n - k) h) ∙ (let back : k + (n - k) ≡ n = omega (arith, up) in ap (λ j. take j h) back) in
    goes ∙ ap (λ (x : State A). after_all x (events_in (slice_range h k n))) there
    ∙ sym (after_all-append (fresh m) (events_in (take k h)) (events_in (slice_range h k n)))
    ∙ ap (run_state m) (sym (map-append (λ (x : Kept A). x.event) (take k h) (slice_range h k n)) ∙ ap events_in seam)
    ∙ fronts m h whole n
