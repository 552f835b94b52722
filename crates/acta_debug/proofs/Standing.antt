-- The place of a debugger, and its moves.
use Rattle.std.proofs.Common.{◌≡◌, ℕ, ◌+◌, ◌-◌, ◌<◌, ◌≤◌, List, length, take, get_or, refl, sym, ap, ◌∙◌, subst, arith}
use Rattle.std.specs.Prelude.{Ok, Err, Result}
use Rattle.std.proofs.lemmas.Bool.Decides.{nat_tests}
use Rattle.acta_table.specs.declared.event.Kept.{Kept}
use Rattle.acta_table.specs.declared.limits.TheConstants.{MOST_EVENTS}
use Rattle.acta_table.specs.declared.model.Parts.{Parts}
use Rattle.acta_machine.specs.Places.{FollowsPlaces}
use Rattle.acta_machine.specs.Table.{State, after}
use Rattle.acta_debug.specs.declared.breaks.Break.{Break}
use Rattle.acta_debug.specs.declared.errors.MoveError.TheVariants.{AtEnd}
use Rattle.acta_debug.specs.Histories.{IsHistory, state_at}
use Rattle.acta_debug.specs.Moves.{gone_to, stepped, stepped_back}
use Rattle.acta_debug.specs.Sessions.{Session, moved_to}
use Rattle.acta_debug.specs.inside.Shown.{IsInside, session_of}
use Rattle.acta_debug.proofs.Replaying.{fronts, kept-next, with_kept}

-- the machine that has kept the first n items is at place n
pub inside-at : {A : Type 0} (m : Parts A) (h : List (Kept A)) (n : ℕ) (t : State A) → IsHistory m h → n ≤ length h → length h ≤ MOST_EVENTS → t ≡ with_kept m (take n h) → FollowsPlaces t → IsInside t h n
inside-at {A} m h n t whole within few is follows =
    let there : IsInside (with_kept m (take n h)) h n = record { whole = whole; kept = refl; within = within; few = few; follows = subst FollowsPlaces is follows } in
    subst (λ (x : State A). IsInside x h n) (sym is) there

-- and the debugger with that machine has moved there
pub moved-at : {A : Type 0} (s t : State A) (h : List (Kept A)) (at n : ℕ) (bs : List Break) → t.model ≡ s.model → session_of t h n bs ≡ moved_to (session_of s h at bs) n
moved-at s t h at n bs model = λ i. record { model = model i; history = h; at = n; breaks = bs }

-- the machine of a debugger has kept the items before its place
pub stands : {A : Type 0} (s : State A) (h : List (Kept A)) (at : ℕ) → IsInside s h at → s ≡ with_kept s.model (take at h)
stands s h at inside = λ i. with_kept s.model (inside.kept i)

pub shows-state : {A : Type 0} (s : State A) (h : List (Kept A)) (at : ℕ) → IsInside s h at → s ≡ state_at s.model h at
shows-state s h at inside = stands s h at inside ∙ sym (fronts s.model h inside.whole at)

pub stepped-ahead : {A : Type 0} (s : Session A) → s.at < length s.history → stepped s ≡ Ok (moved_to s (s.at + 1))
stepped-ahead s lt = grind (arith, nat_tests)

pub stepped-end : {A : Type 0} (s : Session A) → length s.history ≤ s.at → stepped s ≡ Err AtEnd
stepped-end s end = grind (arith, nat_tests)

pub stepped-behind : {A : Type 0} (s : Session A) (at : ℕ) → at ≡ s.at → ¬ (at ≡ 0) → stepped_back s ≡ Ok (moved_to s (at - 1))
stepped-behind s at is start = grind (arith, nat_tests)

pub gone-within : {A : Type 0} (s : Session A) (n : ℕ) → n ≤ length s.history → gone_to s n ≡ Ok (moved_to s n)
gone-within s n within = grind (arith, nat_tests)

pub same-ok : {X E : Type 0} (r : Result X E) (x y : X) → r ≡ Ok x → r ≡ Ok y → y ≡ x
same-ok r x y one other = cc

pub not-both : {X E : Type 0} {r : Result X E} (x : X) (e : E) → r ≡ Ok x → r ≡ Err e → ⊥
not-both x e ok err = cc

-- a debugger whose machine s is now t
module _ {A : Type 0} (s t : State A) (h list : List (Kept A)) (at : ℕ) (bs : List Break) (inside : IsInside s h at) (same : list ≡ h) (follows : FollowsPlaces t) where
  -- if the machine has taken the next item, the debugger has moved one event forward
  module _ (k : Kept A) (ahead : at < length list) (item : k ≡ get_or list at k) (goes : t ≡ after s (get_or list at k).event) where
    below : at < length h
    below = let size = ap (length {A = Kept A}) same in omega (arith, ahead, size)

    step-kept : t ≡ with_kept s.model (take (at + 1) h)
    step-kept =
        kept-next s.model h inside.whole at k s t (stands s h at inside) below (item ∙ ap (λ (x : List (Kept A)). get_or x at k) same)
        (goes ∙ ap (λ (x : Kept A). after s x.event) (sym item))

    pub step-inside : IsInside t h (at + 1)
    step-inside = let room = below in inside-at s.model h (at + 1) t inside.whole (omega (arith, room)) inside.few step-kept follows

    pub step-moves : (q : Session A) → session_of s h at bs ≡ q → stepped q ≡ Ok (session_of t h (at + 1) bs)
    step-moves q view =
        ap (stepped {A = A}) (sym view) ∙ stepped-ahead (session_of s h at bs) below
        ∙ ap (λ (x : Session A). Ok x) (sym (moved-at s t h at (at + 1) bs (ap (λ (x : State A). x.model) step-kept)))
