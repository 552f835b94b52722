-- A run stops at the first later place at which a break holds.
use Rattle.std.proofs.Common.{◌≡◌, ℕ, zero, suc, ◌+◌, ◌-◌, ◌<◌, ◌≤◌, List, length, take, get_or, Option, Some, None, refl, sym, ap, subst, ◌∙◌, arith, inl, inr}
use Rattle.std.specs.Prelude.{false, slice_get}
use Rattle.std.specs.List.{range_with_len}
use Rattle.std.specs.Option.{option_map_or}
use Rattle.std.proofs.lemmas.Bool.{cases_lt}
use Rattle.std.proofs.lemmas.Option.{slice_get-get_or}
use Rattle.acta_table.specs.Numbered.{first_number}
use Rattle.acta_table.specs.declared.event.Kept.{Kept}
use Rattle.acta_machine.specs.Places.{FollowsPlaces}
use Rattle.acta_machine.specs.Table.{State, after}
use Rattle.acta_debug.specs.declared.breaks.Break.{Break}
use Rattle.acta_debug.specs.declared.breaks.Stop.{Stop}
use Rattle.acta_debug.specs.declared.breaks.Stop.TheVariants.{Broke, Finished}
use Rattle.acta_debug.specs.Breaks.{break_at, holds_of}
use Rattle.acta_debug.specs.Histories.{IsHistory}
use Rattle.acta_debug.specs.Sessions.{Session}
use Rattle.acta_debug.specs.Stops.{HasNoneUntil, IsStop, stop_among, stop_of}
use Rattle.acta_debug.specs.inside.Shown.{IsInside, session_of}
use Rattle.acta_debug.proofs.Replaying.{fronts, kept-next, with_kept}
use Rattle.acta_debug.proofs.Standing.{inside-at}

stops-among : {A : Type 0} (s : Session A) (a l : ℕ) → s.at < a → a + l ≡ length s.history + 1 → HasNoneUntil s a → IsStop s (stop_among s (range_with_len a l))
stops-among s a zero ahead whole none = λ p lt below. none p lt (omega (arith, whole, below))
stops-among s a (suc l) ahead whole none =
    of_break (λ here. stops-among s (a + 1) l (omega (arith, ahead)) (omega (arith, whole)) (further here)) (break_at s a) refl
  where
    further : break_at s a ≡ None → HasNoneUntil s (a + 1)
    further here p lt below =
        elim (cases_lt p a) [
          | inl before ↦ none p lt before
          | inr from ↦ let same : p ≡ a = omega (arith, from, below) in rw same here
        ]

    of_break : (break_at s a ≡ None → IsStop s (stop_among s (range_with_len (a + 1) l))) → (o : Option ℕ) → break_at s a ≡ o → IsStop s (option_map_or (λ b. Broke b a) o (stop_among s (range_with_len (a + 1) l)))
    of_break rest None here = rest here
    of_break rest (Some b) here = record { ahead = ahead; within = omega (arith, whole); here = here; first = none }

pub stops-first : {A : Type 0} (s : Session A) → s.at ≤ length s.history → IsStop s (stop_of s)
stops-first s within = stops-among s (s.at + 1) (length s.history - s.at) (omega arith) (omega (arith, within)) (λ p lt below. absurd (omega (arith, lt, below)))

-- the break at the place just reached, computed from the machine
pub break-reached : {A : Type 0} (s : Session A) (i : ℕ) (k : Kept A) (t : State A) → IsHistory s.model s.history → i < length s.history → k ≡ get_or s.history i k
    → t ≡ with_kept s.model (take (i + 1) s.history) → break_at s (i + 1) ≡ first_number (holds_of t k.event) s.breaks
break-reached {A} s i k t whole below item is =
    let here : slice_get s.history (i + 1 - 1) ≡ Some k = let back : i + 1 - 1 ≡ i = omega arith in ap (slice_get s.history) back ∙ slice_get-get_or s.history i k below ∙ ap (λ (x : Kept A). Some x) (sym item) in
    let state = fronts s.model s.history whole (i + 1) ∙ sym is in
    λ j. first_number (λ b. option_map_or (λ (x : Kept A). holds_of (state j) x.event b) (here j) false) s.breaks

-- the places after the current one: the next, and the others
pub stop-next : {A : Type 0} (s : Session A) (i last : ℕ) → i < last
    → stop_among s (range_with_len (i + 1) (last - i)) ≡ option_map_or (λ b. Broke b (i + 1)) (break_at s (i + 1)) (stop_among s (range_with_len (i + 1 + 1) (last - (i + 1))))
stop-next s i last lt = let more : last - i ≡ suc (last - (i + 1)) = omega (arith, lt) in ap (λ n. stop_among s (range_with_len (i + 1) n)) more

-- a turn of a run: machine r, which has kept the first i items, takes the next one, k, and becomes t; o is the break
-- that holds there
module _ {A : Type 0} (s r t : State A) (h : List (Kept A)) (at : ℕ) (bs : List Break) (inside : IsInside s h at) (i : ℕ) (k : Kept A) (o : Option ℕ)
    (kept : r ≡ with_kept s.model (take i h)) (below : i < length h) (item : k ≡ get_or h i k) (goes : t ≡ after r k.event) (follows : FollowsPlaces t)
    (reported : stop_of (session_of s h at bs) ≡ stop_among (session_of s h at bs) (range_with_len (i + 1) (length h - i)))
    (found : o ≡ first_number (holds_of t k.event) bs) where
  pub turn-kept : t ≡ with_kept s.model (take (i + 1) h)
  turn-kept = kept-next s.model h inside.whole i k r t kept below item goes

  pub turn-inside : IsInside t h (i + 1)
  turn-inside = inside-at s.model h (i + 1) t inside.whole (omega (arith, below)) inside.few turn-kept follows

  pub turn-model : t.model ≡ s.model
  turn-model = ap (λ (x : State A). x.model) turn-kept

  stop-by : (p : Option ℕ) → o ≡ p
      → stop_of (session_of s h at bs) ≡ option_map_or (λ b. Broke b (i + 1)) p (stop_among (session_of s h at bs) (range_with_len (i + 1 + 1) (length h - (i + 1))))
  stop-by p is =
      let session = session_of s h at bs in
      reported ∙ stop-next session i (length h) below
      ∙ ap (λ (x : Option ℕ). option_map_or (λ b. Broke b (i + 1)) x (stop_among session (range_with_len (i + 1 + 1) (length h - (i + 1)))))
      (break-reached session i k t inside.whole below item turn-kept ∙ sym found ∙ is)

  pub stops-here : (b : ℕ) → o ≡ Some b → Broke b (i + 1) ≡ stop_of (session_of s h at bs)
  stops-here b is = sym (stop-by (Some b) is)

  pub goes-on : o ≡ None → stop_of (session_of s h at bs) ≡ stop_among (session_of s h at bs) (range_with_len (i + 1 + 1) (length h - (i + 1)))
  goes-on is = stop-by None is

pub stops-end : {A : Type 0} (s : Session A) (i : ℕ) → length s.history ≤ i → stop_of s ≡ stop_among s (range_with_len (i + 1) (length s.history - i)) → stop_of s ≡ Finished
stops-end s i end reported = let none : length s.history - i ≡ 0 = omega (arith, end) in reported ∙ ap (λ n. stop_among s (range_with_len (i + 1) n)) none

-- a stop that is found for a copy of the machine
pub stop-is : {A : Type 0} (s copied : State A) (h list : List (Kept A)) (at : ℕ) (bs breaks : List Break) (q : Session A) (stop : Stop) → IsInside s h at → session_of s h at bs ≡ q
    → copied ≡ s → list ≡ h → breaks ≡ bs → stop ≡ stop_of (session_of copied list at breaks) → IsStop q stop
stop-is {A} s copied h list at bs breaks q stop inside view one two three is =
    let session = session_of s h at bs in
    let found : stop ≡ stop_of session = is ∙ (λ i. stop_of (session_of (one i) (two i) at (three i))) in
    let first : IsStop session stop = subst (λ (x : Stop). IsStop session x) (sym found) (stops-first session inside.within) in
    subst (λ (x : Session A). IsStop x stop) view first
