-- A debugger whose machine takes an event at its place.
use Rattle.std.proofs.Common.{◌≡◌, ℕ, ◌+◌, ◌<◌, ◌≤◌, List, [], ◌∷◌, ◌++◌, length, take, filter, get_or, true, Option, refl, sym, ap, ◌∙◌, subst, arith}
use Rattle.std.proofs.lemmas.Bool.Decides.{nat_tests}
use Rattle.std.specs.Prelude.{All}
use Rattle.std.proofs.lemmas.List.{length-append, length-take-le, take_all, take-take}
use Rattle.std.proofs.lemmas.List.Elements.{All-filter, filter_passes}
use Rattle.acta_table.specs.declared.answer.Answer.TheVariants.{Admitted, Refused}
use Rattle.acta_table.specs.declared.answer.Rule.{Rule}
use Rattle.acta_table.specs.declared.event.Event.{Event}
use Rattle.acta_table.specs.declared.event.Kept.{Kept}
use Rattle.acta_table.specs.declared.event.Ret.{Ret}
use Rattle.acta_table.specs.declared.limits.TheConstants.{MOST_EVENTS}
use Rattle.acta_table.specs.declared.model.Parts.{Parts}
use Rattle.acta_machine.specs.Places.{FollowsPlaces}
use Rattle.acta_machine.specs.Table.{State, after, answer_to}
use Rattle.acta_debug.specs.declared.breaks.Break.{Break}
use Rattle.acta_debug.specs.Histories.{IsHistory, state_at}
use Rattle.acta_debug.specs.Moves.{behind, taken}
use Rattle.acta_debug.specs.Sessions.{Session}
use Rattle.acta_debug.specs.inside.Shown.{AreFronts, IsCurrent, IsFront, IsInside, has_kept_within, session_of}
use Rattle.acta_debug.proofs.Fronts.{front-on}
use Rattle.acta_debug.proofs.Replaying.{after-on, after-refused, fronts, history-on, with_kept}
use Rattle.acta_debug.proofs.Standing.{inside-at, shows-state, stands}

behind-more : {A : Type 0} (q : Session A) (t : State A) → q.at < length t.kept → behind q t ≡ record q { history = t.kept; at = length t.kept }
behind-more q t more = grind (arith, nat_tests)

behind-same : {A : Type 0} (q : Session A) (t : State A) → length t.kept ≡ q.at → behind q t ≡ q
behind-same q t same = grind (arith, nat_tests)

within-of : {A : Type 0} (n : ℕ) (t : State A) → has_kept_within n t ≡ true → length t.kept ≤ n
within-of n t short = grind (arith, nat_tests)

-- a prefix of at most n events is one of the first n events
front-short : {A : Type 0} (m : Parts A) (h : List (Kept A)) (n : ℕ) (t : State A) → n ≤ length h → IsFront m h t → length t.kept ≤ n → IsFront m (take n h) t
front-short m h n t within front few = record {
  model = front.model;
  kept = front.kept ∙ sym (take-take (length t.kept) n h few);
}

-- the machine s of a debugger has taken an event and is now t
module _ {A : Type 0} (s t : State A) (h : List (Kept A)) (at : ℕ) (bs : List Break) (e : Event A) (inside : IsInside s h at) (goes : t ≡ after s e) where
  by-state : taken (session_of s h at bs) e ≡ behind (session_of s h at bs) t
  by-state = ap (λ (x : State A). behind (session_of s h at bs) (after x e)) (sym (shows-state s h at inside)) ∙ ap (behind (session_of s h at bs)) (sym goes)

  size-before : length s.kept ≡ at
  size-before = ap (length {A = Kept A}) inside.kept ∙ length-take-le at h inside.within

  -- the event was refused
  module _ (rule : Rule) (by : Option ℕ) (refused : answer_to s e ≡ Refused rule by) where
    stays : t ≡ s
    stays = goes ∙ after-refused s e rule by refused

    pub refused-inside : (ts : List (State A)) (list : List (Kept A)) → list ≡ h → AreFronts s.model h ts → IsCurrent t list at ts
    refused-inside ts list same are =
        subst (λ (x : State A). IsCurrent x list at ts) (sym stays)
        (subst (λ (l : List (Kept A)). IsCurrent s l at ts) (sym same) (record { stands = inside; fronts = are }))

    pub refused-moves : (q : Session A) (list : List (Kept A)) → list ≡ h → session_of s h at bs ≡ q → session_of t list at bs ≡ taken q e
    refused-moves q list same view =
        (λ i. session_of (stays i) (same i) at bs)
        ∙ sym (behind-same (session_of s h at bs) t (ap (λ (x : State A). length x.kept) stays ∙ size-before))
        ∙ sym by-state ∙ ap (λ (x : Session A). taken x e) view

  -- the event was admitted
  module _ (place : ℕ) (ret : Option Ret) (admitted : answer_to s e ≡ Admitted place ret) (list : List (Kept A)) (longer : list ≡ take at h ++ record { event = e; ret = ret } ∷ []) where
    abbrev k : Kept A
    k = record { event = e; ret = ret }

    now : t ≡ with_kept s.model list
    now =
        goes ∙ after-on s k place admitted ∙ (λ i. with_kept s.model (inside.kept i ++ k ∷ [])) ∙ (λ i. with_kept s.model (sym longer i))

    size : length t.kept ≡ at + 1
    size =
        ap (λ (x : State A). length x.kept) now ∙ ap (length {A = Kept A}) longer ∙ length-append (take at h) (k ∷ [])
        ∙ (let front = length-take-le at h inside.within in omega (arith, front))

    pub admitted-inside : (n : ℕ) → n ≡ length t.kept → n ≤ MOST_EVENTS → FollowsPlaces t → IsInside t list n
    admitted-inside n counted few follows =
        let whole : IsHistory s.model list =
        subst (λ (l : List (Kept A)). IsHistory s.model l) (sym longer)
        (history-on s.model (take at h) k place (fronts s.model h inside.whole at) (ap (λ (x : State A). answer_to x e) (sym (stands s h at inside)) ∙ admitted)) in
        let long : length t.kept ≡ length list = ap (λ (x : State A). length x.kept) now in
        inside-at s.model list n t whole (omega (arith, counted, long)) (omega (arith, counted, long, few))
        (now ∙ ap (with_kept s.model) (sym (take_all n list (omega (arith, counted, long))))) follows

    pub admitted-fronts : (ts left : List (State A)) → left ≡ filter (has_kept_within at) ts → AreFronts s.model h ts → AreFronts t.model list left
    admitted-fronts ts left kept are =
        let short : All (λ x. has_kept_within at x ≡ true) (filter (has_kept_within at) ts) = filter_passes (has_kept_within at) ts in
        let old : All (IsFront s.model h) (filter (has_kept_within at) ts) = All-filter (has_kept_within at) (IsFront s.model h) ts are.each in
        let each : All (IsFront s.model list) (filter (has_kept_within at) ts) = λ n d below. subst (λ (l : List (Kept A)). IsFront s.model l (get_or (filter (has_kept_within at) ts) n d)) (sym longer)
        (front-on s.model (take at h) (k ∷ []) (get_or (filter (has_kept_within at) ts) n d)
        (front-short s.model h at (get_or (filter (has_kept_within at) ts) n d) inside.within (old n d below) (within-of at (get_or (filter (has_kept_within at) ts) n d) (short n d below)))) in
        subst (λ (xs : List (State A)). AreFronts t.model list xs) (sym kept)
        (subst (λ (m : Parts A). AreFronts m list (filter (has_kept_within at) ts)) (sym (ap (λ (x : State A). x.model) now)) (record { each = each }))

    pub admitted-moves : (q : Session A) (n : ℕ) → n ≡ length t.kept → session_of s h at bs ≡ q → session_of t list n bs ≡ taken q e
    admitted-moves q n counted view =
        (λ i. record { model = (now i).model; history = (sym (ap (λ (x : State A). x.kept) now)) i; at = counted i; breaks = bs })
        ∙ sym (behind-more (session_of s h at bs) t (omega (arith, size)))
        ∙ sym by-state ∙ ap (λ (x : Session A). taken x e) view
