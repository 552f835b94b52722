-- Classes, ancestors and heirs by the table are those by places.
use Rattle.std.proofs.Common.{◌≡◌, ℕ, suc, ◌+◌, Bool, true, false, ◌&&◌, ◌==◌, List, [], ◌∷◌, length, Option, Some, None, refl, sym, ap, ◌∙◌, arith, ◌||◌}
use Rattle.std.specs.Prelude.{option_map, option_and_then, if◌then◌else◌}
use Rattle.std.specs.List.{list_any}
use Rattle.std.specs.Option.{option_map_or}
use Rattle.acta_table.specs.declared.event.TxnId.{TxnId}
use Rattle.acta_table.specs.declared.event.Kept.{Kept}
use Rattle.acta_table.specs.declared.event.Event.{Event}
use Rattle.acta_table.specs.declared.event.Event.TheVariants.{Begin, Spawn, Split, Join, Delegate, Form, Operate, Commit, Abort, Permit}
use Rattle.acta_table.specs.declared.answer.Status.TheVariants.{Committed}
use Rattle.acta_table.specs.declared.model.Class.{Class}
use Rattle.acta_table.specs.declared.model.Parts.{Parts}
use Rattle.acta_table.specs.Ancestors.{ancestors_from}
use Rattle.acta_table.specs.Classes.{class_at, exempts, has_heir}
use Rattle.acta_axioms.specs.History.{ancestors}
use Rattle.acta_axioms.specs.History as by_places
use Rattle.acta_axioms.specs.Operations.{heir, is_exempt}
use Rattle.acta_sets.specs.Operations.{is_among}
use Rattle.acta_machine.specs.Summary.{Summary, nothing_yet, stood, terminated, permit_given, entered, linked, given, inherited, operated, fated, counted}
use Rattle.acta_machine.specs.Changes.{settled, effect, summary_from, summary_of}
use Rattle.acta_machine.specs.Families.{class_of, has_class, ancestors_of, exempt, heir_of}
use Rattle.acta_machine.specs.Places.{ShowsPlaces}

through : {X Y Z : Type 0} (f : Y → Option Z) (g : X → Y) (o : Option X) → option_and_then f (option_map g o) ≡ option_and_then (λ x. f (g x)) o
through f g None = refl
through f g (Some x) = refl

-- classes that pass a test
pub has_class-places : {A : Type 0} (test : Class A → Bool) (m : Parts A) (h : List (Kept A)) (s : Summary) → ShowsPlaces m h s → (t : ℕ) → by_places.has_class test m h t ≡ has_class test m s t
has_class-places test m h s shows t =
    sym (ap (λ k. option_map_or test k false) (sym (through (class_at m) (λ c. c.0) (s.class t)) ∙ ap (option_and_then (class_at m)) (shows.class t)))

-- the class of t
pub class_of-places : {A : Type 0} (m : Parts A) (h : List (Kept A)) (s : Summary) → ShowsPlaces m h s → (t : ℕ) → class_of m s t ≡ by_places.class_of m h t
class_of-places m h s shows t = sym (through (class_at m) (λ c. c.0) (s.class t)) ∙ ap (option_and_then (class_at m)) (shows.class t)

-- the heirs
pub heir-places : {A : Type 0} (m : Parts A) (h : List (Kept A)) (s : Summary) → ShowsPlaces m h s → (t : ℕ) → heir_of m s t ≡ heir m h t
heir-places m h s shows t =
    let same = sym (has_class-places (λ k. has_heir k.at_commit) m h s shows t) in
    λ i. if same i then shows.parent t i else None

-- the number of events in the summary of a history

settled_kept : (s : Summary) (t : TxnId) (o : Option TxnId) → (settled s t o).kept ≡ s.kept
unfolding inherited fated
settled_kept s t None = refl
settled_kept s t (Some u) = refl

effect_kept : {A : Type 0} (m : Parts A) (s : Summary) (e : Event A) → (effect m s e).kept ≡ suc s.kept
unfolding stood terminated permit_given entered linked given inherited operated fated counted
effect_kept m s (Begin t class) = omega arith
effect_kept m s (Spawn t c class) = omega arith
effect_kept m s (Split t u class ops) = omega arith
effect_kept m s (Join t u) = omega arith
effect_kept m s (Delegate t u ops) = omega arith
effect_kept m s (Form kind j i) = omega arith
effect_kept m s (Operate t ob op) = omega arith
effect_kept m s (Commit t) = let same = settled_kept (terminated s t Committed) t (heir_of m s t.0) in omega (arith, same)
effect_kept m s (Abort t) = omega arith
effect_kept m s (Permit t u ob) = omega arith

kept_from : {A : Type 0} (m : Parts A) (s : Summary) (h : List (Kept A)) → (summary_from m s h).kept ≡ s.kept + length h
kept_from m s [] = omega arith
kept_from m s (k ∷ ks) = omega (arith, effect_kept m s k.event, kept_from m (effect m s k.event) ks)

pub kept-many : {A : Type 0} (m : Parts A) (h : List (Kept A)) → (summary_of m h).kept ≡ length h
unfolding summary_of
kept-many m h = let all = kept_from m nothing_yet h in omega (arith, all)

-- the ancestors
pub ancestors-places : {A : Type 0} (m : Parts A) (h : List (Kept A)) → ShowsPlaces m h (summary_of m h) → (t : ℕ) → ancestors_of (summary_of m h) t ≡ ancestors h t
ancestors-places m h shows t = λ i. ancestors_from (kept-many m h i) (λ u. shows.parent u i) (shows.parent t i)

among_if : (b : Bool) (line : List TxnId) (u : TxnId) → (b && list_any (λ a. a.0 == u.0) line) ≡ is_among (if b then line else []) u
among_if true line u = refl
among_if false line u = refl

-- the transactions whose operations on an object are exempt
pub exempt-places : {A : Type 0} (m : Parts A) (h : List (Kept A)) → ShowsPlaces m h (summary_of m h) → (t object : ℕ) (u : TxnId) → is_exempt m h t object u.0 ≡ (is_among (exempt m (summary_of m h) t) u || (summary_of m h).permits u.0 t object)
exempt-places m h shows t object u =
    λ n. ((λ i. has_class-places (λ k. exempts k.scope) m h (summary_of m h) shows t i && list_any (λ a. a.0 == u.0) (sym (ancestors-places m h shows t) i))
    ∙ among_if (has_class (λ k. exempts k.scope) m (summary_of m h) t) (ancestors_of (summary_of m h) t) u) n
    || sym (shows.permits u.0 t object) n
