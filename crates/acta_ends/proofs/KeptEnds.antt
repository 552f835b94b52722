-- The ends for which a condition holds.
use Rattle.std.proofs.Common.{◌≡◌, ℕ, ◌+◌, [], Bool, true, false, cond, List, map, filter, length, take, Option, Some, None, refl, sym, ap, ◌∙◌, arith, inl, inr}
use Rattle.std.specs.Prelude.{slice_get, option_map}
use Rattle.std.specs.Option.{option_map_or}
use Rattle.std.proofs.lemmas.List.{take_all}
use Rattle.std.proofs.lemmas.List.Filters.{length-filter_more}
use Rattle.std.proofs.lemmas.Option.{slice_get_cases, slice_get-map}
use Rattle.acta_table.specs.declared.model.Parts.{Parts}
use Rattle.acta_explore.specs.Outcomes.{Outcome, outcome}
use Rattle.acta_explore.specs.Points.{Point}
use Rattle.acta_explore.specs.Programs.{Programs}
use Rattle.acta_ends.specs.declared.condition.Condition.{Condition}
use Rattle.acta_ends.specs.Conditions.{holds, holds_at}
use Rattle.acta_ends.specs.EndLines.{is_kept, kept_lines, point_lines}

module _ {A : Type 0} (m : Parts A) (programs : Programs A) (numbers : List ℕ) (c : Condition A) where
  of-point : (o : Option (Point A)) → option_map_or (holds c) (option_map (outcome programs) o) false ≡ option_map_or (is_kept programs c) o false
  of-point None = refl
  of-point (Some p) = refl

  -- the condition holds of the outcome at this place where it holds at the point
  pub kept-at : (outcomes : List (Outcome A)) (points : List (Point A)) (place : ℕ) → outcomes ≡ map (outcome programs) points
      → holds_at c outcomes place ≡ option_map_or (is_kept programs c) (slice_get points place) false
  kept-at outcomes points place e =
      ap (λ os. holds_at c os place) e
      ∙ ap (λ o. option_map_or (holds c) o false) (slice_get-map (outcome programs) points place)
      ∙ of-point (slice_get points place)

  -- an end for which it holds is written, and no other
  pub lines-kept : (k : ℕ) (o : Option (Point A)) → option_map_or (is_kept programs c) o false ≡ true
      → option_map_or (kept_lines m programs numbers c k) o [] ≡ option_map_or (point_lines m programs numbers k) o []
  lines-kept k None h = refl
  lines-kept k (Some p) h = ap (λ b. cond b (point_lines m programs numbers k p) []) h

  pub lines-left : (k : ℕ) (o : Option (Point A)) → option_map_or (is_kept programs c) o false ≡ false → option_map_or (kept_lines m programs numbers c k) o [] ≡ []
  lines-left k None h = refl
  lines-left k (Some p) h = ap (λ b. cond b (point_lines m programs numbers k p) []) h

-- how many of the first i + 1 items pass the test
pub counted : {X : Type 0} (p : X → Bool) (xs : List X) (i : ℕ) → length (filter p (take (i + 1) xs)) ≡ length (filter p (take i xs)) + cond (option_map_or p (slice_get xs i) false) 1 0
counted p xs i = elim (slice_get_cases xs i).1 [
  | inl found ↦
      length-filter_more p xs i found.0 found.1
      ∙ ap (λ x. length (filter p (take i xs)) + cond (p x) 1 0) found.3
      ∙ ap (λ o. length (filter p (take i xs)) + cond (option_map_or p o false) 1 0) (sym found.2)
  | inr past ↦
      let same : length (filter p (take (i + 1) xs)) ≡ length (filter p (take i xs)) =
      ap (λ ys. length (filter p ys)) (take_all (i + 1) xs (omega (arith, past.0)) ∙ sym (take_all i xs past.0))
      in
      let no_more : ◌≡◌ {A = ℕ} (cond (option_map_or p (slice_get xs i) false) 1 0) 0 = ap (λ o. cond (option_map_or p o false) 1 0) past.1 in
      omega (arith, same, no_more)
]
