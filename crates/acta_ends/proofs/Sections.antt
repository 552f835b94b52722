-- A text from its sections, which are written one after another.
use Rattle.std.proofs.Common.{◌≡◌, ℕ, ◌+◌, List, [], ◌∷◌, ◌++◌, drop, sym, ap, ◌∙◌, append_assoc, arith, inl, inr, refl}
use Rattle.std.specs.Prelude.{slice_get}
use Rattle.std.specs.Option.{option_map_or}
use Rattle.std.proofs.lemmas.Grind.{flat_map-append}
use Rattle.std.proofs.lemmas.List.{drop_more, drop_all}
use Rattle.std.proofs.lemmas.Option.{slice_get_cases}
use Rattle.acta_words.specs.Text.{text_of}
use Rattle.acta_ends.specs.EndLines.{lines_from}

-- a section, and what follows it
pub before : (old mid all : List ℕ) (lines others : List (List ℕ)) → mid ≡ old ++ text_of lines → all ≡ mid ++ text_of others → all ≡ old ++ text_of (lines ++ others)
before old mid all lines others h1 h2 =
    h2 ∙ ap (λ t. t ++ text_of others) h1 ∙ append_assoc old (text_of lines) (text_of others) ∙ ap (λ t. old ++ t) (sym (flat_map-append _ lines others))

-- the lines of the item at this position, and of those that follow it
at : {X : Type 0} (lines : ℕ → X → List (List ℕ)) (xs : List X) (i n : ℕ) → option_map_or (lines n) (slice_get xs i) [] ++ lines_from lines (n + 1) (drop (i + 1) xs) ≡ lines_from lines n (drop i xs)
at lines xs i n = elim (slice_get_cases xs i).1 [
  | inl found ↦
      ap (λ x. option_map_or (lines n) x [] ++ lines_from lines (n + 1) (drop (i + 1) xs)) found.2
      ∙ ap (λ ys. lines_from lines n ys) (ap (λ y. y ∷ drop (i + 1) xs) (sym found.3) ∙ sym (drop_more xs i found.0 found.1))
  | inr past ↦
      ap (λ x. option_map_or (lines n) x [] ++ lines_from lines (n + 1) (drop (i + 1) xs)) past.1
      ∙ ap (λ ys. lines_from lines (n + 1) ys) (drop_all (i + 1) xs (omega (arith, past.0)))
      ∙ sym (ap (λ ys. lines_from lines n ys) (drop_all i xs past.0))
]

-- the next item of a list is written
pub turn : {X : Type 0} (lines : ℕ → X → List (List ℕ)) (xs : List X) (i n : ℕ) (text after all : List ℕ) → text ++ text_of (lines_from lines n (drop i xs)) ≡ all
    → after ≡ text ++ text_of (option_map_or (lines n) (slice_get xs i) []) → after ++ text_of (lines_from lines (n + 1) (drop (i + 1) xs)) ≡ all
turn lines xs i n text after all h1 h2 =
    before text after _ (option_map_or (lines n) (slice_get xs i) []) (lines_from lines (n + 1) (drop (i + 1) xs)) h2 refl
    ∙ ap (λ ls. text ++ text_of ls) (at lines xs i n)
    ∙ h1
