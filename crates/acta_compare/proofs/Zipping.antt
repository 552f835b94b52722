-- Lines with both answers, place by place.
use Rattle.std.proofs.Common.{◌≡◌, ◌<◌, ◌≤◌, true, false, arith, ℕ, zero, suc, List, [], ◌∷◌, length, Option, Some, None, refl, sym, ◌∙◌}
use Rattle.std.specs.Prelude.{nat_lt, slice_get}
use Rattle.std.proofs.lemmas.Bool.Decides.{nat_tests}
use Rattle.std.proofs.lemmas.Option.{slice_get_past}
use Rattle.acta_compare.specs.declared.differences.Difference.{Difference}
use Rattle.acta_compare.specs.declared.seen.Seen.{Seen}
use Rattle.acta_compare.specs.Differences.{compared}

-- a place past the items, and one among them
pub past-items : (i n : ℕ) → false ≡ nat_lt i n → n ≤ i
past-items i n test = grind (arith, nat_tests)

pub among-items : (i n : ℕ) → true ≡ nat_lt i n → i < n
among-items i n test = grind (arith, nat_tests)

-- a line with both answers, if all three are there
abbrev pub zipped : Option ℕ → Option Seen → Option Seen → Option Difference
zipped None a b = None
zipped (Some n) None b = None
zipped (Some n) (Some a) None = None
zipped (Some n) (Some a) (Some b) = Some (record { line = n; one = a; other = b })

no-one : (n : Option ℕ) (b : Option Seen) → None ≡ zipped n None b
no-one None b = refl
no-one (Some n) b = refl

no-other : (n : Option ℕ) (a : Option Seen) → None ≡ zipped n a None
no-other None a = refl
no-other (Some n) None = refl
no-other (Some n) (Some a) = refl

pub compared-at : (ns : List ℕ) (one other : List Seen) (i : ℕ) → slice_get (compared ns one other) i ≡ zipped (slice_get ns i) (slice_get one i) (slice_get other i)
compared-at [] one other i = refl
compared-at (n ∷ ns) [] other i = no-one (slice_get (n ∷ ns) i) (slice_get other i)
compared-at (n ∷ ns) (a ∷ one) [] i = no-other (slice_get (n ∷ ns) i) (slice_get (a ∷ one) i)
compared-at (n ∷ ns) (a ∷ one) (b ∷ other) zero = refl
compared-at (n ∷ ns) (a ∷ one) (b ∷ other) (suc i) = compared-at ns one other i

-- past the numbers there is no line, and none past the answers
pub past-numbers : (ns : List ℕ) (one other : List Seen) (i : ℕ) → length ns ≤ i → slice_get (compared ns one other) i ≡ None
past-numbers ns one other i past =
    compared-at ns one other i ∙ (λ j. zipped (slice_get_past ns i past j) (slice_get one i) (slice_get other i))

pub past-one : (ns : List ℕ) (one other : List Seen) (i : ℕ) → length one ≤ i → slice_get (compared ns one other) i ≡ None
past-one ns one other i past =
    compared-at ns one other i ∙ (λ j. zipped (slice_get ns i) (slice_get_past one i past j) (slice_get other i))
    ∙ sym (no-one (slice_get ns i) (slice_get other i))

pub past-other : (ns : List ℕ) (one other : List Seen) (i : ℕ) → length other ≤ i → slice_get (compared ns one other) i ≡ None
past-other ns one other i past =
    compared-at ns one other i ∙ (λ j. zipped (slice_get ns i) (slice_get one i) (slice_get_past other i past j))
    ∙ sym (no-other (slice_get ns i) (slice_get one i))

-- a line that has all three
pub compared-there : (ns : List ℕ) (one other : List Seen) (i n : ℕ) (a b : Seen)
    → slice_get ns i ≡ Some n → slice_get one i ≡ Some a → slice_get other i ≡ Some b
    → slice_get (compared ns one other) i ≡ Some (record { line = n; one = a; other = b })
compared-there ns one other i n a b number this that =
    compared-at ns one other i ∙ (λ j. zipped (number j) (this j) (that j))
