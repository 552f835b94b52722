-- Sets as trails: for each element the trail of its insertions and removals.
use Rattle.std.specs.Prelude.{◌≡◌, ℕ, Bool, false, ℤ, List, [], ◌∷◌, ◌++◌, if◌then◌else◌}
use Rattle.std.specs.BTreeMap.{is_at}
use Rattle.std.specs.List.{sum_by}
use Rattle.std.specs.List.Sorted.{IsStrictlySortedBy}
use Rattle.std.specs.Map.{lookup, keys_of, values_of}
use Rattle.std.specs.Option.{unwrap_or}
use Rattle.std.specs.Ordering.{int_cmp, int_eq}
use Rattle.acta_values.specs.declared.trail.Numbered.{Numbered}
use Rattle.acta_values.specs.Trails.{last_or, without}

-- elements, each with its trail; an item is true for an insertion and false for a removal
abbrev pub Marks : Type 0
Marks = List (ℤ × List (Numbered Bool))

-- the elements ascend
abbrev pub IsOrdered : Marks → Type 0
IsOrdered marks = IsStrictlySortedBy int_cmp (keys_of marks)

-- the trail of an element; empty if it has none
abbrev pub trail_at : Marks → ℤ → List (Numbered Bool)
trail_at marks x = unwrap_or (lookup (is_at (int_cmp x)) marks) []

-- whether an element with this trail is present: the last item is an insertion
abbrev pub is_on : List (Numbered Bool) → Bool
is_on trail = last_or false trail

-- the elements present
abbrev pub elements_of : Marks → List ℤ
elements_of [] = []
elements_of (e ∷ marks) = if is_on e.1 then e.0 ∷ elements_of marks else elements_of marks

-- 1 if true, otherwise 0
abbrev pub one_if : Bool → ℕ
one_if b = if b then 1 else 0

-- the number of elements present
abbrev pub count_on : Marks → ℕ
count_on marks = sum_by (λ trail. one_if (is_on trail)) (values_of marks)

-- the trail of x has one more item, and the others are unchanged
abbrev pub IsMarked : ℕ → ℤ → Bool → Marks → Marks → Type 0
IsMarked number x on marks new =
    (y : ℤ) → trail_at new y ≡ (if int_eq x y then trail_at marks x ++ (record { number = number; item = on }) ∷ [] else trail_at marks y)

-- the trail of x lacks the item with this number, and the others are unchanged
abbrev pub IsUnmarked : ℕ → ℤ → Marks → Marks → Type 0
IsUnmarked number x marks new =
    (y : ℤ) → trail_at new y ≡ (if int_eq x y then without number (trail_at marks x) else trail_at marks y)
