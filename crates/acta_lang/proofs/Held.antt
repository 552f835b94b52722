-- The code's state, and the draft that it stands for.
use Rattle.std.proofs.Common.{◌≡◌, ℕ, Bool, true, false, ◌||◌, ◌&&◌, not, ◌==◌, List, [], ◌∷◌, ◌++◌, map, length, Option, Some, None, refl, sym, ap, ◌∙◌, Bor, true≢false, arith, length-append}
use Rattle.std.specs.List.{list_any}
use Rattle.std.specs.Map.{keys_of}
use Rattle.std.specs.Option.{option_map_or}
use Rattle.std.specs.Str.{bytes_eq}
use Rattle.std.proofs.lemmas.List.Folds.{list_any-append}
use Rattle.std.proofs.lemmas.Bool.{ne_eqb}
use Rattle.std.proofs.Math.Bool.{and-false, or-false}
use Rattle.acta_lang.specs.declared.form.Form.{Form}
use Rattle.acta_lang.specs.declared.form.Form.TheVariants as form
use Rattle.acta_lang.specs.declared.draft.ClosedDraft.{ClosedDraft}
use Rattle.acta_lang.specs.declared.draft.ObjectDraft.{ObjectDraft}
use Rattle.acta_words.specs.Text.{is_word_among}
use Rattle.acta_lang.specs.Drafts.{Draft, OpenClass, closed, extended, has_part, has_all_parts, with_closed}
use Rattle.acta_lang.specs.Faults.{is_object, is_class, is_end, missing_part, wrong_place}
use Rattle.acta_lang.specs.inside.Abstraction.{object_shown, closed_shown}

-- the names of the objects, and of the closed classes
pub object_names-abstraction : (A : Type 0) (es : List (Bor (List ℕ) × ObjectDraft)) → map (λ o. o.name) (map (object_shown {A = A}) es) ≡ map (λ k. k.now) (keys_of es)
object_names-abstraction A [] = refl
object_names-abstraction A (e ∷ es) = ap (λ names. e.0.now ∷ names) (object_names-abstraction A es)

pub closed_names-abstraction : {A : Type 0} (es : List (Bor (List ℕ) × ClosedDraft A)) → map (λ c. c.name) (map (closed_shown {A = A}) es) ≡ map (λ k. k.now) (keys_of es)
closed_names-abstraction [] = refl
closed_names-abstraction (e ∷ es) = ap (λ names. e.0.now ∷ names) (closed_names-abstraction es)

in_one : (name : List ℕ) (o : Option OpenClass) → list_any (bytes_eq name) (option_map_or (λ c. c.name ∷ []) o []) ≡ option_map_or (λ c. bytes_eq name c.name) o false
in_one name None = refl
in_one name (Some c) = or-false (bytes_eq name c.name)

-- a name is one of a class if a closed class has it, or the open one
pub among_classes : {A : Type 0} (name : List ℕ) (es : List (Bor (List ℕ) × ClosedDraft A)) (o : Option OpenClass)
    → is_word_among (map (λ c. c.name) (map (closed_shown {A = A}) es) ++ option_map_or (λ c. c.name ∷ []) o []) name
    ≡ (is_word_among (map (λ k. k.now) (keys_of es)) name || option_map_or (λ c. bytes_eq name c.name) o false)
among_classes {A = A} name es o =
    list_any-append (bytes_eq name) (map (λ c. c.name) (map (closed_shown {A = A}) es)) (option_map_or (λ c. c.name ∷ []) o [])
    ∙ (λ i. list_any (bytes_eq name) (closed_names-abstraction es i) || in_one name o i)

-- inside a class, a line that declares no object or class is in the wrong place if its part is given already
pub parsed_inside : {A : Type 0} (parsed : Form) (d : Draft A) (c : OpenClass) → d.current ≡ Some c → is_object parsed ≡ false → is_class parsed ≡ false → has_part parsed c ≡ wrong_place d parsed
unfolding wrong_place
parsed_inside form.Blank d c is o k = refl
parsed_inside form.Register d c is o k = absurd (true≢false o)
parsed_inside form.Counter d c is o k = absurd (true≢false o)
parsed_inside form.Elements d c is o k = absurd (true≢false o)
parsed_inside form.Class d c is o k = absurd (true≢false k)
parsed_inside (form.Starts s) d c is o k = sym (ap (λ cur. option_map_or (has_part (form.Starts s)) cur true) is)
parsed_inside (form.May s) d c is o k = sym (ap (λ cur. option_map_or (has_part (form.May s)) cur true) is)
parsed_inside (form.Scope s) d c is o k = sym (ap (λ cur. option_map_or (has_part (form.Scope s)) cur true) is)
parsed_inside (form.Policy s) d c is o k = sym (ap (λ cur. option_map_or (has_part (form.Policy s)) cur true) is)
parsed_inside (form.Commit s) d c is o k = sym (ap (λ cur. option_map_or (has_part (form.Commit s)) cur true) is)
parsed_inside (form.Delegation s) d c is o k = sym (ap (λ cur. option_map_or (has_part (form.Delegation s)) cur true) is)
parsed_inside (form.Spawn s) d c is o k = sym (ap (λ cur. option_map_or (has_part (form.Spawn s)) cur true) is)
parsed_inside (form.Split s) d c is o k = sym (ap (λ cur. option_map_or (has_part (form.Split s)) cur true) is)
parsed_inside form.End d c is o k = sym (ap (λ cur. option_map_or (has_part form.End) cur true) is)
parsed_inside form.Unknown d c is o k = sym (ap (λ cur. option_map_or (has_part form.Unknown) cur true) is)

-- a list with one more is not empty
pub one_more : {X : Type 0} (xs : List X) (x : X) → (length (xs ++ x ∷ []) == 0) ≡ false
one_more xs x = ne_eqb (length (xs ++ x ∷ [])) 0 (λ h. omega (arith, h, length-append xs (x ∷ [])))

-- a line that ends a class is the form of an end
pub end_is : (parsed : Form) → is_end parsed ≡ true → parsed ≡ form.End
end_is form.End h = refl
end_is form.Blank h = absurd (true≢false (sym h))
end_is form.Register h = absurd (true≢false (sym h))
end_is form.Counter h = absurd (true≢false (sym h))
end_is form.Elements h = absurd (true≢false (sym h))
end_is form.Class h = absurd (true≢false (sym h))
end_is (form.Starts s) h = absurd (true≢false (sym h))
end_is (form.May s) h = absurd (true≢false (sym h))
end_is (form.Scope s) h = absurd (true≢false (sym h))
end_is (form.Policy s) h = absurd (true≢false (sym h))
end_is (form.Commit s) h = absurd (true≢false (sym h))
end_is (form.Delegation s) h = absurd (true≢false (sym h))
end_is (form.Spawn s) h = absurd (true≢false (sym h))
end_is (form.Split s) h = absurd (true≢false (sym h))
end_is form.Unknown h = absurd (true≢false (sym h))

-- when a class ends, only that class can lack a part
pub end_inside : {A : Type 0} (is_last : Bool) (words : List (List ℕ)) (parsed : Form) (d : Draft A) (c : OpenClass) → is_end parsed ≡ true → d.current ≡ Some c → not (has_all_parts c) ≡ missing_part is_last d (extended d words parsed) parsed
unfolding missing_part extended
end_inside is_last words parsed d c ends is =
    sym (ap (λ parsed. missing_part is_last d (extended d words parsed) parsed) (end_is parsed ends)
    ∙ ap (λ o. option_map_or (λ c. not (has_all_parts c)) o false || is_last && (length (with_closed d o).classes == 0)) is
    ∙ ap (λ b. not (has_all_parts c) || is_last && b) (one_more d.classes (closed c))
    ∙ ap (λ b. not (has_all_parts c) || b) (and-false is_last)
    ∙ or-false (not (has_all_parts c)))
