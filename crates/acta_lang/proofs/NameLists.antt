-- Names behind references are found where the names are.
use Rattle.std.proofs.Common.{◌≡◌, ℕ, Bool, true, false, cond, ◌||◌, List, [], ◌∷◌, ◌++◌, map, Option, Some, is_some, option_map, refl, ap, ◌∙◌, true≢false}
use Rattle.std.specs.List.{list_any}
use Rattle.std.specs.Map.{keys_of, lookup}
use Rattle.std.specs.Str.{bytes_eq}
use Rattle.indexmap.specs.IndexMap.{insert_entry}
use Rattle.acta_lang.specs.inside.Noted.{line_of}
use denote.Ref.{Bor}

found : {V : Type 0} (hit : Bool) (v : V) (o : Option V) → is_some (cond hit (Some v) o) ≡ (hit || is_some o)
found true v o = refl
found false v o = refl

-- a name is found if it is among the names
pub is_found : {V : Type 0} (test : List ℕ → Bool) (es : List (Bor (List ℕ) × V)) → is_some (lookup (λ k. test k.now) es) ≡ list_any test (map (λ k. k.now) (keys_of es))
is_found test [] = refl
is_found test (e ∷ es) = found (test e.0.now) e.1 (lookup (λ k. test k.now) es) ∙ ap (λ b. test e.0.now || b) (is_found test es)

placed : {V : Type 0} (hit : Bool) (e new : Bor (List ℕ) × V) (other es put : List (Bor (List ℕ) × V)) (rest : Bool) → (hit || rest) ≡ false → (rest ≡ false → put ≡ es ++ new ∷ [])
    → cond hit other (e ∷ put) ≡ e ∷ es ++ new ∷ []
placed true e new other es put rest h step = absurd (true≢false h)
placed false e new other es put rest h step = λ i. e ∷ step h i

-- a new name goes after the others
pub goes_last : {V : Type 0} (name : Bor (List ℕ)) (v : V) (es : List (Bor (List ℕ) × V)) → list_any (bytes_eq name.now) (map (λ k. k.now) (keys_of es)) ≡ false
    → insert_entry (λ k l. bytes_eq k.now l.now) es name v ≡ es ++ (name, v) ∷ []
goes_last name v [] absent = refl
goes_last name v (e ∷ es) absent =
    placed (bytes_eq name.now e.0.now) e (name, v) ((e.0, v) ∷ es) es (insert_entry (λ k l. bytes_eq k.now l.now) es name v) (list_any (bytes_eq name.now) (map (λ k. k.now) (keys_of es))) absent (goes_last name v es)

-- the line found under a name is that of the first declaration with this name
pub line_found : {V : Type 0} (name : List ℕ) (line : V → ℕ) (es : List (Bor (List ℕ) × V)) → option_map line (lookup (λ k. bytes_eq name k.now) es) ≡ line_of name (map (λ e. record { name = e.0.now; line = line e.1 }) es)
line_found name line [] = refl
line_found {V} name line (e ∷ es) = of_test (bytes_eq name e.0.now) (line_found name line es)
  where
    of_test : (b : Bool) → option_map line (lookup (λ k. bytes_eq name k.now) es) ≡ line_of name (map (λ e. record { name = e.0.now; line = line e.1 }) es)
        → option_map line (cond b (Some e.1) (lookup (λ k. bytes_eq name k.now) es)) ≡ cond b (Some (line e.1)) (line_of name (map (λ e. record { name = e.0.now; line = line e.1 }) es))
    of_test true rest = refl
    of_test false rest = rest
