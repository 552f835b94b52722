-- Finding entries of a map.
use Rattle.std.proofs.Common.{◌≡◌, Bool, true, false, cond, List, [], ◌∷◌, ◌++◌, Some, is_some, if◌then◌else◌, refl, sym, ap, ◌∙◌}
use Rattle.std.specs.List.{Contains}
use Rattle.std.specs.Map.{lookup}
use Rattle.indexmap.specs.IndexMap.{insert_entry}
use Rattle.acta_explore.proofs.Turning.{contains-head, contains-tail}

-- an entry of the list has a key that passes the test
pub record HasKey {K V : Type 0} (test : K → Bool) (es : List (K × V)) : Type 0 where
  pub key : K
  pub value : V
  pub within : Contains es (key, value)
  pub passes : test key ≡ true

-- the first does not pass
skipped : {K V : Type 0} (test : K → Bool) (e : K × V) (es : List (K × V)) (b : Bool) → test e.0 ≡ false → is_some (lookup test (e ∷ es)) ≡ b → is_some (lookup test es) ≡ b
skipped test e es b fails h = sym (ap (λ (c : Bool). is_some (cond c (Some e.1) (lookup test es))) fails) ∙ h

-- what is found is an entry
pub found-entry : {K V : Type 0} (test : K → Bool) (es : List (K × V)) → is_some (lookup test es) ≡ true → HasKey test es
found-entry test [] h = absurd cc
found-entry test (e ∷ es) h = by (test e.0) refl (λ fails. found-entry test es (skipped test e es true fails h))
  where
    by : (b : Bool) → test e.0 ≡ b → (test e.0 ≡ false → HasKey test es) → HasKey test (e ∷ es)
    by true passes later = record { key = e.0; value = e.1; within = contains-head e es; passes = passes }
    by false fails later =
        let rest = later fails in
        record { key = rest.key; value = rest.value; within = contains-tail e (rest.key, rest.value) es rest.within; passes = rest.passes }

-- and an entry that is inserted goes last
pub insert-last : {K V : Type 0} (eq : K → K → Bool) (es : List (K × V)) (k : K) (v : V) → is_some (lookup (eq k) es) ≡ false → insert_entry eq es k v ≡ es ++ (k, v) ∷ []
insert-last eq [] k v h = refl
insert-last eq (e ∷ es) k v h = by (eq k e.0) refl (λ fails. insert-last eq es k v (skipped (eq k) e es false fails h))
  where
    by : (b : Bool) → eq k e.0 ≡ b → (eq k e.0 ≡ false → insert_entry eq es k v ≡ es ++ (k, v) ∷ []) → insert_entry eq (e ∷ es) k v ≡ e ∷ (es ++ (k, v) ∷ [])
    by true passes later = absurd (cc (sym h ∙ ap (λ (c : Bool). is_some (cond c (Some e.1) (lookup (eq k) es))) passes))
    by false fails later = ap (λ (c : Bool). if c then (e.0, v) ∷ es else e ∷ insert_entry eq es k v) fails ∙ ap (λ (ys : List _). e ∷ ys) (later fails)
