-- The results that threads have found.
use Rattle.std.proofs.Common.{subst, ◌≡◌, List, [], ◌∷◌, map, Ok, Err, refl, ap₂}
use Rattle.std.specs.Prelude.{Result, IfOk, MatchResult}
use Rattle.std.specs.List.{AllZip}

-- of a result that is `Ok`
pub match-IfOk : {T E : Type 0} (r : Result T E) (P S : T → Type 0) (Q : E → Type 0) → MatchResult r P Q → ((v : T) → P v → S v) → IfOk r S
match-IfOk (Ok v) P S Q h f = f v h
match-IfOk (Err e) P S Q h f = tt

oks-map : {X Y : Type 0} (E : Type 0) (f : X → Y) (xs : List X) (ys : List Y) → AllZip (λ x (r : Result Y E). IfOk r (λ v. v ≡ f x)) xs (map Ok ys) → ys ≡ map f xs
oks-map E f [] [] h = refl
oks-map E f [] (y ∷ ys) h = absurd h
oks-map E f (x ∷ xs) [] h = absurd h
oks-map E f (x ∷ xs) (y ∷ ys) h = ap₂ (λ z zs. z ∷ zs) h.0 (oks-map E f xs ys h.1)

-- of results that are all `Ok`
pub oks-from : {X Y E : Type 0} (f : X → Y) (xs : List X) (rs : List (Result Y E)) (ys : List Y) → AllZip (λ x (r : Result Y E). IfOk r (λ v. v ≡ f x)) xs rs → rs ≡ map Ok ys → ys ≡ map f xs
oks-from {X} {Y} {E} f xs rs ys h e =
    oks-map E f xs ys (subst (λ (l : List (Result Y E)). AllZip (λ x (r : Result Y E). IfOk r (λ v. v ≡ f x)) xs l) e h)
