-- Tables of rows by number, filled in one pass over items.
use Rattle.std.proofs.Common.{◌≡◌, ℕ, zero, suc, List, ◌++◌, length, get_or, take, drop, refl, ap, ◌∙◌, arith}
use Rattle.std.proofs.Math.ListN.{replicate}
use Rattle.std.proofs.lemmas.List.{append-nil, take_all, drop_all}

-- a table of equal rows, with that row as the default past its end
pub get_or-blank : {X : Type 0} (n t : ℕ) (x : X) → get_or (replicate n x) t x ≡ x
get_or-blank zero t x = refl
get_or-blank (suc n) zero x = refl
get_or-blank (suc n) (suc t) x = get_or-blank n t x

-- a table that was borrowed whole, and written back
pub written_back : {X : Type 0} (n : ℕ) (rows items : List X) → length rows ≡ length items → n ≡ length items → take n (rows ++ drop (length rows) items) ≡ rows
written_back n rows items long all =
    ap (λ xs. take n (rows ++ xs)) (drop_all (length rows) items (omega arith)) ∙ ap (take n) (append-nil rows) ∙ take_all n rows (omega arith)
