-- What a read leaves of the bytes that a reader has.
use Rattle.std.proofs.Common.{◌≡◌, ℕ, ◌-◌, ◌<◌, ◌≤◌, List, ◌++◌, length, take, Option, Some, None, sym, ap, ◌∙◌, arith}
use Rattle.std.specs.Prelude.{IfSome}
use Rattle.std.specs.Io.KnownBytes.{Consumes, IsAtEnd}
use Rattle.std.proofs.lemmas.List.{append-nil, length-append, length-take}

pub ended : (old mid new : Option (List ℕ)) (bs buf : List ℕ) → Consumes old mid bs → Consumes mid new (take 0 buf) → IsAtEnd new → IfSome old (λ xs. bs ≡ xs)
ended None mid new bs buf a b c = tt
ended (Some xs) None new bs buf a b c = absurd a
ended (Some xs) (Some ys) None bs buf a b c = absurd b
ended (Some xs) (Some ys) (Some zs) bs buf a b c = sym (a ∙ ap (λ t. bs ++ t) (b ∙ c) ∙ append-nil bs)

pub over : (old mid new : Option (List ℕ)) (bs buf : List ℕ) (n : ℕ) → Consumes old mid bs → Consumes mid new (take n buf) → n ≤ length buf → 16777216 - length bs < n → length bs ≤ 16777216 → IfSome old (λ xs. 16777216 < length xs)
over None mid new bs buf n a b c d e = tt
over (Some xs) None new bs buf n a b c d e = absurd a
over (Some xs) (Some ys) None bs buf n a b c d e = absurd b
over (Some xs) (Some ys) (Some zs) bs buf n a b c d e = omega (arith, ap length a, ap length b, length-append bs ys, length-append (take n buf) zs, length-take n buf)
