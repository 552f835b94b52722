-- Seats that wait for each other.
use Rattle.std.proofs.Common.{◌≡◌, ◌≤◌, ℕ, ◌+◌, ◌-◌, Bool, true, false, ◌&&◌, ◌==◌, List, [], ◌∷◌, length, get_or, drop, refl, ap, subst, ◌∙◌, arith}
use Rattle.std.specs.List.{list_any, zip}
use Rattle.std.proofs.lemmas.Bool.Decides.{nat_tests}
use Rattle.std.proofs.lemmas.List.{drop_all}
use Rattle.std.proofs.lemmas.List.Folds.{Any-from_list_any}
use Rattle.acta_explore.specs.declared.circle.Link.{Link}
use Rattle.acta_explore.specs.Deadlocks.{WaitsForSeat, IsCycle}
use Rattle.acta_explore.specs.Points.{Point}
use Rattle.acta_explore.specs.Programs.{Programs}
use Rattle.acta_explore.specs.inside.Circles.{AreLinks, is_linked, IsChain}

-- nothing is beside a list that has come to its end
pub any-zip-short : {X Y : Type 0} (test : X × Y → Bool) (xs : List X) (ys : List Y) (n : ℕ) → length ys ≤ n → list_any test (zip xs (drop n ys)) ≡ false
any-zip-short test xs ys n past = ap (λ (zs : List _). list_any test (zip xs zs)) (drop_all n ys past) ∙ none xs
  where
    none : (zs : List _) → list_any test (zip zs []) ≡ false
    none [] = refl
    none (z ∷ zs) = refl

-- both tests pass
both-same : (a b c d : ℕ) → ((a == b) && (c == d)) ≡ true → (a ≡ b) × (c ≡ d)
both-same a b c d e = (grind (arith, nat_tests), grind (arith, nat_tests))

-- a seat that is linked to another waits for it
pub linked-waits : {A : Type 0} (programs : Programs A) (p : Point A) (links : List Link) (s u : ℕ) → AreLinks programs p links → is_linked links s u ≡ true → WaitsForSeat programs p s u
linked-waits programs p links s u are linked =
    let found = Any-from_list_any (λ link. (link.seat == s) && (link.next == u)) links linked in
    let link : Link = found.1 in
    let same : (link.seat ≡ s) × (link.next ≡ u) = both-same link.seat s link.next u found.4 in
    subst (λ (t : ℕ). WaitsForSeat programs p t u) same.0 (subst (λ (t : ℕ). WaitsForSeat programs p link.seat t) same.1
    (subst (λ (l : Link). WaitsForSeat programs p l.seat l.next) found.3 (are found.0 link found.2)))

-- a closed chain is a cycle
pub closed-circle : {A : Type 0} (programs : Programs A) (p : Point A) (links : List Link) (chain : List ℕ) → AreLinks programs p links → IsChain links chain → 2 ≤ length chain → get_or chain (length chain - 1) 0 ≡ get_or chain 0 0 → IsCycle programs p chain
closed-circle programs p links chain are linked long closed = record {
  long = long;
  waits = λ k within. linked-waits programs p links (get_or chain k 0) (get_or chain (k + 1) 0) are (linked k within);
  closed = closed;
}
