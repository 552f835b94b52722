-- Fronts that are replayed, and the blocks after them.
use Rattle.std.proofs.Common.{arith, ◌≡◌, ℕ, ◌+◌, ◌<◌, ◌==◌, Bool, true, false, ◌||◌, List, [], ◌∷◌, ◌++◌, length, map, fold, refl, sym, ap, ◌∙◌, subst, inl, inr}
use Rattle.std.specs.List.{flat_map}
use Rattle.std.proofs.lemmas.Bool.{cases_lt, or_left, or_right, eqb-true, eq-eqb}
use Rattle.std.proofs.lemmas.List.{map-append}
use Rattle.acta_table.specs.declared.model.Kind.{Kind}
use Rattle.acta_axioms.specs.Serial.{Values}
use Rattle.acta_order.specs.declared.dead_end.Block.{Block}
use Rattle.acta_order.specs.declared.item.Item.{Item}
use Rattle.acta_order.specs.Blocks.{IsFree, IsPlaced, IsReplayed}
use Rattle.acta_order.specs.Faults.{IsReached}
use Rattle.acta_order.specs.Orders.{is_in, txns_of}
use Rattle.acta_order.specs.Paths.{Steps}
use Rattle.acta_order.specs.Search.{Replaying, AreSound, after, at, held, placed, Plays, values_at, values_of}
use Rattle.acta_order.proofs.Placed.{AreWithin, is_in-append}
use Rattle.acta_order.proofs.Playing.{flat-one, plays-both, sound-placed, values-fold}

-- the values on the replay are those after the placed groups
pub replayed-values : (A : Type 0) (kinds : List Kind) (g : ℕ → List Item) (lim : ℕ → ℕ) (ts : List ℕ) (path : Steps) (replay : Replaying) → IsReplayed A kinds g lim ts path replay → AreSound kinds g ts → fold after (values_at {A = A} kinds []) (flat_map g (placed ts path.stack)) ≡ values_of replay
replayed-values A kinds g lim ts path replay r sound =
    values-fold {A = A} kinds [] (flat_map g (placed ts path.stack)) (sound-placed kinds g ts path.stack sound r.reached.within)
    ∙ (λ i. values_at {A = A} (sym r.kinds_are i) (map held (sym r.done i)))

within-more : (c : ℕ) (stack : List ℕ) (n : ℕ) → c < n → AreWithin stack n → AreWithin (c ∷ stack) n
within-more c stack n high w j is = of (c == j) refl is
  where
    of : (b : Bool) → (c == j) ≡ b → (b || is_in stack j) ≡ true → j < n
    of true e any = subst (λ k. k < n) (eqb-true c j e) high
    of false e any = w j any

-- one position more
pub replayed-more : (A : Type 0) (kinds : List Kind) (g : ℕ → List Item) (lim : ℕ → ℕ) (ts : List ℕ) (path more : Steps) (replay new : Replaying) (c : ℕ) → IsReplayed A kinds g lim ts path replay → AreSound kinds g ts → IsPlaced A path more replay new g lim ts c → IsReplayed A kinds g lim ts more new
replayed-more A kinds g lim ts path more replay new c r sound p = record {
  size = ap (λ (s : Steps). s.size) p.path_is ∙ r.size;
  kinds_are = ap (λ (b : Replaying). b.kinds) p.replay_is ∙ r.kinds_are;
  done = ap (λ (b : Replaying). b.done) p.replay_is ∙ ap (λ (is : List Item). is ++ g (at ts c)) r.done ∙ sym (flat-one g (placed ts path.stack) (at ts c)) ∙ sym (ap (λ (s : Steps). flat_map g (placed ts s.stack)) p.path_is);
  reached =
      subst (λ (s : Steps). IsReached v g lim ts s.stack) (sym p.path_is)
      (record {
        distinct = (p.open_there, r.reached.distinct);
        within = within-more c path.stack (length ts) p.within r.reached.within;
        free = (p.free, r.reached.free);
        plays = subst (Plays v) (sym (flat-one g (placed ts path.stack) (at ts c)))
            (plays-both v (flat_map g (placed ts path.stack)) (g (at ts c)) r.reached.plays (subst (λ (w : Values A). Plays w (g (at ts c))) (sym (replayed-values A kinds g lim ts path replay r sound)) p.plays));
      });
}
  where
    v : Values A
    v = values_at kinds []

-- each position below this one that could be placed next has a block
abbrev pub AreBlockedBelow : (ℕ → ℕ) → List ℕ → List ℕ → ℕ → List Block → ℕ → Type 0
AreBlockedBelow lim ts stack low blocks c = (j : ℕ) → j < c → IsFree lim ts stack low j → is_in (txns_of blocks) (at ts j) ≡ true

in-more : (blocks : List Block) (b : Block) (t : ℕ) → is_in (txns_of (blocks ++ b ∷ [])) t ≡ (is_in (txns_of blocks) t || is_in (b.txn.0 ∷ []) t)
in-more blocks b t = ap (λ (ts : List ℕ). is_in ts t) (map-append (λ (x : Block). x.txn.0) blocks (b ∷ [])) ∙ is_in-append (txns_of blocks) (b.txn.0 ∷ []) t

pub blocked-more : (lim : ℕ → ℕ) (ts stack : List ℕ) (low c : ℕ) (blocks more : List Block) (b : Block) → AreBlockedBelow lim ts stack low blocks c → more ≡ blocks ++ b ∷ [] → b.txn.0 ≡ at ts c → AreBlockedBelow lim ts stack low more (c + 1)
blocked-more lim ts stack low c blocks more b before grown own j below free =
    ap (λ (bs : List Block). is_in (txns_of bs) (at ts j)) grown ∙ in-more blocks b (at ts j)
    ∙ (elim (cases_lt j c) [
      | inl lt ↦ or_left (is_in (txns_of blocks) (at ts j)) (is_in (b.txn.0 ∷ []) (at ts j)) (before j lt free)
      | inr ge ↦
          or_right (is_in (txns_of blocks) (at ts j)) (is_in (b.txn.0 ∷ []) (at ts j))
          (or_left (b.txn.0 == at ts j) false (eq-eqb b.txn.0 (at ts j) (own ∙ ap (at ts) (let same : c ≡ j = omega (arith, ge, below) in same))))
    ])

pub blocked-same : (lim : ℕ → ℕ) (ts stack : List ℕ) (low c : ℕ) (blocks : List Block) → AreBlockedBelow lim ts stack low blocks c → (IsFree lim ts stack low c → ⊥) → AreBlockedBelow lim ts stack low blocks (c + 1)
blocked-same lim ts stack low c blocks before not j below free =
    elim (cases_lt j c) [
      | inl lt ↦ before j lt free
      | inr ge ↦ absurd (not (subst (IsFree lim ts stack low) (let same : j ≡ c = omega (arith, ge, below) in same) free))
    ]
