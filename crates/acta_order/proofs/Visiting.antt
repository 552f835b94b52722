-- Stacks that a search reaches, each once.
use Rattle.std.proofs.Common.{◌≡◌, ℕ, ◌+◌, ◌<◌, ◌≤◌, ◌⊎◌, List, [], ◌∷◌, ◌++◌, length, get_or, drop, refl, sym, ap, ◌∙◌, subst, arith, inl, inr}
use Rattle.std.specs.Prelude.{⊤}
use Rattle.std.proofs.lemmas.Bool.{true≢false}
use Rattle.std.proofs.lemmas.List.{append_assoc, length-append}
use Rattle.acta_axioms.specs.Serial.{Values}
use Rattle.acta_order.specs.declared.item.Item.{Item}
use Rattle.acta_order.specs.Faults.{IsReached, AreReached, HasReached}
use Rattle.acta_order.specs.Orders.{AreOthers, AreDifferent}

-- a stack that continues s by a position below next
pub record IsUnder (s : List ℕ) (next : ℕ) (f : List ℕ) : Type 0 where
  pub pos : ℕ
  pub rest : List ℕ
  pub below : pos < next
  pub is : f ≡ rest ++ pos ∷ s

-- a stack that a search reaches before it continues s with position next
abbrev pub Seen : List ℕ → ℕ → List ℕ → Type 0
Seen [] next f = (f ≡ []) ⊎ IsUnder [] next f
Seen (c ∷ below) next f = (f ≡ c ∷ below) ⊎ (IsUnder (c ∷ below) next f ⊎ Seen below c f)

under-more : (s : List ℕ) (next further : ℕ) (f : List ℕ) → next ≤ further → IsUnder s next f → IsUnder s further f
under-more s next further f low u = record { pos = u.pos; rest = u.rest; below = let b = u.below in omega (arith, b, low); is = u.is }

seen-more : (s : List ℕ) (next further : ℕ) (f : List ℕ) → next ≤ further → Seen s next f → Seen s further f
seen-more [] next further f low (inl is) = inl is
seen-more [] next further f low (inr u) = inr (under-more [] next further f low u)
seen-more (c ∷ below) next further f low (inl is) = inl is
seen-more (c ∷ below) next further f low (inr (inl u)) = inr (inl (under-more (c ∷ below) next further f low u))
seen-more (c ∷ below) next further f low (inr (inr before)) = inr (inr before)

under-seen : (s : List ℕ) (next : ℕ) (f : List ℕ) → IsUnder s next f → Seen s next f
under-seen [] next f u = inr u
under-seen (c ∷ below) next f u = inr (inl u)

here-seen : (s : List ℕ) (next : ℕ) → Seen s next s
here-seen [] next = inl refl
here-seen (c ∷ below) next = inl refl

seen-pop : (c : ℕ) (below : List ℕ) (next : ℕ) (f : List ℕ) → Seen (c ∷ below) next f → Seen below (c + 1) f
seen-pop c below next f (inl is) = under-seen below (c + 1) f (record { pos = c; rest = []; below = omega arith; is = is })
seen-pop c below next f (inr (inl u)) = under-seen below (c + 1) f (record {
  pos = c;
  rest = u.rest ++ u.pos ∷ [];
  below = omega arith;
  is = u.is ∙ sym (append_assoc u.rest (u.pos ∷ []) (c ∷ below));
})
seen-pop c below next f (inr (inr before)) = seen-more below c (c + 1) f (omega arith) before

-- the item before the same end
same-end : (s pre rest : List ℕ) (c j : ℕ) → pre ++ c ∷ s ≡ rest ++ j ∷ s → c ≡ j
same-end s [] [] c j is = ap (λ (xs : List ℕ). get_or xs 0 0) is
same-end s [] (y ∷ rest) c j is = let e = ap length is in let m = length-append rest (j ∷ s) in absurd (omega (arith, e, m))
same-end s (x ∷ pre) [] c j is = let e = ap length is in let m = length-append pre (c ∷ s) in absurd (omega (arith, e, m))
same-end s (x ∷ pre) (y ∷ rest) c j is = same-end s pre rest c j (ap (λ (xs : List ℕ). drop 1 xs) is)

not-under : (s : List ℕ) (pre : List ℕ) (c next : ℕ) → next ≤ c → IsUnder s next (pre ++ c ∷ s) → ⊥
not-under s pre c next low u = let same = same-end s pre u.rest c u.pos u.is in let b = u.below in omega (arith, same, b, low)

not-here : (s : List ℕ) (pre : List ℕ) (c : ℕ) → pre ++ c ∷ s ≡ s → ⊥
not-here s pre c is = let e = ap length is in let m = length-append pre (c ∷ s) in omega (arith, e, m)

not-seen : (s pre : List ℕ) (c next : ℕ) → next ≤ c → Seen s next (pre ++ c ∷ s) → ⊥
not-seen [] pre c next low (inl is) = not-here [] pre c is
not-seen [] pre c next low (inr u) = not-under [] pre c next low u
not-seen (b ∷ below) pre c next low (inl is) = not-here (b ∷ below) pre c is
not-seen (b ∷ below) pre c next low (inr (inl u)) = not-under (b ∷ below) pre c next low u
not-seen (b ∷ below) pre c next low (inr (inr before)) =
    not-seen below (pre ++ c ∷ []) b b (omega arith) (subst (Seen below b) (sym (append_assoc pre (c ∷ []) (b ∷ below))) before)

-- all of these
abbrev pub AreSeen : List ℕ → ℕ → List (List ℕ) → Type 0
AreSeen s next [] = ⊤
AreSeen s next (f ∷ fs) = Seen s next f × AreSeen s next fs

all-push : (s : List ℕ) (c next : ℕ) (fs : List (List ℕ)) → next ≤ c → AreSeen s next fs → AreSeen (c ∷ s) 0 fs
all-push s c next [] low seen = tt
all-push s c next (f ∷ fs) low seen = (inr (inr (seen-more s next c f low seen.0)), all-push s c next fs low seen.1)

all-pop : (c : ℕ) (below : List ℕ) (next : ℕ) (fs : List (List ℕ)) → AreSeen (c ∷ below) next fs → AreSeen below (c + 1) fs
all-pop c below next [] seen = tt
all-pop c below next (f ∷ fs) seen = (seen-pop c below next f seen.0, all-pop c below next fs seen.1)

all-others : (s : List ℕ) (c next : ℕ) (fs : List (List ℕ)) → next ≤ c → AreSeen s next fs → AreOthers (c ∷ s) fs
all-others s c next [] low seen = tt
all-others s c next (f ∷ fs) low seen = (λ is. not-seen s [] c next low (subst (Seen s next) (sym is) seen.0), all-others s c next fs low seen.1)

-- the stacks reached so far
pub record AreVisited {A : Type 0} (values : Values A) (group : ℕ → List Item) (lim : ℕ → ℕ) (ts s : List ℕ) (next states : ℕ) : Type 0 where
  pub stacks : List (List ℕ)
  pub many : length stacks ≡ states + 1
  pub different : AreDifferent stacks
  pub reached : AreReached values group lim ts stacks
  pub seen : AreSeen s next stacks

pub visited-first : {A : Type 0} (v : Values A) (g : ℕ → List Item) (lim : ℕ → ℕ) (ts s : List ℕ) → s ≡ [] → AreVisited v g lim ts s 0 0
visited-first {A} v g lim ts s none =
    subst (λ (x : List ℕ). AreVisited v g lim ts x 0 0) (sym none)
    (record {
      stacks = [] ∷ [];
      many = omega arith;
      different = (tt, tt);
      reached = (record { distinct = tt; within = λ j there. absurd (true≢false (sym there)); free = tt; plays = tt }, tt);
      seen = (inl refl, tt);
    })

pub visited-push : {A : Type 0} (v : Values A) (g : ℕ → List Item) (lim : ℕ → ℕ) (ts s : List ℕ) (next states c : ℕ) → next ≤ c → IsReached v g lim ts (c ∷ s) → AreVisited v g lim ts s next states → AreVisited v g lim ts (c ∷ s) 0 (states + 1)
visited-push v g lim ts s next states c low reached a = record {
  stacks = (c ∷ s) ∷ a.stacks;
  many = let m = a.many in omega (arith, m);
  different = (all-others s c next a.stacks low a.seen, a.different);
  reached = (reached, a.reached);
  seen = (here-seen (c ∷ s) 0, all-push s c next a.stacks low a.seen);
}

pub visited-pop : {A : Type 0} (v : Values A) (g : ℕ → List Item) (lim : ℕ → ℕ) (ts stack below : List ℕ) (next states c : ℕ) → stack ≡ c ∷ below → AreVisited v g lim ts stack next states → AreVisited v g lim ts below (c + 1) states
visited-pop v g lim ts stack below next states c popped a = record {
  stacks = a.stacks;
  many = a.many;
  different = a.different;
  reached = a.reached;
  seen = all-pop c below next a.stacks (subst (λ (x : List ℕ). AreSeen x next a.stacks) popped a.seen);
}

pub visited-many : {A : Type 0} (v : Values A) (g : ℕ → List Item) (lim : ℕ → ℕ) (ts s : List ℕ) (next states most : ℕ) → most ≤ states → AreVisited v g lim ts s next states → HasReached v g lim ts most
visited-many v g lim ts s next states most over a = record {
  stacks = a.stacks;
  more = let m = a.many in omega (arith, m, over);
  different = a.different;
  reached = a.reached;
}
