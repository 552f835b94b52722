-- The invariant of a search, step by step.
use Rattle.std.proofs.Common.{arith, ◌≡◌, ℕ, ◌+◌, ◌-◌, ◌/◌, ◌<◌, ◌≤◌, ◌==◌, ◌⊎◌, Bool, true, false, ◌||◌, List, [], ◌∷◌, ◌++◌, length, get_or, take, map, fold, min, max, Option, Some, None, refl, sym, ap, ◌∙◌, subst, inl, inr}
use Rattle.std.specs.List.{Contains, flat_map}
use Rattle.std.proofs.lemmas.List.Elements.{Contains-push_cases}
use Rattle.std.proofs.lemmas.Bool.{or_right, cases_lt, ne_eqb, eqb-true}
use Rattle.std.proofs.lemmas.List.{length-append}
use Rattle.acta_table.specs.declared.model.Kind.{Kind}
use Rattle.acta_values.proofs.TakenBack.{taken_front}
use Rattle.acta_axioms.specs.Serial.{Values}
use Rattle.acta_order.specs.declared.item.Item.{Item}
use Rattle.acta_order.specs.Faults.{AreFew, HasRoom, IsReached}
use Rattle.acta_order.specs.Orders.{is_in, AreDistinct}
use Rattle.acta_order.specs.Remembered.{Remembered}
use Rattle.acta_order.specs.Search.{Replaying, at, placed, held, values_at, values_of, after, Plays, IsPassed, IsNext, IsNone, IsRefuted, IsTried, AreSound, AreInTurn, IsFound, IsFoundNext}
use Rattle.acta_order.specs.Memos.{values_in, IsGrown, IsKept, IsOver, IsFoundOrOver, AreFree, IsDead, AreDead}
use Rattle.acta_order.proofs.Equivalence.{refuted-equivalent}
use Rattle.acta_order.proofs.Placed.{AreWithin, distinct-push, not-placed, is-placed, placed-same, distinct-placed}
use Rattle.acta_order.proofs.Remembering.{same-packed, words-enough}
use Rattle.acta_order.proofs.Timely.{free-timely, placed-order}
use Rattle.acta_order.proofs.First.{same-first}
use Rattle.acta_order.proofs.Playing.{flat-one, sound-placed, plays-front, plays-both, values-fold}
use Rattle.acta_order.proofs.Trying.{refuted-repeat, refuted-stuck, refuted-early, refuted-all, past-of, past-more, tried-more, tried-first, tried-push, tried-pop}

-- the invariant: the placed groups are done and replay, and all positions before the next one are tried
pub record IsSearching (A : Type 0) (kinds : List Kind) (g : ℕ → List Item) (lim : ℕ → ℕ) (ts stack : List ℕ) (replay : Replaying) (low next : ℕ) : Type 0 where
  pub tried : IsTried (values_at {A = A} kinds []) g lim ts stack next
  pub kinds_are : replay.kinds ≡ kinds
  pub done : replay.done ≡ flat_map g (placed ts stack)
  pub plays : Plays (values_at {A = A} kinds []) (flat_map g (placed ts stack))
  pub free : AreFree lim ts stack
  pub below_low : (j : ℕ) → j < low → is_in stack j ≡ true

-- the properties of the stack, and of the first open position
pub record IsOpen (lim : ℕ → ℕ) (ts stack : List ℕ) (low open_at : ℕ) : Type 0 where
  pub distinct : AreDistinct ts
  pub in_turn : AreInTurn lim ts
  pub within : AreWithin stack (length ts)
  pub distinct_stack : AreDistinct stack
  pub passed : (j : ℕ) → low ≤ j → j < open_at → is_in stack j ≡ true
  pub open_there : open_at < length ts → is_in stack open_at ≡ false

all-low : (A : Type 0) (kinds : List Kind) (g : ℕ → List Item) (lim : ℕ → ℕ) (ts stack : List ℕ) (replay : Replaying) (low next open_at : ℕ) → IsSearching A kinds g lim ts stack replay low next → IsOpen lim ts stack low open_at → (j : ℕ) → j < open_at → is_in stack j ≡ true
all-low A kinds g lim ts stack replay low next open_at s o j below = elim (cases_lt j low) [ inl lt ↦ s.below_low j lt | inr ge ↦ o.passed j ge below ]

-- the values on the replay are those after the placed groups
replay-values : (A : Type 0) (kinds : List Kind) (g : ℕ → List Item) (lim : ℕ → ℕ) (ts stack : List ℕ) (replay : Replaying) (low next : ℕ) → IsSearching A kinds g lim ts stack replay low next → AreSound kinds g ts → AreWithin stack (length ts)
    → fold after (values_at {A = A} kinds []) (flat_map g (placed ts stack)) ≡ values_of replay
replay-values A kinds g lim ts stack replay low next s sound w =
    values-fold {A = A} kinds [] (flat_map g (placed ts stack)) (sound-placed kinds g ts stack sound w)
    ∙ (λ i. values_at {A = A} (sym s.kinds_are i) (map held (sym s.done i)))

-- a position that can't be placed next is refuted
refuted-passed : (A : Type 0) (kinds : List Kind) (g : ℕ → List Item) (lim : ℕ → ℕ) (ts stack : List ℕ) (replay : Replaying) (low next open_at : ℕ) → IsSearching A kinds g lim ts stack replay low next → IsOpen lim ts stack low open_at → open_at < length ts → AreSound kinds g ts
    → (j : ℕ) → j < length ts → IsPassed (values_of {A = A} replay) g lim ts stack open_at j → IsRefuted (values_at {A = A} kinds []) g lim ts (placed ts stack ++ at ts j ∷ [])
refuted-passed A kinds g lim ts stack replay low next open_at s o within sound j there passed = of (is_in stack j) refl (cases_lt open_at (lim (at ts j)))
  where
    of : (b : Bool) → is_in stack j ≡ b → (open_at < lim (at ts j)) ⊎ (lim (at ts j) ≤ open_at) → IsRefuted (values_at {A = A} kinds []) g lim ts (placed ts stack ++ at ts j ∷ [])
    of true e early = refuted-repeat (values_at {A = A} kinds []) g lim ts (placed ts stack) (at ts j) (is-placed ts stack j e)
    of false e (inl early) = refuted-early (values_at {A = A} kinds []) g lim ts stack open_at j o.distinct o.within o.in_turn within there (o.open_there within) early
    of false e (inr free) =
        refuted-stuck (values_at {A = A} kinds []) g lim ts (placed ts stack) (at ts j)
        (λ p. passed e free (subst (λ (v : Values A). Plays v (g (at ts j))) (replay-values A kinds g lim ts stack replay low next s sound o.within) p))

-- all positions from the next one on, if each from the larger of the two on can't be placed next
more-refuted : (A : Type 0) (kinds : List Kind) (g : ℕ → List Item) (lim : ℕ → ℕ) (ts stack : List ℕ) (replay : Replaying) (low next open_at from further : ℕ) → IsSearching A kinds g lim ts stack replay low next → IsOpen lim ts stack low open_at → open_at < length ts → AreSound kinds g ts → from ≡ max next open_at → further ≤ length ts
    → ((j : ℕ) → from ≤ j → j < further → IsPassed (values_of {A = A} replay) g lim ts stack open_at j) → (j : ℕ) → next ≤ j → j < further → IsRefuted (values_at {A = A} kinds []) g lim ts (placed ts stack ++ at ts j ∷ [])
more-refuted A kinds g lim ts stack replay low next open_at from further s o within sound is few passed j low_j high_j =
    elim (cases_lt j open_at) [
      | inl lt ↦ refuted-repeat (values_at {A = A} kinds []) g lim ts (placed ts stack) (at ts j) (is-placed ts stack j (all-low A kinds g lim ts stack replay low next open_at s o j lt))
      | inr ge ↦ refuted-passed A kinds g lim ts stack replay low next open_at s o within sound j (omega (arith, high_j, few)) (passed j (omega (arith, is, ge, low_j)) high_j)
    ]

-- at first nothing is placed
pub search-first : (A : Type 0) (kinds : List Kind) (g : ℕ → List Item) (lim : ℕ → ℕ) (ts stack : List ℕ) (replay : Replaying) → stack ≡ [] → replay ≡ record { kinds = kinds; done = [] } → IsSearching A kinds g lim ts stack replay 0 0
search-first A kinds g lim ts stack replay none is =
    subst (λ (s : List ℕ). IsSearching A kinds g lim ts s replay 0 0) (sym none)
    (record {
      tried = tried-first (values_at {A = A} kinds []) g lim ts;
      kinds_are = ap (λ (b : Replaying). b.kinds) is;
      done = ap (λ (b : Replaying). b.done) is;
      plays = tt;
      free = tt;
      below_low = λ j below. absurd (omega (arith, below));
    })

-- if no position is open, the order is found
pub search-found : (A : Type 0) (kinds : List Kind) (g : ℕ → List Item) (lim : ℕ → ℕ) (ts stack : List ℕ) (replay : Replaying) (low next open_at : ℕ) → IsSearching A kinds g lim ts stack replay low next → IsOpen lim ts stack low open_at → length ts ≤ open_at
    → IsFound (values_at {A = A} kinds []) g lim ts (Some stack)
search-found A kinds g lim ts stack replay low next open_at s o past =
    let order = placed-order ts stack lim o.distinct o.within o.distinct_stack s.free (λ j within. all-low A kinds g lim ts stack replay low next open_at s o j (omega (arith, within, past))) in
    record {
      order_is = order;
      plays = s.plays;
      same_first = λ is plays. same-first (values_at {A = A} kinds []) g lim ts stack next o.distinct o.within o.distinct_stack is plays order s.tried;
    }

-- one more is placed
pub search-placed : (A : Type 0) (kinds : List Kind) (g : ℕ → List Item) (lim : ℕ → ℕ) (ts stack more : List ℕ) (replay new : Replaying) (low next open_at from c : ℕ) → IsSearching A kinds g lim ts stack replay low next → IsOpen lim ts stack low open_at → open_at < length ts → AreSound kinds g ts → from ≡ max next open_at
    → IsNext A replay new g lim ts stack open_at from c → more ≡ c ∷ stack → IsSearching A kinds g lim ts more new open_at 0
search-placed A kinds g lim ts stack more replay new low next open_at from c s o within sound is n grown =
    subst (λ (x : List ℕ). IsSearching A kinds g lim ts x new open_at 0) (sym grown)
    (record {
      tried = tried-push v g lim ts stack c (tried-more v g lim ts stack next c s.tried (more-refuted A kinds g lim ts stack replay low next open_at from c s o within sound is (let h = n.high in omega (arith, h)) n.passed));
      kinds_are = ap (λ (b : Replaying). b.kinds) n.replay ∙ s.kinds_are;
      done = ap (λ (b : Replaying). b.done) n.replay ∙ ap (λ (is : List Item). is ++ g (at ts c)) s.done ∙ sym (flat-one g (placed ts stack) (at ts c));
      plays = subst (Plays v) (sym (flat-one g (placed ts stack) (at ts c)))
          (plays-both v (flat_map g (placed ts stack)) (g (at ts c)) s.plays (subst (λ (w : Values A). Plays w (g (at ts c))) (sym (replay-values A kinds g lim ts stack replay low next s sound o.within)) n.plays));
      free = (λ j early. all-low A kinds g lim ts stack replay low next open_at s o j (let h = n.free in omega (arith, early, h)), s.free);
      below_low = λ j below. or_right (c == j) (is_in stack j) (all-low A kinds g lim ts stack replay low next open_at s o j below);
    })
  where
    v : Values A
    v = values_at kinds []

-- if no next position can be placed, the placed ones are refuted
pub search-stuck : (A : Type 0) (kinds : List Kind) (g : ℕ → List Item) (lim : ℕ → ℕ) (ts stack : List ℕ) (replay new : Replaying) (low next open_at from : ℕ) → IsSearching A kinds g lim ts stack replay low next → IsOpen lim ts stack low open_at → AreSound kinds g ts → from ≡ max next open_at
    → open_at < length ts → IsNone A replay new g lim ts stack open_at from → IsRefuted (values_at {A = A} kinds []) g lim ts (placed ts stack)
search-stuck A kinds g lim ts stack replay new low next open_at from s o sound is within n =
    refuted-all (values_at {A = A} kinds []) g lim ts stack open_at o.distinct o.within within (o.open_there within)
    (past-more (values_at {A = A} kinds []) g lim ts stack next (length ts) (past-of (values_at {A = A} kinds []) g lim ts stack next s.tried) (more-refuted A kinds g lim ts stack replay low next open_at from (length ts) s o within sound is (omega arith) n.passed))

-- with nothing placed, there is no order
pub search-none : (A : Type 0) (kinds : List Kind) (g : ℕ → List Item) (lim : ℕ → ℕ) (ts stack : List ℕ) → IsRefuted (values_at {A = A} kinds []) g lim ts (placed ts stack) → stack ≡ [] → IsFound (values_at {A = A} kinds []) g lim ts None
search-none A kinds g lim ts stack stuck none = λ order ok plays. stuck.none order order ok (ap (λ (x : List ℕ). placed ts x ++ order) (sym none)) plays

-- no order continues a remembered state
pub search-over : (A : Type 0) (kinds : List Kind) (g : ℕ → List Item) (lim : ℕ → ℕ) (ts stack : List ℕ) (replay new : Replaying) (memo : List (Remembered A)) (low next open_at from : ℕ) → IsSearching A kinds g lim ts stack replay low next → IsOpen lim ts stack low open_at → AreSound kinds g ts → from ≡ max next open_at
    → open_at < length ts → AreDead (values_at {A = A} kinds []) g lim ts memo → IsOver A memo replay new g lim ts stack open_at from → IsRefuted (values_at {A = A} kinds []) g lim ts (placed ts stack)
search-over A kinds g lim ts stack replay new memo low next open_at from s o sound is within dead over =
    elim over.why [
      | inl n ↦ search-stuck A kinds g lim ts stack replay new low next open_at from s o sound is within n
      | inr r ↦
          let d = dead r.entry r.there in
          let v : Values A = values_at kinds [] in
          refuted-equivalent v g lim ts (placed ts d.stack) (placed ts stack) d.distinct d.timely d.plays
          (placed-same ts d.stack stack (λ j. sym (d.is_of.are j) ∙ ap (λ (ms : List Bool). get_or ms j false) (same-packed (length ts / 64 + 1) d.is_of.marks r.is_of.marks (d.is_of.long ∙ sym r.is_of.long) (words-enough d.is_of.marks (length ts) d.is_of.long) (sym d.is_of.words ∙ r.is_of.words)) ∙ r.is_of.are j))
          (λ i k. (sym (d.is_of.states k) ∙ ap (λ (ks : List Kind). values_in (values_at {A = A} ks []) r.entry.changes k) (sym s.kinds_are) ∙ r.is_of.states k ∙ sym (ap (λ (f : Values A). f k) (replay-values A kinds g lim ts stack replay low next s sound o.within))) i)
          d.refuted
    ]

-- a state that no order continues is remembered with the others
pub dead-more : (A : Type 0) (kinds : List Kind) (g : ℕ → List Item) (lim : ℕ → ℕ) (ts stack : List ℕ) (replay new : Replaying) (memo grown : List (Remembered A)) (low next open_at : ℕ) → IsSearching A kinds g lim ts stack replay low next → IsOpen lim ts stack low open_at → AreSound kinds g ts
    → AreDead (values_at {A = A} kinds []) g lim ts memo → new ≡ replay → IsRefuted (values_at {A = A} kinds []) g lim ts (placed ts stack) → IsGrown (values_at {A = A} new.kinds []) (length ts) memo grown stack (values_of {A = A} new) → AreDead (values_at {A = A} kinds []) g lim ts grown
dead-more A kinds g lim ts stack replay new memo grown low next open_at s o sound dead same stuck more = λ e there.
    elim (Contains-push_cases memo more.entry e (subst (λ (xs : List (Remembered A)). Contains xs e) more.grown there)) [
      | inl old ↦ dead e old
      | inr is ↦
          let v : Values A = values_at kinds [] in
          subst (λ (x : Remembered A). IsDead v g lim ts x) is
          (record {
            stack = stack;
            distinct = distinct-placed ts stack o.distinct o.within o.distinct_stack;
            timely = free-timely ts lim stack o.distinct o.within o.distinct_stack s.free;
            within = o.within;
            is_of = record {
              marks = more.is_of.marks;
              long = more.is_of.long;
              are = more.is_of.are;
              words = more.is_of.words;
              states = λ k.
                  ap (λ (ks : List Kind). values_in (values_at {A = A} ks []) more.entry.changes k) (sym (ap (λ (b : Replaying). b.kinds) same ∙ s.kinds_are))
                  ∙ more.is_of.states k ∙ ap (λ (b : Replaying). values_of {A = A} b k) same ∙ sym (ap (λ (f : Values A). f k) (replay-values A kinds g lim ts stack replay low next s sound o.within));
            };
            plays = s.plays;
            refuted = stuck;
          })
    ]

pub dead-kept : (A : Type 0) (kinds : List Kind) (g : ℕ → List Item) (lim : ℕ → ℕ) (ts stack : List ℕ) (replay new : Replaying) (memo grown : List (Remembered A)) (low next open_at : ℕ) → IsSearching A kinds g lim ts stack replay low next → IsOpen lim ts stack low open_at → AreSound kinds g ts
    → AreDead (values_at {A = A} kinds []) g lim ts memo → new ≡ replay → IsRefuted (values_at {A = A} kinds []) g lim ts (placed ts stack) → IsKept (values_at {A = A} new.kinds []) (length ts) memo grown stack (values_of {A = A} new) → AreDead (values_at {A = A} kinds []) g lim ts grown
dead-kept A kinds g lim ts stack replay new memo grown low next open_at s o sound dead same stuck kept =
    elim kept [
      | inl is ↦ let v : Values A = values_at kinds [] in subst (λ (m : List (Remembered A)). AreDead v g lim ts m) (sym is) dead
      | inr more ↦ dead-more A kinds g lim ts stack replay new memo grown low next open_at s o sound dead same stuck more
    ]

-- at first nothing is remembered
pub dead-none : (A : Type 0) (v : Values A) (g : ℕ → List Item) (lim : ℕ → ℕ) (ts : List ℕ) (memo : List (Remembered A)) → memo ≡ [] → AreDead v g lim ts memo
dead-none A v g lim ts memo none e there = let found = subst (λ (xs : List (Remembered A)). Contains xs e) none there in absurd (omega (arith, found.1))

-- the order that is found, or that there is none
pub found-weaker : (A : Type 0) (memo : List (Remembered A)) (old new : Replaying) (g : ℕ → List Item) (lim : ℕ → ℕ) (ts stack : List ℕ) (low from : ℕ) (o : Option ℕ) → IsFoundNext A old new g lim ts stack low from o → IsFoundOrOver A memo old new g lim ts stack low from o
found-weaker A memo old new g lim ts stack low from (Some c) is = is
found-weaker A memo old new g lim ts stack low from None is = record { replay = is.replay; why = inl is }

-- the last one placed is done last
pub done-last : (A : Type 0) (kinds : List Kind) (g : ℕ → List Item) (lim : ℕ → ℕ) (ts stack below : List ℕ) (replay new : Replaying) (low next c : ℕ) → IsSearching A kinds g lim ts stack replay low next → new ≡ replay → stack ≡ c ∷ below → new.done ≡ flat_map g (placed ts below) ++ g (at ts c)
done-last A kinds g lim ts stack below replay new low next c s same popped =
    ap (λ (b : Replaying). b.done) same ∙ s.done ∙ ap (λ (x : List ℕ). flat_map g (placed ts x)) popped ∙ flat-one g (placed ts below) (at ts c)

pub done-long : (xs ys done : List Item) → done ≡ xs ++ ys → length ys ≤ length done
done-long xs ys done is = let all = ap length is ∙ length-append xs ys in omega (arith, all)

-- and is taken back
pub search-back : (A : Type 0) (kinds : List Kind) (g : ℕ → List Item) (lim : ℕ → ℕ) (ts stack below : List ℕ) (replay new left : Replaying) (low next open_at c : ℕ) → IsSearching A kinds g lim ts stack replay low next → IsOpen lim ts stack low open_at
    → new ≡ replay → IsRefuted (values_at {A = A} kinds []) g lim ts (placed ts stack) → stack ≡ c ∷ below → left ≡ record new { done = take (length new.done - length (g (at ts c))) new.done } → IsSearching A kinds g lim ts below left (min open_at c) (c + 1)
search-back A kinds g lim ts stack below replay new left low next open_at c s o same stuck popped cut =
    let whole = done-last A kinds g lim ts stack below replay new low next c s same popped in
    let many = ap length whole ∙ length-append (flat_map g (placed ts below)) (g (at ts c)) in
    let size : length (flat_map g (placed ts below)) ≡ length new.done - length (g (at ts c)) = omega (arith, many) in
    record {
      tried = tried-pop v g lim ts below c next (subst (λ (x : List ℕ). IsTried v g lim ts x next) popped s.tried) (subst (λ (x : List ℕ). IsRefuted v g lim ts (placed ts x)) popped stuck);
      kinds_are = ap (λ (b : Replaying). b.kinds) cut ∙ ap (λ (b : Replaying). b.kinds) same ∙ s.kinds_are;
      done = ap (λ (b : Replaying). b.done) cut ∙ ap (take (length new.done - length (g (at ts c)))) whole ∙ taken_front (length new.done - length (g (at ts c))) (flat_map g (placed ts below)) (g (at ts c)) size;
      free = (subst (λ (x : List ℕ). AreFree lim ts x) popped s.free).1;
      plays = plays-front v (flat_map g (placed ts below)) (g (at ts c)) (subst (Plays v) (ap (λ (x : List ℕ). flat_map g (placed ts x)) popped ∙ flat-one g (placed ts below) (at ts c)) s.plays);
      below_low = λ j under.
          let here = sym (ap (λ (x : List ℕ). is_in x j) popped) ∙ all-low A kinds g lim ts stack replay low next open_at s o j (omega (arith, under)) in
          sym (ap (λ b. b || is_in below j) (ne_eqb c j (λ e. omega (arith, under, e)))) ∙ here;
    }
  where
    v : Values A
    v = values_at kinds []

-- the properties of the stack, by the code's path
pub is-open : (lim : ℕ → ℕ) (ts stack : List ℕ) (size low open_at : ℕ) → size ≡ length ts → AreDistinct ts → AreInTurn lim ts → ((j : ℕ) → low ≤ j → j < open_at → is_in stack j ≡ true) → AreDistinct stack → ((j : ℕ) → is_in stack j ≡ true → j < size) → (open_at < size → is_in stack open_at ≡ false)
    → IsOpen lim ts stack low open_at
is-open lim ts stack size low open_at long d turn passed ds within out = record {
  distinct = d;
  in_turn = turn;
  within = λ j is. let w = within j is in omega (arith, w, long);
  distinct_stack = ds;
  passed = passed;
  open_there = λ w. out (omega (arith, w, long));
}

-- a stack that the search reaches
pub search-reached : (A : Type 0) (kinds : List Kind) (g : ℕ → List Item) (lim : ℕ → ℕ) (ts stack : List ℕ) (replay : Replaying) (low next open_at c : ℕ) → IsSearching A kinds g lim ts (c ∷ stack) replay low next → AreDistinct stack → AreWithin stack (length ts) → c < length ts → is_in stack c ≡ false
    → IsReached (values_at {A = A} kinds []) g lim ts (c ∷ stack)
search-reached A kinds g lim ts stack replay low next open_at c s d w within out = record {
  distinct = (out, d);
  within = λ j there. of j (c == j) refl there;
  free = s.free;
  plays = s.plays;
}
  where
    of : (j : ℕ) (b : Bool) → (c == j) ≡ b → (b || is_in stack j) ≡ true → j < length ts
    of j true e any = subst (λ n. n < length ts) (eqb-true c j e) within
    of j false e any = w j any

-- the next group fits on the replay
pub search-room : (A : Type 0) (kinds : List Kind) (g : ℕ → List Item) (lim : ℕ → ℕ) (ts stack : List ℕ) (replay : Replaying) (low next open_at : ℕ) → IsSearching A kinds g lim ts stack replay low next → IsOpen lim ts stack low open_at → AreFew g → HasRoom replay g ts stack
search-room A kinds g lim ts stack replay low next open_at s o few j within out =
    let d = distinct-push (placed ts stack) (at ts j) (distinct-placed ts stack o.distinct o.within o.distinct_stack) (not-placed ts stack j o.distinct o.within within out) in
    let all = few (placed ts stack ++ at ts j ∷ []) d in
    let many = ap length (flat-one g (placed ts stack) (at ts j)) ∙ length-append (flat_map g (placed ts stack)) (g (at ts j)) in
    let done = ap length s.done in
    omega (arith, all, many, done)
