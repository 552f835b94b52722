-- From blocks of groups of items to the operations of a history.
use Rattle.std.proofs.Common.{arith, ◌≡◌, ℕ, zero, suc, ◌<◌, ◌≤◌, ◌⊎◌, Bool, true, false, ◌&&◌, List, [], ◌∷◌, ◌++◌, length, take, map, fold, Option, Some, None, refl, sym, ap, ◌∙◌, subst, inl, inr}
use Rattle.std.specs.Prelude.{All, option_map, scan, slice_get, unwrap_or, is_some}
use Rattle.std.specs.List.{flat_map, list_all}
use Rattle.std.specs.Option.{option_map_or}
use Rattle.std.proofs.lemmas.Bool.{true≢false, cases_lt}
use Rattle.std.proofs.lemmas.Grind.{fold-append}
use Rattle.std.proofs.lemmas.List.{map-append, take-map}
use Rattle.std.proofs.lemmas.List.Elements.{All-weaker}
use Rattle.std.proofs.lemmas.Option.{slice_get-map}
use Rattle.acta_table.specs.declared.event.Kept.{Kept}
use Rattle.acta_table.specs.declared.event.OpNo.{OpNo}
use Rattle.acta_table.specs.declared.event.Ret.{Ret}
use Rattle.acta_table.specs.declared.model.Kind.{Kind}
use Rattle.acta_table.specs.declared.model.Object.{Object}
use Rattle.acta_table.specs.declared.model.Parts.{Parts}
use Rattle.acta_objects.specs.Objects.{suits}
use Rattle.acta_values.specs.KeptValues.{kinds_of}
use Rattle.acta_axioms.specs.Operations.{Operation}
use Rattle.acta_axioms.specs.Serial.{Values, group_of, first_values, values_after, returned_from}
use Rattle.acta_order.specs.declared.dead_end.Block.{Block}
use Rattle.acta_order.specs.declared.dead_end.DeadEnd.{DeadEnd}
use Rattle.acta_order.specs.declared.item.Item.{Item}
use Rattle.acta_order.specs.declared.orders.Orders.{Orders}
use Rattle.acta_order.specs.Answers.{CanBeNext, IsBlock, IsDeadEnd, IsImpossible, IsUnsound}
use Rattle.acta_order.specs.Blocks.{HasUnsound, HasUnsoundGroup, IsBlocked, IsBlockedAt, IsFirstDifference, IsFree, IsStuck}
use Rattle.acta_order.specs.Earlier.{waits}
use Rattle.acta_order.specs.Orders.{is_in, is_before, AreDistinct, IsState, can_replay, groups_in, txns_of}
use Rattle.acta_order.specs.Search.{AreSound, after, at, due, is_sound, item_of, placed, Plays, values_at}
use Rattle.acta_order.proofs.Answering.{AreCommitted, AreGroups, answer-unsound, first-replay, front-state, items-in}
use Rattle.acta_order.proofs.Placed.{AreWithin, at-in, find-at, is-placed, not-placed}
use Rattle.acta_order.proofs.Playing.{plays-both}
use Rattle.acta_order.proofs.Timely.{find-taken, take-in}

-- the operation that an item at a place is
record IsOf (os : List Operation) (place : ℕ) (item : Item) : Type 0 where
  pub o : Operation
  pub there : slice_get os place ≡ Some o
  pub is : item_of o ≡ item

operation-of : (os : List Operation) (place : ℕ) (item : Item) → slice_get (map item_of os) place ≡ Some item → IsOf os place item
operation-of os place item there = of (slice_get os place) refl (sym (slice_get-map item_of os place) ∙ there)
  where
    of : (x : Option Operation) → slice_get os place ≡ x → option_map item_of x ≡ Some item → IsOf os place item
    of None e is = absurd (true≢false (sym (ap (λ (y : Option Item). is_some y) is)))
    of (Some o) e is = record { o = o; there = e; is = ap (λ (y : Option Item). unwrap_or y item) is }

-- items that can't be replayed

some-same : {X : Type 0} (x y : X) → Some x ≡ Some y → x ≡ y
some-same {X} x y is = ap (λ (o : Option X). unwrap_or o x) is

and-right : (a b : Bool) → b ≡ false → (a && b) ≡ false
and-right true b e = e
and-right false b e = refl

all-but : (p : Item → Bool) (xs : List Item) (i : ℕ) (x : Item) → slice_get xs i ≡ Some x → p x ≡ false → list_all p xs ≡ false
all-but p [] i x there fails = absurd (true≢false (sym (ap (λ (y : Option Item). is_some y) there)))
all-but p (y ∷ xs) zero x there fails = ap (λ b. b && list_all p xs) (ap p (some-same y x there) ∙ fails)
all-but p (y ∷ xs) (suc i) x there fails = and-right (p y) (list_all p xs) (all-but p xs i x there fails)

sound-one : {A : Type 0} (m : Parts A) (o : Operation) → is_sound (kinds_of m.objects) (item_of o) ≡ can_replay m o
sound-one {A} m o = λ i. option_map_or (λ (kind : Kind). suits kind o.op) (slice_get-map (λ (x : Object A). x.kind) m.objects o.object i) false && is_some o.ret

pub unsound-group : (kinds : List Kind) (items : List Item) (number : OpNo) → HasUnsound kinds items number → list_all (is_sound kinds) items ≡ false
unsound-group kinds items number u = all-but (is_sound kinds) items u.place u.item u.there u.fails

pub unsound-of : {A : Type 0} (m : Parts A) (h : List (Kept A)) (g : ℕ → List Item) (ts : List ℕ) (number : OpNo) → AreGroups m h g → AreCommitted h ts → HasUnsoundGroup (kinds_of m.objects) g ts number → IsUnsound m h number
unsound-of m h g ts number are those u =
    let t = at ts u.pos in
    let o = operation-of (group_of m h t) u.there.place u.there.item (subst (λ (is : List Item). slice_get is u.there.place ≡ Some u.there.item) (are t) u.there.there) in
    record {
      txn = t;
      committed = sym (those t) ∙ at-in ts u.pos u.within;
      place = u.there.place;
      o = o.o;
      there = o.there;
      number = ap (λ (x : OpNo). x.0) (u.there.is ∙ ap (λ (x : Item). x.number) (sym o.is));
      fails = sym (sound-one m o.o) ∙ ap (is_sound (kinds_of m.objects)) o.is ∙ u.there.fails;
    }

pub impossible-unsound : {A : Type 0} (orders : Orders) (m : Parts A) (h : List (Kept A)) (g : ℕ → List Item) (ts : List ℕ) (number : OpNo) → AreGroups m h g → AreCommitted h ts → HasUnsoundGroup (kinds_of m.objects) g ts number → IsImpossible orders m h
impossible-unsound orders m h g ts number are those u = answer-unsound orders m h g ts u.pos are those u.within (unsound-group (kinds_of m.objects) (g (at ts u.pos)) number u.there)

-- blocks

-- operations that return what is recorded, and one more
played-one : {A : Type 0} (v : Values A) (os : List Operation) (o : Operation) (would : Option Ret) → Plays v (map item_of os) → would ≡ due (fold after v (map item_of os)) (item_of o) → scan (values_after {A = A}) returned_from v (os ++ o ∷ []) ≡ map (λ q. q.ret) os ++ would ∷ []
played-one v [] o would p is = λ i. sym is i ∷ []
played-one v (q ∷ os) o would p is = λ i. p.0 i ∷ played-one (values_after v q) os o would p.1 is i

-- the operation that differs, after others
record IsBlockAfter {A : Type 0} (v : Values A) (os group : List Operation) (place : ℕ) (item : Item) (would : Option Ret) : Type 0 where
  pub of : IsOf group place item
  pub returns : scan (values_after {A = A}) returned_from v ((os ++ take place group) ++ of.o ∷ []) ≡ map (λ q. q.ret) (os ++ take place group) ++ would ∷ []

block-after : {A : Type 0} (v : Values A) (os group : List Operation) (place : ℕ) (item : Item) (would : Option Ret) → Plays v (map item_of os) → IsFirstDifference (fold after v (map item_of os)) (map item_of group) place item would → IsBlockAfter v os group place item would
block-after {A} v os group place item would plays first =
    let of = operation-of group place item first.there in
    record {
      of = of;
      returns = played-one v (os ++ front) of.o would
          (subst (Plays v) (sym (map-append item_of os front)) (plays-both v (map item_of os) (map item_of front) plays (subst (Plays (fold after v (map item_of os))) (take-map item_of place group) first.front)))
          (first.returns ∙ (λ i. due (sym same i) (sym of.is i)));
    }
  where
    front : List Operation
    front = take place group

    same : fold after v (map item_of (os ++ front)) ≡ fold after (fold after v (map item_of os)) (take place (map item_of group))
    same =
        ap (fold after v) (map-append item_of os front) ∙ fold-append after v (map item_of os) (map item_of front)
        ∙ ap (fold after (fold after v (map item_of os))) (sym (take-map item_of place group))

block-of : {A : Type 0} (m : Parts A) (h : List (Kept A)) (g : ℕ → List Item) (front : List ℕ) (t : ℕ) (b : Block) → AreGroups m h g → Plays (values_at {A = A} (kinds_of m.objects) []) (flat_map g front)
    → IsBlocked (fold after (values_at {A = A} (kinds_of m.objects) []) (flat_map g front)) (g t) t b → IsBlock m h front b
block-of {A} m h g front t b are plays blocked =
    let os = groups_in m h front in
    let u = b.txn.0 in
    let v = first_values m in
    let own : IsFirstDifference (fold after (values_at {A = A} (kinds_of m.objects) []) (flat_map g front)) (map item_of (group_of m h u)) blocked.place blocked.item b.would =
    subst (λ (is : List Item). IsFirstDifference (fold after (values_at {A = A} (kinds_of m.objects) []) (flat_map g front)) is blocked.place blocked.item b.would) (ap g (sym blocked.txn) ∙ are u) blocked.first in
    let first : IsFirstDifference (fold after v (map item_of os)) (map item_of (group_of m h u)) blocked.place blocked.item b.would =
    subst (λ (w : Values A). IsFirstDifference w (map item_of (group_of m h u)) blocked.place blocked.item b.would) (λ i. fold after (first-replay m i) (items-in m h g front are i)) own in
    let replays : Plays v (map item_of os) = subst (Plays v) (items-in m h g front are) (subst (λ (w : Values A). Plays w (flat_map g front)) (first-replay m) plays) in
    let after_all = block-after v os (group_of m h u) blocked.place blocked.item b.would replays first in
    let of = after_all.of in
    record {
      place = blocked.place;
      o = of.o;
      there = of.there;
      number = ap (λ (x : OpNo). x.0) (blocked.op ∙ ap (λ (x : Item). x.number) (sym of.is));
      returned = blocked.returned ∙ ap (λ (x : Item). x.ret) (sym of.is);
      returns = after_all.returns;
      differs = λ same. first.differs (same ∙ ap (λ (x : Item). x.ret) of.is);
    }

-- which transactions could be next

next-of : {A : Type 0} (orders : Orders) (h : List (Kept A)) (lim : ℕ → ℕ) (ts stack : List ℕ) (low j : ℕ) → AreCommitted h ts → waits lim ts ≡ is_before orders h → AreDistinct ts → AreWithin stack (length ts) → ((j : ℕ) → j < low → is_in stack j ≡ true) → IsFree lim ts stack low j → CanBeNext orders h (placed ts stack) (at ts j)
next-of orders h lim ts stack low j those before d w passed free = record {
  committed = sym (those (at ts j)) ∙ at-in ts j free.within;
  open_there = not-placed ts stack j d w free.within free.open_there;
  free = λ u first.
      let f = find-taken ts (lim (at ts j)) u (ap (λ (b : ℕ → ℕ → Bool). b u (at ts j)) before ∙ first) in
      let under : f.pos < low = let below = f.below in let high = free.free in omega (arith, below, high) in
      subst (λ t. is_in (placed ts stack) t ≡ true) f.is (is-placed ts stack f.pos (passed f.pos under));
}

record IsFreeFor (lim : ℕ → ℕ) (ts stack : List ℕ) (low t : ℕ) : Type 0 where
  pub pos : ℕ
  pub is : at ts pos ≡ t
  pub free : IsFree lim ts stack low pos

free-of : {A : Type 0} (orders : Orders) (h : List (Kept A)) (lim : ℕ → ℕ) (ts stack : List ℕ) (low t : ℕ) → AreCommitted h ts → waits lim ts ≡ is_before orders h → AreDistinct ts → AreWithin stack (length ts) → ((j : ℕ) → j < low → is_in stack j ≡ true) → (low < length ts → is_in stack low ≡ false)
    → CanBeNext orders h (placed ts stack) t → IsFreeFor lim ts stack low t
free-of orders h lim ts stack low t those before d w passed open_at next =
    let f = find-at ts t (those t ∙ next.committed) in
    let out : is_in stack f.pos ≡ false = unplaced f.pos f.is (is_in stack f.pos) refl in
    record {
      pos = f.pos;
      is = f.is;
      free = record { within = f.within; open_there = out; free = early f.pos f.within f.is out (cases_lt low (lim (at ts f.pos))) (cases_lt low (length ts)) };
    }
  where
    unplaced : (pos : ℕ) → at ts pos ≡ t → (b : Bool) → is_in stack pos ≡ b → b ≡ false
    unplaced pos is true e = absurd (true≢false (sym (subst (λ u. is_in (placed ts stack) u ≡ true) is (is-placed ts stack pos e)) ∙ next.open_there))
    unplaced pos is false e = refl

    early : (pos : ℕ) → pos < length ts → at ts pos ≡ t → is_in stack pos ≡ false → (low < lim (at ts pos)) ⊎ (lim (at ts pos) ≤ low) → (low < length ts) ⊎ (length ts ≤ low) → lim (at ts pos) ≤ low
    early pos within is out (inr le) other = le
    early pos within is out (inl lt) (inr past) = absurd (true≢false (sym (passed pos (omega (arith, within, past))) ∙ out))
    early pos within is out (inl lt) (inl there) =
        let first : is_before orders h (at ts low) t ≡ true = ap (λ (b : ℕ → ℕ → Bool). b (at ts low) t) (sym before) ∙ ap (λ u. waits lim ts (at ts low) u) (sym is) ∙ take-in ts (lim (at ts pos)) low there lt in
        absurd (true≢false (sym (next.free (at ts low) first) ∙ not-placed ts stack low d w there (open_at there)))

-- a front that the search can't go on from is a dead end
pub dead-end-of : {A : Type 0} (orders : Orders) (m : Parts A) (h : List (Kept A)) (g : ℕ → List Item) (lim : ℕ → ℕ) (ts : List ℕ) → AreGroups m h g → AreCommitted h ts → waits lim ts ≡ is_before orders h → AreDistinct ts → AreSound (kinds_of m.objects) g ts → (d : DeadEnd A)
    → IsStuck (values_at {A = A} (kinds_of m.objects) []) g lim ts d → IsDeadEnd orders m h d
dead-end-of {A} orders m h g lim ts are those before distinct sound d s =
    let stack = s.stack in
    let within = s.reached.within in
    let b = s.blocked in
    let low = b.low in
    record {
      front = subst (IsState orders m h) (sym s.front) (front-state orders m h g lim ts stack are those before distinct sound s.reached);
      next =
          subst (λ (front : List ℕ). All (λ (x : Block). CanBeNext orders h front x.txn.0) d.blocks) (sym s.front)
          (All-weaker (IsBlockedAt values g lim ts stack low) (λ (x : Block). CanBeNext orders h (placed ts stack) x.txn.0)
          (λ x blocked. subst (CanBeNext orders h (placed ts stack)) (sym blocked.blocked.txn) (next-of orders h lim ts stack low blocked.pos those before distinct within b.passed blocked.free)) d.blocks b.blocks_are);
      blocks =
          subst (λ (front : List ℕ). All (IsBlock m h front) d.blocks) (sym s.front)
          (All-weaker (IsBlockedAt values g lim ts stack low) (IsBlock m h (placed ts stack))
          (λ x blocked. block-of m h g (placed ts stack) (at ts blocked.pos) x are s.reached.plays blocked.blocked) d.blocks b.blocks_are);
      each = λ t next.
          let f = free-of orders h lim ts stack low t those before distinct within b.passed b.open_at (subst (λ (front : List ℕ). CanBeNext orders h front t) s.front next) in
          subst (λ u. is_in (txns_of d.blocks) u ≡ true) f.is (b.each f.pos f.free);
    }
  where
    values : Values A
    values = fold after (values_at {A = A} (kinds_of m.objects) []) (flat_map g (placed ts s.stack))
