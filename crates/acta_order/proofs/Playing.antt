-- Items done one after another: whether they replay, and the values after them.
use Rattle.std.proofs.Common.{◌≡◌, ℕ, ◌+◌, ◌<◌, ◌≤◌, ◌==◌, Bool, true, false, ◌&&◌, List, [], ◌∷◌, ◌++◌, length, get_or, take, drop, map, fold, Option, Some, None, refl, sym, ap, ◌∙◌, subst}
use Rattle.std.specs.Prelude.{if◌then◌else◌, option_map, slice_get}
use Rattle.std.specs.List.{cons_option, flat_map, list_all}
use Rattle.std.specs.Option.{option_map_or}
use Rattle.std.proofs.lemmas.Bool.{and_parts, and_from, eqb-true, true≢false}
use Rattle.std.proofs.lemmas.Grind.{fold-append, flat_map-append}
use Rattle.std.proofs.lemmas.List.{append-nil, append_assoc, map-append, take_all, take_at, take_more, take-append-drop}
use Rattle.std.proofs.lemmas.List.Folds.{list_all-append}
use Rattle.std.proofs.lemmas.List.Elements.{filter_map-append}
use Rattle.std.proofs.lemmas.Option.{slice_get-get_or, slice_get_within, get_or_from_slice_get}
use Rattle.std.specs.Prelude.{is_some}
use Rattle.acta_table.specs.declared.event.Ret.{Ret}
use Rattle.acta_table.specs.declared.model.Kind.{Kind}
use Rattle.acta_objects.specs.Objects.{first_state, state_after, step, suits}
use Rattle.acta_sets.specs.declared.held_op.HeldOp.{HeldOp}
use Rattle.acta_values.specs.Live.{live_on, live_ops}
use Rattle.acta_axioms.specs.Serial.{Values}
use Rattle.acta_order.specs.Blocks.{HasDifference, IsPlayed}
use Rattle.acta_order.specs.declared.item.Item.{Item}
use Rattle.acta_order.specs.declared.replay.Difference.{Difference}
use Rattle.acta_order.proofs.Placed.{AreWithin, within-top, within-below}
use Rattle.acta_order.specs.Search.{Replaying, held, values_at, values_of, is_sound, after, at, placed, due, AreSound, Plays}

pub plays-front : {A : Type 0} (v : Values A) (xs ys : List Item) → Plays v (xs ++ ys) → Plays v xs
plays-front v [] ys p = tt
plays-front v (i ∷ xs) ys p = (p.0, plays-front (after v i) xs ys p.1)

pub plays-back : {A : Type 0} (v : Values A) (xs ys : List Item) → Plays v (xs ++ ys) → Plays (fold after v xs) ys
plays-back v [] ys p = p
plays-back v (i ∷ xs) ys p = plays-back (after v i) xs ys p.1

pub plays-both : {A : Type 0} (v : Values A) (xs ys : List Item) → Plays v xs → Plays (fold after v xs) ys → Plays v (xs ++ ys)
plays-both v [] ys p q = q
plays-both v (i ∷ xs) ys p q = (p.0, plays-both (after v i) xs ys p.1 q)

-- one item more
pub values-more : {A : Type 0} (kinds : List Kind) (done : List HeldOp) (i : Item) → is_sound kinds i ≡ true → values_at {A = A} kinds (done ++ held i ∷ []) ≡ after (values_at kinds done) i
values-more {A} kinds done i sound = λ n object. there object n
  where
    more : (kind : Kind) (object : ℕ) (b : Bool) → (i.ob.0 == object) ≡ b → live_ops kind (done ++ held i ∷ []) object ≡ live_ops kind done object ++ cons_option (if b && true && suits kind i.op then Some i.op else None) []
    more kind object b e = filter_map-append (live_on kind object) done (held i ∷ []) ∙ ap (λ x. live_ops kind done object ++ cons_option (if x && true && suits kind i.op then Some i.op else None) []) e

    of : (object : ℕ) (b : Bool) (k : Option Kind) → (i.ob.0 == object) ≡ b → (b ≡ true → option_map_or (λ kind. suits kind i.op) k false ≡ true)
        → option_map (λ kind. state_after (first_state {A = A} kind) (live_ops kind (done ++ held i ∷ []) object)) k
        ≡ (if b then option_map (λ s. step s i.op) (option_map (λ kind. state_after (first_state {A = A} kind) (live_ops kind done object)) k) else option_map (λ kind. state_after (first_state {A = A} kind) (live_ops kind done object)) k)
    of object true None e fits = refl
    of object false None e fits = refl
    of object true (Some kind) e fits =
        ap Some (ap (state_after (first_state {A = A} kind)) (more kind object true e ∙ ap (λ x. live_ops kind done object ++ cons_option (if x then Some i.op else None) []) (fits refl))
        ∙ fold-append step (first_state {A = A} kind) (live_ops kind done object) (i.op ∷ []))
    of object false (Some kind) e fits =
        ap Some (ap (state_after (first_state {A = A} kind)) (more kind object false e ∙ append-nil (live_ops kind done object)))

    there : (object : ℕ) → values_at {A = A} kinds (done ++ held i ∷ []) object ≡ after (values_at kinds done) i object
    there object =
        let fits = and_parts (option_map_or (λ kind. suits kind i.op) (slice_get kinds i.ob.0) false) (is_some i.ret) sound in
        of object (i.ob.0 == object) (slice_get kinds object) refl (λ e. subst (λ n. option_map_or (λ kind. suits kind i.op) (slice_get kinds n) false ≡ true) (eqb-true i.ob.0 object e) fits.0)

-- and more
pub values-fold : {A : Type 0} (kinds : List Kind) (done xs : List Item) → list_all (is_sound kinds) xs ≡ true → fold after (values_at {A = A} kinds (map held done)) xs ≡ values_at kinds (map held (done ++ xs))
values-fold {A} kinds done [] sound = ap (λ (ys : List Item). values_at {A = A} kinds (map held ys)) (sym (append-nil done))
values-fold {A} kinds done (i ∷ xs) sound =
    let both = and_parts (is_sound kinds i) (list_all (is_sound kinds) xs) sound in
    ap (λ (v : Values A). fold after v xs) (sym (ap (values_at {A = A} kinds) (map-append held done (i ∷ [])) ∙ values-more {A = A} kinds (map held done) i both.0))
    ∙ values-fold {A = A} kinds (done ++ i ∷ []) xs both.1
    ∙ ap (λ (ys : List Item). values_at {A = A} kinds (map held ys)) (append_assoc done (i ∷ []) xs)

-- a front of sound items is sound
sound-front : (p : Item → Bool) (xs : List Item) (i : ℕ) → list_all p xs ≡ true → list_all p (take i xs) ≡ true
sound-front p xs i sound = (and_parts (list_all p (take i xs)) (list_all p (drop i xs)) (sym (list_all-append p (take i xs) (drop i xs)) ∙ ap (list_all p) (take-append-drop i xs) ∙ sound)).0

-- the replay has the values after the operations that are done
played-values : (A : Type 0) (old b : Replaying) (group : List Item) (i : ℕ) → list_all (is_sound old.kinds) group ≡ true → b.kinds ≡ old.kinds → b.done ≡ old.done ++ take i group → fold after (values_of {A = A} old) (take i group) ≡ values_of b
played-values A old b group i sound kinds done =
    values-fold {A = A} old.kinds old.done (take i group) (sound-front (is_sound old.kinds) group i sound)
    ∙ (λ x. values_at {A = A} (sym kinds x) (map held (sym done x)))

-- if an item does not return what is recorded, it is the first difference
pub play-differs : (A : Type 0) (old b : Replaying) (group : List Item) (i : ℕ) (d : Item) (would : Option Ret) → i < length group → list_all (is_sound old.kinds) group ≡ true → b.kinds ≡ old.kinds → b.done ≡ old.done ++ take i group → Plays (values_of {A = A} old) (take i group)
    → would ≡ due (values_of {A = A} b) (get_or group i d) → (would ≡ (get_or group i d).ret → ⊥) → HasDifference (values_of {A = A} old) group (record { place = i; would = would })
play-differs A old b group i d would within sound kinds done plays is differs = record {
  item = get_or group i d;
  first = record {
    there = slice_get-get_or group i d within;
    front = plays;
    returns = is ∙ ap (λ (v : Values A). due v (get_or group i d)) (sym (played-values A old b group i sound kinds done));
    differs = differs;
  };
}

-- then these operations are taken back
pub play-back : (old b new : Replaying) (group : List Item) (i len : ℕ) → b.kinds ≡ old.kinds → b.done ≡ old.done ++ take i group → len ≡ length old.done → new ≡ record b { done = take len b.done } → new ≡ old
play-back old b new group i len kinds done long cut =
    cut ∙ (λ j. record { kinds = kinds j; done = (ap (take len) done ∙ take_at old.done (take i group) len (sym long)) j })

-- and the group doesn't replay
pub play-stuck : {A : Type 0} (v : Values A) (group : List Item) (d : Difference) → HasDifference v group d → Plays v group → ⊥
play-stuck {A} v group d h plays =
    let i = d.place in
    let first = h.first in
    let x : Item = get_or group i h.item in
    let same : x ≡ h.item = get_or_from_slice_get group i h.item h.item first.there in
    let whole : group ≡ take i group ++ x ∷ drop (i + 1) group =
    sym (take-append-drop (i + 1) group) ∙ ap (λ (ys : List Item). ys ++ drop (i + 1) group) (take_more group i h.item (slice_get_within group i h.item first.there)) ∙ append_assoc (take i group) (x ∷ []) (drop (i + 1) group) in
    let back = plays-back v (take i group) (x ∷ drop (i + 1) group) (subst (Plays v) whole plays) in
    first.differs (first.returns ∙ subst (λ (y : Item). due (fold after v (take i group)) y ≡ y.ret) same back.0)

-- if it does, one more is done and replays
pub play-done : (old b new : Replaying) (group : List Item) (i : ℕ) (d : Item) → i < length group → b.done ≡ old.done ++ take i group → new ≡ record b { done = b.done ++ get_or group i d ∷ [] } → new.done ≡ old.done ++ take (i + 1) group
play-done old b new group i d within done is =
    ap (λ (x : Replaying). x.done) is ∙ ap (λ (xs : List Item). xs ++ get_or group i d ∷ []) done ∙ append_assoc old.done (take i group) (get_or group i d ∷ [])
    ∙ ap (λ (xs : List Item). old.done ++ xs) (sym (take_more group i d within))

pub play-more : (A : Type 0) (old b : Replaying) (group : List Item) (i : ℕ) (d : Item) → i < length group → list_all (is_sound old.kinds) group ≡ true → b.kinds ≡ old.kinds → b.done ≡ old.done ++ take i group
    → due (values_of {A = A} b) (get_or group i d) ≡ (get_or group i d).ret → Plays (values_of {A = A} old) (take i group) → Plays (values_of {A = A} old) (take (i + 1) group)
play-more A old b group i d within sound kinds done same plays =
    let x : Item = get_or group i d in
    subst (Plays (values_of {A = A} old)) (sym (take_more group i d within))
    (plays-both (values_of {A = A} old) (take i group) (x ∷ []) plays (subst (λ (v : Values A). due v x ≡ x.ret) (sym (played-values A old b group i sound kinds done)) same, tt))

-- a group that is played
pub play-all : (A : Type 0) (old b : Replaying) (group : List Item) (i : ℕ) → length group ≤ i → b.kinds ≡ old.kinds → b.done ≡ old.done ++ take i group → Plays (values_of {A = A} old) (take i group) → IsPlayed A old b group None
play-all A old b group i past kinds done plays = (
  (λ j. record { kinds = kinds j; done = (done ∙ ap (λ (xs : List Item). old.done ++ xs) (take_all i group past)) j }),
  subst (Plays (values_of {A = A} old)) (take_all i group past) plays,
)

-- a group that is not
pub played-some : (A : Type 0) (old new : Replaying) (group : List Item) (o : Option Difference) → is_some o ≡ true → IsPlayed A old new group o → (new ≡ old) × (Plays (values_of {A = A} old) group → ⊥)
played-some A old new group None some is = absurd (true≢false (sym some))
played-some A old new group (Some d) some is = (is.0, play-stuck (values_of {A = A} old) group d is.1)

-- the groups that are placed can be replayed
pub flat-one : (g : ℕ → List Item) (xs : List ℕ) (t : ℕ) → flat_map g (xs ++ t ∷ []) ≡ flat_map g xs ++ g t
flat-one g xs t = flat_map-append g xs (t ∷ []) ∙ ap (λ (is : List Item). flat_map g xs ++ is) (append-nil (g t))

pub sound-placed : (kinds : List Kind) (g : ℕ → List Item) (ts stack : List ℕ) → AreSound kinds g ts → AreWithin stack (length ts) → list_all (is_sound kinds) (flat_map g (placed ts stack)) ≡ true
sound-placed kinds g ts [] sound w = refl
sound-placed kinds g ts (c ∷ below) sound w =
    ap (list_all (is_sound kinds)) (flat-one g (placed ts below) (at ts c)) ∙ list_all-append (is_sound kinds) (flat_map g (placed ts below)) (g (at ts c))
    ∙ and_from (list_all (is_sound kinds) (flat_map g (placed ts below))) (list_all (is_sound kinds) (g (at ts c))) (sound-placed kinds g ts below sound (within-below c below (length ts) w)) (sound c (within-top c below (length ts) w))
