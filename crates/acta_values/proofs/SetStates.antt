-- The effect of operations on a set, element by element.
use Rattle.std.proofs.Common.{◌≡◌, ℕ, Bool, true, false, cond, ◌||◌, List, [], ◌∷◌, fold, filter_map, Some, None, refl, sym, ap, ◌∙◌}
use Rattle.std.specs.Prelude.{ℤ}
use Rattle.std.specs.BTreeSet.{insert_key}
use Rattle.std.specs.List.{cons_option}
use Rattle.std.specs.Set.{remove_key}
use Rattle.std.specs.declared.cmp.Ordering.{Ordering}
use Rattle.std.specs.declared.cmp.Ordering.TheVariants.{Less, Equal, Greater}
use Rattle.std.specs.Ordering.{int_cmp, int_eq, is_eq, match_ordering}
use Rattle.std.proofs.lemmas.Cmp.{int_eq_equiv}
use Rattle.std.proofs.lemmas.Bool.Decides.{Decides-int_eq}
use Rattle.acta_table.specs.declared.event.Op.{Op}
use Rattle.acta_table.specs.declared.event.Op.TheVariants.{Insert, Remove}
use Rattle.acta_objects.specs.Conflicts.{IsSet}
use Rattle.acta_objects.specs.Objects.{set_step}
use Rattle.acta_objects.specs.inside.Sets.{has, empty_set, head_below, tail_set, lacks_below, same_eq, same_sets, insert_is_set, remove_is_set, has_inserted_other, has_removed_other}
use Rattle.acta_values.specs.declared.trail.Numbered.{Numbered}
use Rattle.acta_values.specs.Trails.{last_or}
use Rattle.acta_values.specs.LiveSets.{Marks, IsOrdered, trail_at, is_on, elements_of}
use Rattle.acta_values.specs.LiveValues.{ops_of, mark_by, marked}
use Rattle.acta_values.proofs.LiveSets.{elements_set, has_elements}

-- an inserted element is present
has_inserted : (xs : List ℤ) (x : ℤ) → has (insert_key int_cmp xs x) x ≡ true
has_inserted [] x = ap (λ b. b || false) (same_eq x)
has_inserted (y ∷ ys) x = at (int_cmp x y) refl (has_inserted ys x)
  where
    or_true : (b : Bool) → (b || true) ≡ true
    or_true true = refl
    or_true false = refl

    at : (o : Ordering) → int_cmp x y ≡ o → has (insert_key int_cmp ys x) x ≡ true
        → has (match_ordering o (x ∷ y ∷ ys) (y ∷ ys) (y ∷ insert_key int_cmp ys x)) x ≡ true
    at Less e later = ap (λ b. b || (int_eq x y || has ys x)) (same_eq x)
    at Equal e later = ap (λ o. is_eq o || has ys x) e
    at Greater e later = ap (λ b. int_eq x y || b) later ∙ or_true (int_eq x y)

-- a removed element is absent
has_removed : (xs : List ℤ) (x : ℤ) → IsSet xs → has (remove_key (int_eq x) xs) x ≡ false
has_removed [] x s = refl
has_removed (y ∷ ys) x s = at (int_eq x y) refl (has_removed ys x (tail_set y ys s))
  where
    at : (t : Bool) → int_eq x y ≡ t → has (remove_key (int_eq x) ys) x ≡ false → has (cond t ys (y ∷ remove_key (int_eq x) ys)) x ≡ false
    at true e later = ap (has ys) ((Decides-int_eq x y).0 e) ∙ lacks_below y ys (head_below y ys s)
    at false e later = ap (λ b. b || has (remove_key (int_eq x) ys) x) e ∙ later

pub step_is_set : (xs : List ℤ) (op : Op) → IsSet xs → IsSet (set_step xs op)
step_is_set xs (Insert x) s = insert_is_set xs x s
step_is_set xs (Remove x) s = remove_is_set xs x s
step_is_set xs _ s = s

pub state_is_set : (ops : List (Numbered Op)) (xs : List ℤ) → IsSet xs → IsSet (fold set_step xs (ops_of ops))
state_is_set [] xs s = s
state_is_set (o ∷ ops) xs s = state_is_set ops (set_step xs o.item) (step_is_set xs o.item s)

-- one operation: whether q is there then, as far as later ones leave it
has_stepped : (n : ℕ) (op : Op) (xs : List ℤ) (q : ℤ) (rest : List (Numbered Bool)) → IsSet xs
    → last_or (has (set_step xs op) q) rest ≡ last_or (has xs q) (cons_option (mark_by q n op) rest)
has_stepped n (Insert y) xs q rest s = at (int_eq y q) refl
  where
    at : (b : Bool) → int_eq y q ≡ b → last_or (has (insert_key int_cmp xs y) q) rest ≡ last_or (has xs q) (cons_option (cond b (Some (record { number = n; item = true })) None) rest)
    at true e = ap (λ b. last_or b rest) (ap (λ z. has (insert_key int_cmp xs y) z) (sym ((Decides-int_eq y q).0 e)) ∙ has_inserted xs y)
    at false e = ap (λ b. last_or b rest) (has_inserted_other xs q y (int_eq_equiv.symm q y ∙ e))
has_stepped n (Remove y) xs q rest s = at (int_eq y q) refl
  where
    at : (b : Bool) → int_eq y q ≡ b → last_or (has (remove_key (int_eq y) xs) q) rest ≡ last_or (has xs q) (cons_option (cond b (Some (record { number = n; item = false })) None) rest)
    at true e = ap (λ b. last_or b rest) (ap (λ z. has (remove_key (int_eq y) xs) z) (sym ((Decides-int_eq y q).0 e)) ∙ has_removed xs y s)
    at false e = ap (λ b. last_or b rest) (has_removed_other xs q y (int_eq_equiv.symm q y ∙ e) s)
has_stepped n _ xs q rest s = refl

-- an element is present if the last operation that names it inserted it
pub state_has : (ops : List (Numbered Op)) (xs : List ℤ) → IsSet xs → (q : ℤ) → has (fold set_step xs (ops_of ops)) q ≡ last_or (has xs q) (filter_map (marked q) ops)
state_has [] xs s q = refl
state_has (o ∷ ops) xs s q =
    state_has ops (set_step xs o.item) (step_is_set xs o.item s) q
    ∙ has_stepped o.number o.item xs q (filter_map (marked q) ops) s

-- the trails agree with the effect of the operations
pub elements_after : (marks : Marks) (ops : List (Numbered Op)) → IsOrdered marks → ((x : ℤ) → trail_at marks x ≡ filter_map (marked x) ops) → elements_of marks ≡ fold set_step [] (ops_of ops)
elements_after marks ops ordered shown =
    same_sets (elements_of marks) (fold set_step [] (ops_of ops)) (elements_set marks ordered) (state_is_set ops [] empty_set)
    (λ q. has_elements marks ordered q ∙ ap is_on (shown q) ∙ sym (state_has ops [] empty_set q))
