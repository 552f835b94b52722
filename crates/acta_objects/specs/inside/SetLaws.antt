-- The table of conflicts on sets agrees with the definition of conflict.
use Rattle.std.specs.Prelude.{◌≡◌, refl, Bool, true, false, cond, ◌||◌, not, ℤ, pos, List, [], ◌∷◌}
use Rattle.std.proofs.Common.{sym, ap, subst, ◌∙◌}
use Rattle.std.proofs.lemmas.Bool.{true≢false}
use Rattle.std.proofs.lemmas.Cmp.{int_eq_equiv}
use Rattle.std.proofs.lemmas.Bool.Decides.{Decides-int_eq}
use Rattle.std.specs.Ordering.{int_eq, int_cmp}
use Rattle.std.specs.BTreeSet.{insert_key}
use Rattle.std.specs.Set.{remove_key}
use Rattle.acta_table.specs.declared.event.Op.{Op}
use Rattle.acta_table.specs.declared.event.Op.TheVariants.{Read, Write, Get, Add, Insert, Remove, Has, Size}
use Rattle.acta_table.specs.declared.event.Ret.{Ret}
use Rattle.acta_table.specs.declared.event.Ret.TheVariants.{Value, Flag}
use Rattle.acta_objects.specs.Objects.{is_set_op, set_step, set_return}
use Rattle.acta_objects.specs.Conflicts.{Commutes, Conflict, IsSet, set_conflicts}
use Rattle.acta_objects.specs.inside.Sets.{has, same_eq, empty_set, set_of_one, has_inserted_other, has_removed_other, insert_insert, insert_remove, remove_remove}

-- two operations conflict
abbrev Differ : Op → Op → Type 0
Differ p q = Conflict IsSet set_step set_return p q

apart_back : (x y : ℤ) → int_eq x y ≡ false → int_eq y x ≡ false
apart_back x y n = int_eq_equiv.symm y x ∙ n

-- an insertion or a removal does not change a test of another element
reported_inserted : (f : Bool → Ret) (v : List ℤ) (x y : ℤ) → int_eq x y ≡ false → f (has (insert_key int_cmp v y) x) ≡ f (has v x)
reported_inserted f v x y n = ap f (has_inserted_other v x y n)

reported_removed : (f : Bool → Ret) (v : List ℤ) (x y : ℤ) → int_eq x y ≡ false → IsSet v → f (has (remove_key (int_eq y) v) x) ≡ f (has v x)
reported_removed f v x y n s = ap f (has_removed_other v x y n s)

-- if the table says no, the order makes no difference
pub set_commutes : (p q : Op) → set_conflicts p q ≡ false → (v : List ℤ) → IsSet v → Commutes set_step set_return v p q
set_commutes (Insert x) (Insert y) n v s = record {
  state = insert_insert v x y s;
  first = sym (reported_inserted (λ b. Flag (not b)) v x y n);
  second = reported_inserted (λ b. Flag (not b)) v y x (apart_back x y n);
}
set_commutes (Insert x) (Remove y) n v s = record {
  state = insert_remove v x y n s;
  first = sym (reported_removed (λ b. Flag (not b)) v x y n s);
  second = reported_inserted Flag v y x (apart_back x y n);
}
set_commutes (Insert x) (Has y) n v s = record {
  state = refl;
  first = refl;
  second = reported_inserted Flag v y x (apart_back x y n);
}
set_commutes (Insert x) Size n v s = absurd (true≢false n)
set_commutes (Remove x) (Insert y) n v s = record {
  state = sym (insert_remove v y x (apart_back x y n) s);
  first = sym (reported_inserted Flag v x y n);
  second = reported_removed (λ b. Flag (not b)) v y x (apart_back x y n) s;
}
set_commutes (Remove x) (Remove y) n v s = record {
  state = remove_remove v x y s;
  first = sym (reported_removed Flag v x y n s);
  second = reported_removed Flag v y x (apart_back x y n) s;
}
set_commutes (Remove x) (Has y) n v s = record {
  state = refl;
  first = refl;
  second = reported_removed Flag v y x (apart_back x y n) s;
}
set_commutes (Remove x) Size n v s = absurd (true≢false n)
set_commutes (Has x) (Insert y) n v s = record {
  state = refl;
  first = sym (reported_inserted Flag v x y n);
  second = refl;
}
set_commutes (Has x) (Remove y) n v s = record {
  state = refl;
  first = sym (reported_removed Flag v x y n s);
  second = refl;
}
set_commutes Size (Insert y) n v s = absurd (true≢false n)
set_commutes Size (Remove y) n v s = absurd (true≢false n)
set_commutes _ _ n v s = record { state = refl; first = refl; second = refl }

-- what a test returned, if it is one
abbrev answer_in : Ret → Bool
answer_in (Flag b) = b
answer_in _ = false

-- whether a number was returned that is not zero
abbrev is_some_number : Ret → Bool
is_some_number (Value v) = not (int_eq v (pos 0))
is_some_number _ = false

-- a set of one has it, and without it has nothing
only : (x : ℤ) → has (x ∷ []) x ≡ true
only x = ap (λ b. b || false) (same_eq x)

left : (x : ℤ) → remove_key (int_eq x) (x ∷ []) ≡ []
left x = ap (λ b. cond b [] (x ∷ [])) (same_eq x)

insert_insert_same : (x : ℤ) → Differ (Insert x) (Insert x)
insert_insert_same x = record {
  from = [];
  is_state = empty_set;
  differs = λ c. true≢false (ap answer_in c.first ∙ ap not (only x));
}

insert_remove_same : (x : ℤ) → Differ (Insert x) (Remove x)
insert_remove_same x = record {
  from = [];
  is_state = empty_set;
  differs = λ c. true≢false (sym (only x) ∙ ap answer_in c.second);
}

insert_has_same : (x : ℤ) → Differ (Insert x) (Has x)
insert_has_same x = record {
  from = [];
  is_state = empty_set;
  differs = λ c. true≢false (sym (only x) ∙ ap answer_in c.second);
}

remove_insert_same : (x : ℤ) → Differ (Remove x) (Insert x)
remove_insert_same x = record {
  from = [];
  is_state = empty_set;
  differs = λ c. true≢false (sym (ap answer_in c.first ∙ only x));
}

remove_remove_same : (x : ℤ) → Differ (Remove x) (Remove x)
remove_remove_same x = record {
  from = x ∷ [];
  is_state = set_of_one x;
  differs = λ c. true≢false (sym (only x) ∙ ap answer_in c.first ∙ ap (λ v. has v x) (left x));
}

remove_has_same : (x : ℤ) → Differ (Remove x) (Has x)
remove_has_same x = record {
  from = x ∷ [];
  is_state = set_of_one x;
  differs = λ c. true≢false (sym (only x) ∙ sym (ap answer_in c.second) ∙ ap (λ v. has v x) (left x));
}

has_insert_same : (x : ℤ) → Differ (Has x) (Insert x)
has_insert_same x = record {
  from = [];
  is_state = empty_set;
  differs = λ c. true≢false (sym (ap answer_in c.first ∙ only x));
}

has_remove_same : (x : ℤ) → Differ (Has x) (Remove x)
has_remove_same x = record {
  from = x ∷ [];
  is_state = set_of_one x;
  differs = λ c. true≢false (sym (only x) ∙ ap answer_in c.first ∙ ap (λ v. has v x) (left x));
}

-- the number of elements reveals an insertion and a removal
one_and_none : Value (pos 1) ≡ Value (pos 0) → ⊥
one_and_none e = true≢false (ap is_some_number e)

size_left : (x : ℤ) → set_return (remove_key (int_eq x) (x ∷ [])) Size ≡ Value (pos 0)
size_left x = ap (λ v. set_return v Size) (left x)

size_insert : (x : ℤ) → Differ Size (Insert x)
size_insert x = record { from = []; is_state = empty_set; differs = λ c. one_and_none (sym c.first) }

insert_size : (x : ℤ) → Differ (Insert x) Size
insert_size x = record { from = []; is_state = empty_set; differs = λ c. one_and_none c.second }

size_remove : (x : ℤ) → Differ Size (Remove x)
size_remove x = record { from = x ∷ []; is_state = set_of_one x; differs = λ c. one_and_none (c.first ∙ size_left x) }

remove_size : (x : ℤ) → Differ (Remove x) Size
remove_size x = record { from = x ∷ []; is_state = set_of_one x; differs = λ c. one_and_none (sym c.second ∙ size_left x) }

-- what is shown at one element, where the test says that two are the same
at_same : (f g : ℤ → Op) (x y : ℤ) → ((z : ℤ) → Differ (f z) (g z)) → int_eq x y ≡ true → Differ (f x) (g y)
at_same f g x y h e = subst (λ z. Differ (f x) (g z)) ((Decides-int_eq x y).0 e) (h x)

-- if the table says yes, the order makes a difference from some set
pub set_differs : (p q : Op) → set_conflicts p q ≡ true → Conflict IsSet set_step set_return p q
set_differs (Insert x) (Insert y) e = at_same Insert Insert x y insert_insert_same e
set_differs (Insert x) (Remove y) e = at_same Insert Remove x y insert_remove_same e
set_differs (Insert x) (Has y) e = at_same Insert Has x y insert_has_same e
set_differs (Insert x) Size e = insert_size x
set_differs (Remove x) (Insert y) e = at_same Remove Insert x y remove_insert_same e
set_differs (Remove x) (Remove y) e = at_same Remove Remove x y remove_remove_same e
set_differs (Remove x) (Has y) e = at_same Remove Has x y remove_has_same e
set_differs (Remove x) Size e = remove_size x
set_differs (Has x) (Insert y) e = at_same Has Insert x y has_insert_same e
set_differs (Has x) (Remove y) e = at_same Has Remove x y has_remove_same e
set_differs Size (Insert y) e = size_insert y
set_differs Size (Remove y) e = size_remove y
set_differs _ _ e = absurd (true≢false (sym e))

-- an operation that does not belong to sets conflicts with nothing
idle_right : (p q : Op) → is_set_op q ≡ false → set_conflicts p q ≡ false
idle_right p (Insert y) e = absurd (true≢false e)
idle_right p (Remove y) e = absurd (true≢false e)
idle_right p (Has y) e = absurd (true≢false e)
idle_right p Size e = absurd (true≢false e)
idle_right (Insert x) _ e = refl
idle_right (Remove x) _ e = refl
idle_right (Has x) _ e = refl
idle_right Size _ e = refl
idle_right _ _ e = refl

pub set_symmetric : (p q : Op) → set_conflicts p q ≡ set_conflicts q p
set_symmetric (Insert x) (Insert y) = int_eq_equiv.symm x y
set_symmetric (Insert x) (Remove y) = int_eq_equiv.symm x y
set_symmetric (Insert x) (Has y) = int_eq_equiv.symm x y
set_symmetric (Remove x) (Insert y) = int_eq_equiv.symm x y
set_symmetric (Remove x) (Remove y) = int_eq_equiv.symm x y
set_symmetric (Remove x) (Has y) = int_eq_equiv.symm x y
set_symmetric (Has x) (Insert y) = int_eq_equiv.symm x y
set_symmetric (Has x) (Remove y) = int_eq_equiv.symm x y
set_symmetric Size (Insert y) = refl
set_symmetric Size (Remove y) = refl
set_symmetric Read q = sym (idle_right q Read refl)
set_symmetric (Write w) q = sym (idle_right q (Write w) refl)
set_symmetric Get q = sym (idle_right q Get refl)
set_symmetric (Add n) q = sym (idle_right q (Add n) refl)
set_symmetric _ _ = refl
