-- Current values with the operations of a transaction undone.
use Rattle.std.proofs.Common.{◌≡◌, ◌≢◌, ℕ, zero, suc, ◌+◌, ◌-◌, ◌<◌, ◌≤◌, ◌==◌, Bool, true, false, not, ◌&&◌, ◌||◌, cond, inl, inr, List, [], ◌∷◌, ◌++◌, length, get_or, set, take, drop, filter, Option, Some, None, refl, sym, ap, ◌∙◌, subst, arith, eq-eqb, ne_eqb}
use Rattle.std.specs.Prelude.{option_map, slice_get}
use Rattle.std.specs.List.{AllByRecursion, Contains, cons_option, list_any}
use Rattle.std.proofs.lemmas.Bool.{cases_eq, and_parts}
use Rattle.std.proofs.lemmas.Option.{slice_get_within, slice_get-get_or, get_or_from_slice_get}
use Rattle.acta_table.specs.declared.answer.Fate.{Fate}
use Rattle.acta_table.specs.declared.answer.Fate.TheVariants.{InProgress, Committed, Aborted}
use Rattle.acta_table.specs.declared.event.Op.{Op}
use Rattle.acta_table.specs.declared.model.Kind.{Kind}
use Rattle.acta_table.specs.declared.model.Kind.TheVariants.{Elements as elements_kind}
use Rattle.acta_table.specs.Fates.{is_open, is_aborted}
use Rattle.acta_table.specs.Numbered.{numbers_from, numbers_where}
use Rattle.acta_sets.specs.declared.held_op.HeldOp.{HeldOp}
use Rattle.acta_sets.specs.Operations.{is_held, is_live, ended}
use Rattle.acta_values.specs.KeptValues.{stays_on}
use Rattle.acta_values.specs.declared.live_value.LiveValue.{LiveValue}
use Rattle.acta_values.specs.declared.trail.Numbered.{Numbered}
use Rattle.acta_values.specs.LiveValues.{IsAfter, Counts}
use Rattle.acta_values.specs.Trails.{without, AreAbove}
use Rattle.acta_values.specs.KeptValues.{numbered_on, numbered_from, numbered_live, AreAfter, IsUndoneAt}
use Rattle.acta_values.proofs.Added.{length_set}
use Rattle.acta_values.proofs.Numbering.{above_from, live_at, live_off, set_same, set_other}

-- whether a number is in the list
abbrev pub is_among : List ℕ → ℕ → Bool
is_among ns n = list_any (λ m. m == n) ns

-- the items whose numbers are not in the list
abbrev pub without_all : List ℕ → List (Numbered Op) → List (Numbered Op)
without_all ns ops = filter (λ o. not (is_among ns o.number)) ops

-- each value is that of its object after the operations that count on it, except these
pub record AreAfterBut {A : Type 0} (kinds : List Kind) (items : List HeldOp) (ns : List ℕ) (values : List (LiveValue A)) : Type 0 where
  pub long : length values ≡ length kinds
  pub each : (k : ℕ) (kind : Kind) (value : LiveValue A) → slice_get kinds k ≡ Some kind → slice_get values k ≡ Some value → IsAfter kind (without_all ns (numbered_live items k)) value

-- the numbers of the operations that t holds in progress, where the first has the number n
abbrev pub held_from : ℕ → ℕ → List HeldOp → List ℕ
held_from t n items = numbers_from (is_held t) n items

-- ---- what is left without some, and one more

eqb_turned : (a b : ℕ) → (a == b) ≡ (b == a)
eqb_turned a b = elim (cases_eq a b) [ inl e ↦ eq-eqb a b e ∙ sym (eq-eqb b a (sym e)) | inr n ↦ ne_eqb a b n ∙ sym (ne_eqb b a (λ e. n (sym e))) ]

pub without_next : (o : ℕ) (ns : List ℕ) (xs : List (Numbered Op)) → without o (without_all ns xs) ≡ without_all (o ∷ ns) xs
without_next o ns [] = refl
without_next o ns (x ∷ xs) = at (o == x.number) (is_among ns x.number) (eqb_turned x.number o) (without_next o ns xs)
  where
    at : (p q : Bool) → (x.number == o) ≡ p → without o (without_all ns xs) ≡ without_all (o ∷ ns) xs
        → without o (cond (not q) (x ∷ without_all ns xs) (without_all ns xs)) ≡ cond (not (p || q)) (x ∷ without_all (o ∷ ns) xs) (without_all (o ∷ ns) xs)
    at true true e later = later
    at true false e later = ap (λ b. cond (not b) (x ∷ without o (without_all ns xs)) (without o (without_all ns xs))) e ∙ later
    at false true e later = later
    at false false e later =
        ap (λ b. cond (not b) (x ∷ without o (without_all ns xs)) (without o (without_all ns xs))) e ∙ ap (λ (ys : List (Numbered Op)). x ∷ ys) later

-- a number that is not in the list makes no difference
without_other : (o : ℕ) (ns : List ℕ) (xs : List (Numbered Op)) → AllByRecursion (λ x. x.number ≢ o) xs → without_all (o ∷ ns) xs ≡ without_all ns xs
without_other o ns [] others = refl
without_other o ns (x ∷ xs) others =
    ap (λ b. cond (not (b || is_among ns x.number)) (x ∷ without_all (o ∷ ns) xs) (without_all (o ∷ ns) xs)) (ne_eqb o x.number (λ e. others.0 (sym e)))
    ∙ ap (λ (ys : List (Numbered Op)). cond (not (is_among ns x.number)) (x ∷ ys) ys) (without_other o ns xs others.1)

pub without_nothing : (xs : List (Numbered Op)) → without_all [] xs ≡ xs
without_nothing [] = refl
without_nothing (x ∷ xs) = ap (λ (ys : List (Numbered Op)). x ∷ ys) (without_nothing xs)

above_others : (n : ℕ) (xs : List (Numbered Op)) → AreAbove n xs → AllByRecursion (λ x. x.number ≢ n) xs
above_others n [] above = tt
above_others n (x ∷ xs) above = ((λ e. omega (arith, above.0, e)), above_others n xs above.1)

-- ---- those that t holds

pub named_above : (t n m : ℕ) (items : List HeldOp) → m < n → is_among (held_from t n items) m ≡ false
named_above t n m [] less = refl
named_above t n m (i ∷ items) less = at (is_held t i) (named_above t (n + 1) m items (omega arith))
  where
    apart : (n == m) ≡ false
    apart = ne_eqb n m (λ e. omega (arith, e, less))

    at : (b : Bool) → is_among (held_from t (n + 1) items) m ≡ false
        → is_among (cond b (n ∷ numbers_from (is_held t) (n + 1) items) (numbers_from (is_held t) (n + 1) items)) m ≡ false
    at true later = ap (λ b. b || is_among (held_from t (n + 1) items) m) apart ∙ later
    at false later = later

aborted_off : (object : ℕ) (i : HeldOp) → stays_on object (record i { fate = Aborted }) ≡ None
aborted_off object i = at (i.ob.0 == object)
  where
    at : (b : Bool) → cond (b && false) (Some i.op) None ≡ None
    at true = refl
    at false = refl

-- after the abort, the operations that count are those without t's
pub ended_without : (object t n : ℕ) (items : List HeldOp) → without_all (held_from t n items) (numbered_from object n items) ≡ numbered_from object n (ended t Aborted items)
ended_without object t n [] = refl
ended_without object t n (i ∷ items) = at (is_held t i) (stays_on object i) refl (ended_without object t (n + 1) items)
  where
    skipped : without_all (n ∷ held_from t (n + 1) items) (numbered_from object (n + 1) items) ≡ without_all (held_from t (n + 1) items) (numbered_from object (n + 1) items)
    skipped = without_other n (held_from t (n + 1) items) (numbered_from object (n + 1) items) (above_others n (numbered_from object (n + 1) items) (above_from object (n + 1) n items (omega arith)))

    at : (b : Bool) (r : Option Op) → stays_on object i ≡ r
        → without_all (held_from t (n + 1) items) (numbered_from object (n + 1) items) ≡ numbered_from object (n + 1) (ended t Aborted items)
        → without_all (cond b (n ∷ numbers_from (is_held t) (n + 1) items) (numbers_from (is_held t) (n + 1) items))
        (cons_option (option_map (λ op. record { number = n; item = op }) r) (numbered_from object (n + 1) items))
        ≡ cons_option (numbered_on object n (cond b (record i { fate = Aborted }) i)) (numbered_from object (n + 1) (ended t Aborted items))
    at true None is later =
        skipped ∙ later
        ∙ sym (ap (λ q. cons_option (option_map (λ op. record { number = n; item = op }) q) (numbered_from object (n + 1) (ended t Aborted items))) (aborted_off object i))
    at true (Some op) is later =
        ap (λ b. cond (not (b || is_among (held_from t (n + 1) items) n)) ((record { number = n; item = op }) ∷ without_all (n ∷ held_from t (n + 1) items) (numbered_from object (n + 1) items)) (without_all (n ∷ held_from t (n + 1) items) (numbered_from object (n + 1) items))) (eq-eqb n n refl)
        ∙ skipped ∙ later
        ∙ sym (ap (λ q. cons_option (option_map (λ op. record { number = n; item = op }) q) (numbered_from object (n + 1) (ended t Aborted items))) (aborted_off object i))
    at false None is later =
        later
        ∙ sym (ap (λ q. cons_option (option_map (λ op. record { number = n; item = op }) q) (numbered_from object (n + 1) (ended t Aborted items))) is)
    at false (Some op) is later =
        ap (λ b. cond (not b) ((record { number = n; item = op }) ∷ without_all (held_from t (n + 1) items) (numbered_from object (n + 1) items)) (without_all (held_from t (n + 1) items) (numbered_from object (n + 1) items))) (named_above t (n + 1) n items (omega arith))
        ∙ ap (λ (ys : List (Numbered Op)). (record { number = n; item = op }) ∷ ys) later
        ∙ sym (ap (λ q. cons_option (option_map (λ op. record { number = n; item = op }) q) (numbered_from object (n + 1) (ended t Aborted items))) is)

-- ---- one of those that t holds

-- it is among all, and t holds it
pub held_there : (t n : ℕ) (items : List HeldOp) (k : ℕ) (d : ℕ) (e : HeldOp) → k < length (held_from t n items)
    → (n ≤ (get_or (held_from t n items) k d)) × ((get_or (held_from t n items) k d) < n + length items) × (is_held t (get_or items ((get_or (held_from t n items) k d) - n) e) ≡ true)
held_there t n [] k d e within = absurd (omega arith)
held_there t n (i ∷ items) k d e within = at (is_held t i) k refl (λ j. held_there t (n + 1) items j d e) within
  where
    later : (m : ℕ) → (n + 1 ≤ m) × (m < (n + 1) + length items) × (is_held t (get_or items (m - (n + 1)) e) ≡ true) → (n ≤ m) × (m < n + length (i ∷ items)) × (is_held t (get_or (i ∷ items) (m - n) e) ≡ true)
    later m h =
        let next : m - n ≡ suc (m - (n + 1)) = omega (arith, h.0) in
        (omega (arith, h.0), omega (arith, h.1), ap (λ j. is_held t (get_or (i ∷ items) j e)) next ∙ h.2)

    at : (b : Bool) (j : ℕ) → is_held t i ≡ b
        → ((j : ℕ) → j < length (held_from t (n + 1) items) → (n + 1 ≤ (get_or (held_from t (n + 1) items) j d)) × ((get_or (held_from t (n + 1) items) j d) < (n + 1) + length items) × (is_held t (get_or items ((get_or (held_from t (n + 1) items) j d) - (n + 1)) e) ≡ true))
        → j < length {A = ℕ} (cond b (n ∷ numbers_from (is_held t) (n + 1) items) (numbers_from (is_held t) (n + 1) items))
        → (n ≤ (get_or (cond b (n ∷ numbers_from (is_held t) (n + 1) items) (numbers_from (is_held t) (n + 1) items)) j d))
        × ((get_or (cond b (n ∷ numbers_from (is_held t) (n + 1) items) (numbers_from (is_held t) (n + 1) items)) j d) < n + length (i ∷ items))
        × (is_held t (get_or (i ∷ items) ((get_or (cond b (n ∷ numbers_from (is_held t) (n + 1) items) (numbers_from (is_held t) (n + 1) items)) j d) - n) e) ≡ true)
    at true zero is rec lt =
        let none : n - n ≡ 0 = omega arith in
        (omega arith, omega arith, ap (λ j. is_held t (get_or (i ∷ items) j e)) none ∙ is)
    at true (suc j) is rec lt = later (get_or (held_from t (n + 1) items) j d) (rec j (omega (arith, lt)))
    at false j is rec lt = later (get_or (held_from t (n + 1) items) j d) (rec j lt)

-- no later operation has its number
pub not_named_later : (t n : ℕ) (items : List HeldOp) (k : ℕ) (d : ℕ) → k < length (held_from t n items) → is_among (drop (suc k) (held_from t n items)) (get_or (held_from t n items) k d) ≡ false
not_named_later t n [] k d within = absurd (omega arith)
not_named_later t n (i ∷ items) k d within = at (is_held t i) k (λ j. not_named_later t (n + 1) items j d) within
  where
    at : (b : Bool) (j : ℕ)
        → ((j : ℕ) → j < length (held_from t (n + 1) items) → is_among (drop (suc j) (held_from t (n + 1) items)) (get_or (held_from t (n + 1) items) j d) ≡ false)
        → j < length {A = ℕ} (cond b (n ∷ numbers_from (is_held t) (n + 1) items) (numbers_from (is_held t) (n + 1) items))
        → is_among (drop (suc j) (cond b (n ∷ numbers_from (is_held t) (n + 1) items) (numbers_from (is_held t) (n + 1) items))) (get_or (cond b (n ∷ numbers_from (is_held t) (n + 1) items) (numbers_from (is_held t) (n + 1) items)) j d) ≡ false
    at true zero rec lt = named_above t (n + 1) n items (omega arith)
    at true (suc j) rec lt = rec j (omega (arith, lt))
    at false j rec lt = rec j lt

contains_head : (x : Numbered Op) (xs : List (Numbered Op)) → Contains (x ∷ xs) x
contains_head x xs = (0, omega arith, refl)

contains_cons : (r : Option (Numbered Op)) (xs : List (Numbered Op)) (x : Numbered Op) → Contains xs x → Contains (cons_option r xs) x
contains_cons None xs x there = there
contains_cons (Some y) xs x there = (suc there.0, omega (arith, there.1), there.2)

contains_kept : (p : Numbered Op → Bool) (xs : List (Numbered Op)) (x : Numbered Op) (k : ℕ) → k < length xs → get_or xs k x ≡ x → p x ≡ true → Contains (filter p xs) x
contains_kept p [] x k within is passes = absurd (omega arith)
contains_kept p (y ∷ xs) x zero within is passes =
    let here : p y ≡ true = ap p is ∙ passes in
    subst (λ b. Contains (cond b (y ∷ filter p xs) (filter p xs)) x) (sym here) (subst (λ z. Contains (y ∷ filter p xs) z) is (contains_head y (filter p xs)))
contains_kept p (y ∷ xs) x (suc k) within is passes = at (p y) (contains_kept p xs x k (omega arith) is passes)
  where
    at : (b : Bool) → Contains (filter p xs) x → Contains (cond b (y ∷ filter p xs) (filter p xs)) x
    at true there = contains_cons (Some y) (filter p xs) x there
    at false there = there

-- an operation that counts on the object is in the object's list
contains_live : (object n : ℕ) (items : List HeldOp) (m : ℕ) (e : HeldOp) (op : Op) → n ≤ m → m < n + length items → stays_on object (get_or items (m - n) e) ≡ Some op → Contains (numbered_from object n items) (record { number = m; item = op })
contains_live object n [] m e op low high live = absurd (omega arith)
contains_live object n (i ∷ items) m e op low high live =
    elim (cases_eq m n) [
      | inl same ↦
          let none : m - n ≡ 0 = omega (arith, same) in
          let here : stays_on object i ≡ Some op = ap (λ j. stays_on object (get_or (i ∷ items) j e)) (sym none) ∙ live in
          subst (λ q. Contains (cons_option (option_map (λ p. record { number = n; item = p }) q) (numbered_from object (n + 1) items)) (record { number = m; item = op })) (sym here) (subst (λ (j : ℕ). Contains ((record { number = n; item = op }) ∷ numbered_from object (n + 1) items) (record { number = j; item = op })) (sym same) (contains_head (record { number = n; item = op }) (numbered_from object (n + 1) items)))
      | inr other ↦
          let next : m - n ≡ suc (m - (n + 1)) = omega (arith, low, other) in
          let there : stays_on object (get_or items (m - (n + 1)) e) ≡ Some op = ap (λ j. stays_on object (get_or (i ∷ items) j e)) (sym next) ∙ live in
          contains_cons (numbered_on object n i) (numbered_from object (n + 1) items) (record { number = m; item = op }) (contains_live object (n + 1) items m e op (omega (arith, low, other)) (omega (arith, high)) there)
    ]

-- if it does not count, no item of that list has its number
no_number : (object n : ℕ) (items : List HeldOp) (m : ℕ) (e : HeldOp) → n ≤ m → m < n + length items → stays_on object (get_or items (m - n) e) ≡ None → AllByRecursion (λ x. x.number ≢ m) (numbered_from object n items)
no_number object n [] m e low high off = tt
no_number object n (i ∷ items) m e low high off =
    elim (cases_eq m n) [
      | inl same ↦
          let none : m - n ≡ 0 = omega (arith, same) in
          let here : stays_on object i ≡ None = ap (λ j. stays_on object (get_or (i ∷ items) j e)) (sym none) ∙ off in
          subst (λ q. AllByRecursion (λ x. x.number ≢ m) (cons_option (option_map (λ p. record { number = n; item = p }) q) (numbered_from object (n + 1) items))) (sym here) (above_others m (numbered_from object (n + 1) items) (above_from object (n + 1) m items (omega (arith, same))))
      | inr other ↦
          let next : m - n ≡ suc (m - (n + 1)) = omega (arith, low, other) in
          let there : stays_on object (get_or items (m - (n + 1)) e) ≡ None = ap (λ j. stays_on object (get_or (i ∷ items) j e)) (sym next) ∙ off in
          at (stays_on object i) (λ same. other (sym same)) (no_number object (n + 1) items m e (omega (arith, low, other)) (omega (arith, high)) there)
    ]
  where
    at : (r : Option Op) → n ≢ m → AllByRecursion (λ x. x.number ≢ m) (numbered_from object (n + 1) items)
        → AllByRecursion (λ x. x.number ≢ m) (cons_option (option_map (λ p. record { number = n; item = p }) r) (numbered_from object (n + 1) items))
    at None other later = later
    at (Some op) other later = (other, later)

-- ---- one of them is taken back

open_live : (f : Fate) → is_open f ≡ true → not (is_aborted f) ≡ true
open_live InProgress is = refl
open_live Committed is = cc
open_live Aborted is = cc

-- an operation that t holds, at its number
pub record IsHeldAt (t : ℕ) (items : List HeldOp) (o : ℕ) (e : HeldOp) : Type 0 where
  pub low : 1 ≤ o
  pub high : o < 1 + length items
  pub held : is_held t (get_or items (o - 1) e) ≡ true

held_live : (items : List HeldOp) (t o : ℕ) (e : HeldOp) → IsHeldAt t items o e → is_live (get_or items (o - 1) e) ≡ true
held_live items t o e at = open_live (get_or items (o - 1) e).fate (and_parts ((get_or items (o - 1) e).holder.0 == t) (is_open (get_or items (o - 1) e).fate) at.held).1

-- it is one of the operations that made the value
pub held_counts : (items : List HeldOp) (t o : ℕ) (ns : List ℕ) (e : HeldOp) → IsHeldAt t items o e → is_among ns o ≡ false
    → Contains (without_all ns (numbered_live items (get_or items (o - 1) e).ob.0)) (record { number = o; item = (get_or items (o - 1) e).op })
held_counts items t o ns e at unnamed =
    let i = get_or items (o - 1) e in
    let there = contains_live i.ob.0 1 items o e i.op at.low at.high (live_at i.ob.0 i refl (held_live items t o e at)) in
    contains_kept (λ x. not (is_among ns x.number)) (numbered_live items i.ob.0) (record { number = o; item = i.op }) there.0 there.1 there.2 (ap not unnamed)

pub but_next : {A : Type 0} (kinds : List Kind) (items : List HeldOp) (t : ℕ) (ns : List ℕ) (o : ℕ) (e : HeldOp) (old new : List (LiveValue A))
    → IsHeldAt t items o e → is_among ns o ≡ false
    → AreAfterBut kinds items ns old → IsUndoneAt o (get_or items (o - 1) e).ob.0 (get_or items (o - 1) e).op old new → AreAfterBut kinds items (o ∷ ns) new
but_next {A = A} kinds items t ns o e old new at unnamed but undone = record { long = undone.long ∙ but.long; each = each }
  where
    each : (k : ℕ) (kind : Kind) (value : LiveValue A) → slice_get kinds k ≡ Some kind → slice_get new k ≡ Some value → IsAfter kind (without_all (o ∷ ns) (numbered_live items k)) value
    each k kind value kind_is value_is =
        let i = get_or items (o - 1) e in
        elim (cases_eq i.ob.0 k) [
          | inl same ↦
              let within : k < length old = let there = slice_get_within kinds k kind kind_is in omega (arith, there, but.long) in
              let v : LiveValue A = get_or old k value in
              let here : slice_get old k ≡ Some v = slice_get-get_or old k value within in
              let counts = held_counts items t o ns e at unnamed in
              let after = undone.taken kind (without_all ns (numbered_live items i.ob.0)) v value (ap (λ j. slice_get old j) same ∙ here) (ap (λ j. slice_get new j) same ∙ value_is) (subst (λ (j : ℕ). IsAfter kind (without_all ns (numbered_live items j)) v) (sym same) (but.each k kind v kind_is here)) counts in
              subst (λ (ops : List (Numbered Op)). IsAfter kind ops value) (without_next o ns (numbered_live items k)) (subst (λ (j : ℕ). IsAfter kind (without o (without_all ns (numbered_live items j))) value) same after)
          | inr other ↦
              let before = but.each k kind value kind_is (sym (undone.others k (λ is. other (sym is))) ∙ value_is) in
              let none = no_number k 1 items o e at.low at.high (live_off k i other) in
              subst (λ (ops : List (Numbered Op)). IsAfter kind ops value) (sym (without_other o ns (numbered_live items k) none)) before
        ]

-- the value of its object can undo it
pub counts_at : {A : Type 0} (kinds : List Kind) (items : List HeldOp) (t : ℕ) (ns : List ℕ) (o : ℕ) (e : HeldOp) (values : List (LiveValue A)) (d : LiveValue A)
    → (get_or items (o - 1) e).ob.0 < length values → IsHeldAt t items o e → is_among ns o ≡ false → AreAfterBut kinds items ns values
    → Counts o (get_or items (o - 1) e).op (get_or values (get_or items (o - 1) e).ob.0 d)
counts_at {A = A} kinds items t ns o e values d there at unnamed but =
    let i = get_or items (o - 1) e in
    let kind : Kind = get_or kinds i.ob.0 elements_kind in
    let kind_is : slice_get kinds i.ob.0 ≡ Some kind = slice_get-get_or kinds i.ob.0 elements_kind (omega (arith, there, but.long)) in
    record {
      kind = kind;
      ops = without_all ns (numbered_live items i.ob.0);
      after = but.each i.ob.0 kind (get_or values i.ob.0 d) kind_is (slice_get-get_or values i.ob.0 d there);
      there = held_counts items t o ns e at unnamed;
    }

-- ---- all of them

pub but_none : {A : Type 0} (kinds : List Kind) (items : List HeldOp) (values : List (LiveValue A)) → AreAfter kinds items values → AreAfterBut kinds items [] values
but_none {A = A} kinds items values after = record {
  long = after.long;
  each = λ k kind value kind_is value_is. subst (λ (ops : List (Numbered Op)). IsAfter kind ops value) (sym (without_nothing (numbered_live items k))) (after.each k kind value kind_is value_is);
}

length_ended : (t : ℕ) (fate : Fate) (items : List HeldOp) → length (ended t fate items) ≡ length items
length_ended t fate [] = refl
length_ended t fate (i ∷ items) = let later = length_ended t fate items in omega (arith, later)

pub but_all : {A : Type 0} (kinds : List Kind) (items : List HeldOp) (t : ℕ) (initial values : List (LiveValue A)) → AreAfter kinds items initial → AreAfterBut kinds items (numbers_where (is_held t) items) values → AreAfter kinds (ended t Aborted items) values
but_all kinds items t initial values after but = record {
  long = but.long;
  few = let same = length_ended t Aborted items in omega (arith, same, after.few);
  each = λ k kind value kind_is value_is. subst (λ (ops : List (Numbered Op)). IsAfter kind ops value) (ended_without k t 1 items) (but.each k kind value kind_is value_is);
}

-- what the one at a place is, where all are those that t holds
pub next_held : (t : ℕ) (items : List HeldOp) (held : List ℕ) (k : ℕ) (d : ℕ) (e : HeldOp) → held ≡ numbers_where (is_held t) items → k < length held → IsHeldAt t items (get_or held k d) e
next_held t items held k d e is within =
    let h = held_there t 1 items k d e (subst (λ (ns : List ℕ). k < length ns) is within) in
    subst (λ (ns : List ℕ). IsHeldAt t items (get_or ns k d) e) (sym is) (record { low = h.0; high = h.1; held = h.2 })

pub next_unnamed : (t : ℕ) (items : List HeldOp) (held : List ℕ) (k : ℕ) (d : ℕ) → held ≡ numbers_where (is_held t) items → k < length held → is_among (drop (suc k) held) (get_or held k d) ≡ false
next_unnamed t items held k d is within =
    subst (λ (ns : List ℕ). is_among (drop (suc k) ns) (get_or ns k d) ≡ false) (sym is) (not_named_later t 1 items k d (subst (λ (ns : List ℕ). k < length ns) is within))

drop_next : (held : List ℕ) (k : ℕ) (d : ℕ) → k < length held → get_or held k d ∷ drop (suc k) held ≡ drop k held
drop_next [] k d within = absurd (omega arith)
drop_next (o ∷ held) zero d within = refl
drop_next (o ∷ held) (suc k) d within = drop_next held k d (omega arith)

drop_end : (held : List ℕ) (k : ℕ) → length held ≤ k → drop k held ≡ []
drop_end [] zero past = refl
drop_end [] (suc k) past = refl
drop_end (o ∷ held) zero past = absurd (omega arith)
drop_end (o ∷ held) (suc k) past = drop_end held k (omega arith)

-- ---- the loop over them, from the last to the first

pub back_start : {A : Type 0} (kinds : List Kind) (items : List HeldOp) (held : List ℕ) (values : List (LiveValue A)) → AreAfter kinds items values → AreAfterBut kinds items (drop (length held) held) values
back_start kinds items held values after = subst (λ (ns : List ℕ). AreAfterBut kinds items ns values) (sym (drop_end held (length held) (omega arith))) (but_none kinds items values after)

pub back_next : {A : Type 0} (kinds : List Kind) (items : List HeldOp) (t : ℕ) (held : List ℕ) (left : ℕ) (d : ℕ) (e : HeldOp) (initial old new : List (LiveValue A))
    → AreAfter kinds items initial → held ≡ numbers_where (is_held t) items → 0 < left → left ≤ length held → AreAfterBut kinds items (drop left held) old
    → IsUndoneAt (get_or held (left - 1) d) (get_or items ((get_or held (left - 1) d) - 1) e).ob.0 (get_or items ((get_or held (left - 1) d) - 1) e).op old new
    → AreAfterBut kinds items (drop (left - 1) held) new
back_next kinds items t held left d e initial old new after is some within but undone =
    let k = left - 1 in
    let more : left ≡ suc k = omega (arith, some) in
    let there : k < length held = omega (arith, some, within) in
    subst (λ (ns : List ℕ). AreAfterBut kinds items ns new) (drop_next held k d there) (but_next kinds items t (drop (suc k) held) (get_or held k d) e old new (next_held t items held k d e is there) (next_unnamed t items held k d is there) (subst (λ (j : ℕ). AreAfterBut kinds items (drop j held) old) more but) undone)

pub back_counts : {A : Type 0} (kinds : List Kind) (items : List HeldOp) (t : ℕ) (held : List ℕ) (left : ℕ) (d : ℕ) (e : HeldOp) (initial old : List (LiveValue A)) (v : LiveValue A)
    → AreAfter kinds items initial → held ≡ numbers_where (is_held t) items → 0 < left → left ≤ length held → AreAfterBut kinds items (drop left held) old
    → (get_or items ((get_or held (left - 1) d) - 1) e).ob.0 < length old → Counts (get_or held (left - 1) d) (get_or items ((get_or held (left - 1) d) - 1) e).op (get_or old (get_or items ((get_or held (left - 1) d) - 1) e).ob.0 v)
back_counts kinds items t held left d e initial old v after is some within but inside =
    let k = left - 1 in
    let more : left ≡ suc k = omega (arith, some) in
    let there : k < length held = omega (arith, some, within) in
    counts_at kinds items t (drop (suc k) held) (get_or held k d) e old v inside (next_held t items held k d e is there) (next_unnamed t items held k d is there) (subst (λ (j : ℕ). AreAfterBut kinds items (drop j held) old) more but)

pub back_end : {A : Type 0} (kinds : List Kind) (items : List HeldOp) (t : ℕ) (held : List ℕ) (left : ℕ) (initial values : List (LiveValue A)) → AreAfter kinds items initial → held ≡ numbers_where (is_held t) items → left ≤ 0 → AreAfterBut kinds items (drop left held) values → AreAfter kinds (ended t Aborted items) values
back_end kinds items t held left initial values after is none but =
    let start : left ≡ 0 = omega (arith, none) in
    but_all kinds items t initial values after (subst (λ (ns : List ℕ). AreAfterBut kinds items ns values) is (subst (λ (j : ℕ). AreAfterBut kinds items (drop j held) values) start but))

-- ---- one value is another

pub undone_set : {A : Type 0} (number object : ℕ) (op : Op) (values : List (LiveValue A)) (d new : LiveValue A) → object < length values
    → ((kind : Kind) (ops : List (Numbered Op)) → IsAfter kind ops (get_or values object d) → Contains ops (record { number = number; item = op }) → IsAfter kind (without number ops) new)
    → IsUndoneAt number object op values (set values object new)
undone_set {A = A} number object op values d new within takes = record {
  long = length_set values object new;
  others = λ k other. set_other values object k new other;
  taken = λ kind ops value left value_is left_is after there.
      let was : get_or values object d ≡ value = get_or_from_slice_get values object value d value_is in
      let is : new ≡ left = set_same values object new left left_is in
      subst (λ (v : LiveValue A). IsAfter kind (without number ops) v) is (takes kind ops (subst (λ (v : LiveValue A). IsAfter kind ops v) (sym was) after) there);
}

-- a vector of which all is a slice
pub taken_front : {X : Type 0} (n : ℕ) (xs zs : List X) → length xs ≡ n → take n (xs ++ zs) ≡ xs
taken_front zero [] zs long = refl
taken_front zero (x ∷ xs) zs long = absurd (omega arith)
taken_front (suc n) [] zs long = absurd (omega arith)
taken_front (suc n) (x ∷ xs) zs long = ap (λ (ys : List _). x ∷ ys) (taken_front n xs zs (omega arith))
