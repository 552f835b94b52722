-- Current values without the last operation.
use Rattle.std.proofs.Common.{◌≡◌, ℕ, ◌+◌, ◌<◌, not, cond, inl, inr, List, [], ◌∷◌, ◌++◌, length, get_or, Some, refl, sym, ap, ◌∙◌, subst, arith, eq-eqb, ne_eqb}
use Rattle.std.specs.Prelude.{slice_get}
use Rattle.std.specs.List.{Contains}
use Rattle.std.proofs.lemmas.Bool.{cases_eq}
use Rattle.std.proofs.lemmas.List.Elements.{Contains-push}
use Rattle.std.proofs.lemmas.Option.{slice_get_within, slice_get-get_or}
use Rattle.acta_table.specs.declared.answer.Fate.TheVariants.{InProgress}
use Rattle.acta_table.specs.declared.event.ObjId.{ObjId}
use Rattle.acta_table.specs.declared.event.Op.{Op}
use Rattle.acta_table.specs.declared.event.TxnId.{TxnId}
use Rattle.acta_table.specs.declared.model.Kind.{Kind}
use Rattle.acta_table.specs.declared.model.Kind.TheVariants.{Elements as elements_kind}
use Rattle.acta_sets.specs.declared.held_op.HeldOp.{HeldOp}
use Rattle.acta_sets.specs.Operations.{added}
use Rattle.acta_values.specs.declared.live_value.LiveValue.{LiveValue}
use Rattle.acta_values.specs.declared.trail.Numbered.{Numbered}
use Rattle.acta_values.specs.LiveValues.{IsAfter, Counts}
use Rattle.acta_values.specs.Trails.{without, AreBelow}
use Rattle.acta_values.specs.KeptValues.{numbered_live, AreAfter, IsUndoneAt}
use Rattle.acta_values.proofs.Numbering.{below_from, added_same, added_other}

without_last : (n : ℕ) (xs : List (Numbered Op)) (op : Op) → AreBelow n xs → without n (xs ++ (record { number = n; item = op }) ∷ []) ≡ xs
without_last n [] op below = ap (λ b. cond (not b) ((record { number = n; item = op }) ∷ []) []) (eq-eqb n n refl)
without_last n (x ∷ xs) op below =
    ap (λ b. cond (not b) (x ∷ without n (xs ++ (record { number = n; item = op }) ∷ [])) (without n (xs ++ (record { number = n; item = op }) ∷ []))) (ne_eqb x.number n (λ e. omega (arith, below.0, e)))
    ∙ ap (λ (ys : List (Numbered Op)). x ∷ ys) (without_last n xs op below.1)

length_last : (items : List HeldOp) (i : HeldOp) → length (items ++ i ∷ []) ≡ length items + 1
length_last [] i = omega arith
length_last (j ∷ items) i = let later = length_last items i in omega (arith, later)

pub last_counts : {A : Type 0} (kinds : List Kind) (items : List HeldOp) (number : ℕ) (t : TxnId) (ob : ObjId) (op : Op) (values : List (LiveValue A)) (d : LiveValue A) → AreAfter kinds (added items t ob op) values → ob.0 < length values → number ≡ length items + 1 → Counts number op (get_or values ob.0 d)
last_counts kinds items number t ob op values d after within next =
    let there : ob.0 < length kinds = omega (arith, within, after.long) in
    let kind : Kind = get_or kinds ob.0 elements_kind in
    let kind_is : slice_get kinds ob.0 ≡ Some kind = slice_get-get_or kinds ob.0 elements_kind there in
    let whole = added_same ob.0 number items t ob op refl next in
    record {
      kind = kind;
      ops = numbered_live (added items t ob op) ob.0;
      after = after.each ob.0 kind (get_or values ob.0 d) kind_is (slice_get-get_or values ob.0 d within);
      there = subst (λ (ops : List (Numbered Op)). Contains ops (record { number = number; item = op })) (sym whole) (Contains-push (numbered_live items ob.0) (record { number = number; item = op }));
    }

pub forgotten_after : {A : Type 0} (kinds : List Kind) (items : List HeldOp) (number : ℕ) (t : TxnId) (ob : ObjId) (op : Op) (old new : List (LiveValue A)) → AreAfter kinds (added items t ob op) old → number ≡ length items + 1 → IsUndoneAt number ob.0 op old new → AreAfter kinds items new
forgotten_after {A = A} kinds items number t ob op old new after next undone = record {
  long = undone.long ∙ after.long;
  few = let long = length_last items (record { ob = ob; op = op; holder = t; fate = InProgress }) in omega (arith, long, after.few);
  each = each;
}
  where
    each : (k : ℕ) (kind : Kind) (value : LiveValue A) → slice_get kinds k ≡ Some kind → slice_get new k ≡ Some value → IsAfter kind (numbered_live items k) value
    each k kind value kind_is value_is =
        elim (cases_eq ob.0 k) [
          | inl same ↦
              let within : k < length old = let there = slice_get_within kinds k kind kind_is in omega (arith, there, after.long) in
              let v : LiveValue A = get_or old k value in
              let here : slice_get old k ≡ Some v = slice_get-get_or old k value within in
              let whole = added_same k number items t ob op same next in
              let before = subst (λ (ops : List (Numbered Op)). IsAfter kind ops v) whole (after.each k kind v kind_is here) in
              let taken = undone.taken kind (numbered_live items k ++ (record { number = number; item = op }) ∷ []) v value (ap (λ j. slice_get old j) same ∙ here) (ap (λ j. slice_get new j) same ∙ value_is) before (Contains-push (numbered_live items k) (record { number = number; item = op })) in
              subst (λ (ops : List (Numbered Op)). IsAfter kind ops value) (without_last number (numbered_live items k) op (below_from k 1 number items (omega (arith, next)))) taken
          | inr other ↦
              let before = after.each k kind value kind_is (sym (undone.others k (λ e. other (sym e))) ∙ value_is) in
              subst (λ (ops : List (Numbered Op)). IsAfter kind ops value) (added_other k items t ob op other) before
        ]
