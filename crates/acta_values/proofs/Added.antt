-- Current values with one more operation.
use Rattle.std.proofs.Common.{◌≡◌, ℕ, ◌+◌, ◌<◌, ◌≤◌, inl, inr, List, [], ◌∷◌, ◌++◌, length, get_or, set, Some, sym, ap, ◌∙◌, subst, arith}
use Rattle.std.specs.Prelude.{slice_get}
use Rattle.std.proofs.lemmas.Bool.{cases_eq}
use Rattle.std.proofs.lemmas.Option.{slice_get_within, slice_get-get_or}
use Rattle.acta_table.specs.declared.event.ObjId.{ObjId}
use Rattle.acta_table.specs.declared.event.Op.{Op}
use Rattle.acta_table.specs.declared.event.TxnId.{TxnId}
use Rattle.acta_table.specs.declared.answer.Fate.TheVariants.{InProgress}
use Rattle.acta_table.specs.declared.limits.TheConstants.{MOST_EVENTS}
use Rattle.acta_table.specs.declared.model.Kind.{Kind}
use Rattle.acta_table.specs.declared.model.Kind.TheVariants.{Elements as elements_kind}
use Rattle.acta_sets.specs.declared.held_op.HeldOp.{HeldOp}
use Rattle.acta_sets.specs.Operations.{added}
use Rattle.acta_values.specs.declared.live_value.LiveValue.{LiveValue}
use Rattle.acta_values.specs.declared.trail.Numbered.{Numbered}
use Rattle.acta_values.specs.LiveValues.{IsAfter, HasRoom}
use Rattle.acta_values.specs.Trails.{AreBelow}
use Rattle.acta_values.specs.KeptValues.{numbered_live, AreAfter, Takes}
use Rattle.acta_values.proofs.Numbering.{below_from, length_from, added_same, added_other, set_same, set_other}

length_push : {X : Type 0} (xs : List X) (x : X) → length (xs ++ x ∷ []) ≡ length xs + 1
length_push [] x = omega arith
length_push (y ∷ xs) x = let later = length_push xs x in omega (arith, later)

pub length_set : {X : Type 0} (xs : List X) (i : ℕ) (x : X) → length (set xs i x) ≡ length xs
length_set xs i x = simp Rattle.std.proofs.Math.ListN.length-set

-- if the value of the operation's object accepts it, the values do
pub added_after : {A : Type 0} (kinds : List Kind) (items : List HeldOp) (values : List (LiveValue A)) (number : ℕ) (t : TxnId) (ob : ObjId) (op : Op) (d new : LiveValue A)
    → AreAfter kinds items values → ob.0 < length values → number ≡ length items + 1 → length items < MOST_EVENTS
    → ((kind : Kind) (ops : List (Numbered Op)) → IsAfter kind ops (get_or values ob.0 d) → AreBelow number ops → length ops < MOST_EVENTS → IsAfter kind (ops ++ (record { number = number; item = op }) ∷ []) new)
    → AreAfter kinds (added items t ob op) (set values ob.0 new)
added_after {A = A} kinds items values number t ob op d new after within next room takes = record {
  long = length_set values ob.0 new ∙ after.long;
  few = let long = length_push items (record { ob = ob; op = op; holder = t; fate = InProgress }) in omega (arith, long, room);
  each = each;
}
  where
    each : (k : ℕ) (kind : Kind) (value : LiveValue A) → slice_get kinds k ≡ Some kind → slice_get (set values ob.0 new) k ≡ Some value → IsAfter kind (numbered_live (added items t ob op) k) value
    each k kind value kind_is value_is =
        elim (cases_eq ob.0 k) [
          | inl same ↦
              let ops = numbered_live items k in
              let before = after.each k kind (get_or values ob.0 d) kind_is (ap (λ j. slice_get values j) (sym same) ∙ slice_get-get_or values ob.0 d within) in
              let below : AreBelow number ops = below_from k 1 number items (omega (arith, next)) in
              let few : length ops < MOST_EVENTS = let most = length_from k 1 items in omega (arith, most, room) in
              let is : new ≡ value = set_same values ob.0 new value (ap (λ j. slice_get (set values ob.0 new) j) same ∙ value_is) in
              subst (λ (v : LiveValue A). IsAfter kind (numbered_live (added items t ob op) k) v) is (subst (λ (os : List (Numbered Op)). IsAfter kind os new) (sym (added_same k number items t ob op same next)) (takes kind ops before below few))
          | inr other ↦
              let before = after.each k kind value kind_is (sym (set_other values ob.0 k new (λ e. other (sym e))) ∙ value_is) in
              subst (λ (os : List (Numbered Op)). IsAfter kind os value) (sym (added_other k items t ob op other)) before
        ]

-- an operation on a missing object changes no value
pub added_nowhere : {A : Type 0} (kinds : List Kind) (items : List HeldOp) (values : List (LiveValue A)) (t : TxnId) (ob : ObjId) (op : Op)
    → AreAfter kinds items values → length values ≤ ob.0 → length items < MOST_EVENTS → AreAfter kinds (added items t ob op) values
added_nowhere {A = A} kinds items values t ob op after past room = record {
  long = after.long;
  few = let long = length_push items (record { ob = ob; op = op; holder = t; fate = InProgress }) in omega (arith, long, room);
  each = λ k kind value kind_is value_is.
      let there = slice_get_within values k value value_is in
      subst (λ (os : List (Numbered Op)). IsAfter kind os value) (sym (added_other k items t ob op (λ e. omega (arith, there, past, e)))) (after.each k kind value kind_is value_is);
}

-- the value of the operation's object has room for it
pub room_at : {A : Type 0} (number object : ℕ) (values : List (LiveValue A)) (d : LiveValue A) → object < length values → Takes number values → HasRoom number (get_or values object d)
room_at {A = A} number object values d within takes =
    let ops = numbered_live takes.items object in
    let kind : Kind = get_or takes.kinds object elements_kind in
    record {
      kind = kind;
      ops = ops;
      after = takes.after.each object kind (get_or values object d) (slice_get-get_or takes.kinds object elements_kind (omega (arith, within, takes.after.long))) (slice_get-get_or values object d within);
      below = below_from object 1 number takes.items (omega (arith, takes.next));
      room = let most = length_from object 1 takes.items in omega (arith, most, takes.room);
    }
