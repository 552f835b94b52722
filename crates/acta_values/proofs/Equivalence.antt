-- Commits and transfers do not change values.
use Rattle.std.proofs.Common.{◌≡◌, ℕ, ◌+◌, ◌==◌, Bool, true, false, not, ◌&&◌, cond, List, [], ◌∷◌, length, Some, None, refl, sym, ap, subst, arith}
use Rattle.std.specs.Prelude.{option_map}
use Rattle.std.specs.List.{cons_option}
use Rattle.std.proofs.lemmas.Bool.{and_parts}
use Rattle.acta_table.specs.declared.answer.Fate.{Fate}
use Rattle.acta_table.specs.declared.answer.Fate.TheVariants.{InProgress, Committed, Aborted}
use Rattle.acta_table.specs.declared.event.Op.{Op}
use Rattle.acta_table.specs.declared.event.OpNo.{OpNo}
use Rattle.acta_table.specs.declared.event.TxnId.{TxnId}
use Rattle.acta_table.specs.declared.model.Kind.{Kind}
use Rattle.acta_table.specs.Fates.{is_open, is_aborted}
use Rattle.acta_table.specs.Sets.{is_named}
use Rattle.acta_sets.specs.declared.held_op.HeldOp.{HeldOp}
use Rattle.acta_sets.specs.Operations.{is_held, is_live, ended, transferred, transferred_of, transferred_from, moved, moved_from}
use Rattle.acta_values.specs.KeptValues.{stays_on}
use Rattle.acta_values.specs.declared.live_value.LiveValue.{LiveValue}
use Rattle.acta_values.specs.declared.trail.Numbered.{Numbered}
use Rattle.acta_values.specs.LiveValues.{IsAfter}
use Rattle.acta_values.specs.KeptValues.{numbered_from, AreAfter}

-- the same operations count
record AreEquivalent (items others : List HeldOp) : Type 0 where
  long : length others ≡ length items
  live : (object n : ℕ) → numbered_from object n others ≡ numbered_from object n items

equivalent_after : {A : Type 0} (kinds : List Kind) (items others : List HeldOp) (values : List (LiveValue A)) → AreEquivalent items others → AreAfter kinds items values → AreAfter kinds others values
equivalent_after {A = A} kinds items others values equivalent after = record {
  long = after.long;
  few = omega (arith, equivalent.long, after.few);
  each = λ k kind value kind_is value_is. subst (λ (ops : List (Numbered Op)). IsAfter kind ops value) (sym (equivalent.live k 1)) (after.each k kind value kind_is value_is);
}

equivalent_none : AreEquivalent [] []
equivalent_none = record { long = refl; live = λ object n. refl }

-- one is equivalent, and the others are
equivalent_cons : (i j : HeldOp) (items others : List HeldOp) → ((object : ℕ) → stays_on object j ≡ stays_on object i) → AreEquivalent items others → AreEquivalent (i ∷ items) (j ∷ others)
equivalent_cons i j items others same equivalent = record {
  long = let later = equivalent.long in omega (arith, later);
  live = λ object n. λ k. cons_option (option_map (λ op. record { number = n; item = op }) (same object k)) (equivalent.live object (n + 1) k);
}

open_live : (f : Fate) → is_open f ≡ true → not (is_aborted f) ≡ true
open_live InProgress is = refl
open_live Committed is = cc
open_live Aborted is = cc

committed_equivalent : (t : ℕ) (items : List HeldOp) → AreEquivalent items (ended t Committed items)
committed_equivalent t [] = equivalent_none
committed_equivalent t (i ∷ items) = at (is_held t i) refl (committed_equivalent t items)
  where
    at : (b : Bool) → is_held t i ≡ b → AreEquivalent items (ended t Committed items) → AreEquivalent (i ∷ items) (cond b (record i { fate = Committed }) i ∷ ended t Committed items)
    at true held later =
        let live : is_live i ≡ true = open_live i.fate (and_parts (i.holder.0 == t) (is_open i.fate) held).1 in
        equivalent_cons i (record i { fate = Committed }) items (ended t Committed items) (λ object. ap (λ b. cond ((i.ob.0 == object) && b) (Some i.op) None) (sym live)) later
    at false other later = equivalent_cons i i items (ended t Committed items) (λ object. refl) later

transferred_equivalent : (t : ℕ) (u : TxnId) (items : List HeldOp) → AreEquivalent items (transferred t u items)
transferred_equivalent t u [] = equivalent_none
transferred_equivalent t u (i ∷ items) = at (is_held t i) (transferred_equivalent t u items)
  where
    at : (b : Bool) → AreEquivalent items (transferred t u items) → AreEquivalent (i ∷ items) (cond b (record i { holder = u }) i ∷ transferred t u items)
    at true later = equivalent_cons i (record i { holder = u }) items (transferred t u items) (λ object. refl) later
    at false later = equivalent_cons i i items (transferred t u items) (λ object. refl) later

transferred_of_equivalent : (n t : ℕ) (ops : List OpNo) (u : TxnId) (items : List HeldOp) → AreEquivalent items (transferred_from n t ops u items)
transferred_of_equivalent n t ops u [] = equivalent_none
transferred_of_equivalent n t ops u (i ∷ items) = at (is_held t i && is_named ops n) (transferred_of_equivalent (n + 1) t ops u items)
  where
    at : (b : Bool) → AreEquivalent items (transferred_from (n + 1) t ops u items) → AreEquivalent (i ∷ items) (cond b (record i { holder = u }) i ∷ transferred_from (n + 1) t ops u items)
    at true later = equivalent_cons i (record i { holder = u }) items (transferred_from (n + 1) t ops u items) (λ object. refl) later
    at false later = equivalent_cons i i items (transferred_from (n + 1) t ops u items) (λ object. refl) later

moved_equivalent : (n : ℕ) (ops : List OpNo) (u : TxnId) (items : List HeldOp) → AreEquivalent items (moved_from n ops u items)
moved_equivalent n ops u [] = equivalent_none
moved_equivalent n ops u (i ∷ items) = at (is_named ops n) (moved_equivalent (n + 1) ops u items)
  where
    at : (b : Bool) → AreEquivalent items (moved_from (n + 1) ops u items) → AreEquivalent (i ∷ items) (cond b (record i { holder = u }) i ∷ moved_from (n + 1) ops u items)
    at true later = equivalent_cons i (record i { holder = u }) items (moved_from (n + 1) ops u items) (λ object. refl) later
    at false later = equivalent_cons i i items (moved_from (n + 1) ops u items) (λ object. refl) later

pub committed_after : {A : Type 0} (kinds : List Kind) (items : List HeldOp) (values : List (LiveValue A)) (t : ℕ) → AreAfter kinds items values → AreAfter kinds (ended t Committed items) values
committed_after kinds items values t after = equivalent_after kinds items (ended t Committed items) values (committed_equivalent t items) after

pub transferred_after : {A : Type 0} (kinds : List Kind) (items : List HeldOp) (values : List (LiveValue A)) (t : ℕ) (u : TxnId) → AreAfter kinds items values → AreAfter kinds (transferred t u items) values
transferred_after kinds items values t u after = equivalent_after kinds items (transferred t u items) values (transferred_equivalent t u items) after

pub transferred_of_after : {A : Type 0} (kinds : List Kind) (items : List HeldOp) (values : List (LiveValue A)) (t : ℕ) (ops : List OpNo) (u : TxnId) → AreAfter kinds items values → AreAfter kinds (transferred_of t ops u items) values
transferred_of_after kinds items values t ops u after = equivalent_after kinds items (transferred_of t ops u items) values (transferred_of_equivalent 1 t ops u items) after

pub moved_after : {A : Type 0} (kinds : List Kind) (items : List HeldOp) (values : List (LiveValue A)) (ops : List OpNo) (u : TxnId) → AreAfter kinds items values → AreAfter kinds (moved ops u items) values
moved_after kinds items values ops u after = equivalent_after kinds items (moved ops u items) values (moved_equivalent 1 ops u items) after

-- a fate that is neither in progress nor aborted is committed
pub is_committed-closed : (f : Fate) → is_open f ≡ false → (f ≡ Aborted → ⊥) → f ≡ Committed
is_committed-closed InProgress closed other = cc
is_committed-closed Committed closed other = refl
is_committed-closed Aborted closed other = absurd (other refl)
