-- Operations that conflict by the table of pairs belong to their object's kind.
use Rattle.std.proofs.Common.{◌≡◌, ℕ, Bool, true, false, ◌&&◌, Option, Some, None, refl, sym, ap, ◌∙◌}
use Rattle.std.proofs.lemmas.Bool.{false≢true}
use Rattle.std.specs.Option.{option_map_or}
use Rattle.acta_table.specs.declared.event.Op.{Op}
use Rattle.acta_table.specs.declared.event.Op.TheVariants.{Read, Write, Get, Add, Insert, Remove, Has, Size}
use Rattle.acta_table.specs.declared.model.Kind.{Kind}
use Rattle.acta_table.specs.declared.model.Kind.TheVariants.{Register as register_kind, Counter as counter_kind, Elements as elements_kind}
use Rattle.acta_table.specs.declared.model.Parts.{Parts}
use Rattle.acta_table.specs.Classes.{kind_at}
use Rattle.acta_objects.specs.Objects.{is_register_op, is_counter_op, is_set_op, suits}
use Rattle.acta_objects.specs.Conflicts.{register_conflicts, counter_conflicts, set_conflicts, conflicts, conflict_on}
use Rattle.acta_sets.specs.Operations.{ops_conflict}
use Rattle.acta_sets.proofs.Laws.{conflicts_equivalent}
use Rattle.acta_values.specs.Conflicts.{is_well_formed}
use Rattle.acta_axioms.specs.Values.{do_conflict}

of_registers : (p q : Op) → (is_register_op p && (is_register_op q && register_conflicts p q)) ≡ register_conflicts p q
of_registers Read Read = refl
of_registers Read (Write w) = refl
of_registers Read _ = refl
of_registers (Write v) Read = refl
of_registers (Write v) (Write w) = refl
of_registers (Write v) _ = refl
of_registers _ q = refl

of_counters : (p q : Op) → (is_counter_op p && (is_counter_op q && counter_conflicts p q)) ≡ counter_conflicts p q
of_counters Get Get = refl
of_counters Get (Add n) = refl
of_counters Get _ = refl
of_counters (Add n) Get = refl
of_counters (Add n) (Add k) = refl
of_counters (Add n) _ = refl
of_counters _ q = refl

of_sets : (p q : Op) → (is_set_op p && (is_set_op q && set_conflicts p q)) ≡ set_conflicts p q
of_sets (Insert x) (Insert y) = refl
of_sets (Insert x) (Remove y) = refl
of_sets (Insert x) (Has y) = refl
of_sets (Insert x) Size = refl
of_sets (Insert x) _ = refl
of_sets (Remove x) (Insert y) = refl
of_sets (Remove x) (Remove y) = refl
of_sets (Remove x) (Has y) = refl
of_sets (Remove x) Size = refl
of_sets (Remove x) _ = refl
of_sets (Has x) (Insert y) = refl
of_sets (Has x) (Remove y) = refl
of_sets (Has x) (Has y) = refl
of_sets (Has x) Size = refl
of_sets (Has x) _ = refl
of_sets Size (Insert y) = refl
of_sets Size (Remove y) = refl
of_sets Size (Has y) = refl
of_sets Size Size = refl
of_sets Size _ = refl
of_sets _ q = refl

of_kind : (kind : Kind) (p q : Op) → (suits kind p && (suits kind q && conflicts kind p q)) ≡ conflicts kind p q
of_kind (register_kind v) p q = of_registers p q
of_kind (counter_kind v) p q = of_counters p q
of_kind elements_kind p q = of_sets p q

-- two operations on an object conflict exactly if the table of pairs says so
pub do_conflict-on : {A : Type 0} (m : Parts A) (object : ℕ) (p q : Op) → do_conflict m object p q ≡ conflict_on m object p q
do_conflict-on m object p q = of_object (kind_at m object)
  where
    of_object : (k : Option Kind) → (option_map_or (λ kind. suits kind p) k false && (option_map_or (λ kind. suits kind q) k false && option_map_or (λ kind. conflicts kind p q) k false)) ≡ option_map_or (λ kind. conflicts kind p q) k false
    of_object None = refl
    of_object (Some kind) = of_kind kind p q

-- a well-formed operation conflicts with those that the table says
kind-conflicts : (k : Option Kind) (p op : Op) → option_map_or (λ kind. suits kind op) k false ≡ true → ops_conflict p op ≡ option_map_or (λ kind. conflicts kind p op) k false
kind-conflicts None p op is = absurd (false≢true is)
kind-conflicts (Some kind) p op is = sym (conflicts_equivalent kind p op is)

pub suits-conflicts : {A : Type 0} (m : Parts A) (object : ℕ) (p op : Op) → is_well_formed m object op ≡ true → ops_conflict p op ≡ conflict_on m object p op
suits-conflicts m object p op is = kind-conflicts (kind_at m object) p op is

-- an ill-formed operation conflicts with none
none_and : (a : Bool) → (a && false) ≡ false
none_and true = refl
none_and false = refl

pub ill-conflicts : {A : Type 0} (m : Parts A) (object : ℕ) (p op : Op) → is_well_formed m object op ≡ false → conflict_on m object p op ≡ false
ill-conflicts m object p op is = sym (do_conflict-on m object p op) ∙ ap (λ b. is_well_formed m object p && (b && conflict_on m object p op)) is ∙ none_and (is_well_formed m object p)
