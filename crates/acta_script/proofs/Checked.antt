-- Facts about a checked model: the numbers of classes and objects, and that their names are well formed and unique.
use Rattle.std.proofs.Common.{◌≡◌, ◌≤◌, Bool, true, false, ◌&&◌, ◌||◌, not, nat_lt, length, Option, Some, None, refl, sym}
use Rattle.std.specs.List.{list_any, list_all}
use Rattle.std.specs.Option.{option_or}
use Rattle.std.proofs.lemmas.Bool.{or_parts, and_parts, ltb-false}
use Rattle.acta_table.specs.declared.model.ModelFault.{ModelFault}
use Rattle.acta_table.specs.declared.model.ModelFault.TheVariants.{TooManyClasses, TooManyObjects, DuplicateName, BadName, BeginKindAtStart, HeirWithoutSpawn, BadPolicyKind}
use Rattle.acta_table.specs.declared.model.Parts.{Parts}
use Rattle.acta_table.specs.Faults.{lowest_fault, fault_if, has_twice, is_name, object_names, class_names, has_begin_kind, lacks_parents}
use Rattle.acta_table.specs.Policies.{is_bad_policy}

or_none : {X : Type 0} (a b : Option X) → option_or a b ≡ None → (a ≡ None) × (b ≡ None)
or_none None b e = (refl, e)
or_none (Some x) b e = absurd (cc)

no_fault : (b : Bool) (fault : ModelFault) → fault_if b fault ≡ None → b ≡ false
no_fault true fault e = cc
no_fault false fault e = refl

not_false : (b : Bool) → not b ≡ false → b ≡ true
not_false true e = refl
not_false false e = sym e

pub record IsChecked {A : Type 0} (m : Parts A) : Type 0 where
  pub few_classes : length m.classes ≤ 16
  pub few_objects : length m.objects ≤ 256
  pub object_once : has_twice (object_names m) ≡ false
  pub class_once : has_twice (class_names m) ≡ false
  pub object_names_are : list_all is_name (object_names m) ≡ true
  pub class_names_are : list_all is_name (class_names m) ≡ true

pub checked : {A : Type 0} (m : Parts A) → lowest_fault m ≡ None → IsChecked m
checked m faultless =
    let policies = or_none _ (fault_if (list_any (λ k. is_bad_policy k.policy) m.classes) BadPolicyKind) faultless in
    let heirs = or_none _ (fault_if (list_any lacks_parents m.classes) HeirWithoutSpawn) policies.0 in
    let begins = or_none _ (fault_if (list_any has_begin_kind m.classes) BeginKindAtStart) heirs.0 in
    let names = or_none _ (fault_if (not (list_all is_name (object_names m) && list_all is_name (class_names m))) BadName) begins.0 in
    let twice = or_none _ (fault_if (has_twice (object_names m) || has_twice (class_names m)) DuplicateName) names.0 in
    let objects = or_none _ (fault_if (nat_lt 256 (length m.objects)) TooManyObjects) twice.0 in
    let classes = or_none _ (fault_if (nat_lt 16 (length m.classes)) TooManyClasses) objects.0 in
    let once = or_parts (has_twice (object_names m)) (has_twice (class_names m)) (no_fault _ DuplicateName twice.1) in
    let named = and_parts (list_all is_name (object_names m)) (list_all is_name (class_names m)) (not_false _ (no_fault _ BadName names.1)) in
    record {
      few_classes = ltb-false 16 (length m.classes) (no_fault _ TooManyClasses classes.1);
      few_objects = ltb-false 256 (length m.objects) (no_fault _ TooManyObjects objects.1);
      object_once = once.0;
      class_once = once.1;
      object_names_are = named.0;
      class_names_are = named.1;
    }

pub few_classes : {A : Type 0} (m : Parts A) → lowest_fault m ≡ None → length m.classes ≤ 16
few_classes m faultless = (checked m faultless).few_classes

pub few_objects : {A : Type 0} (m : Parts A) → lowest_fault m ≡ None → length m.objects ≤ 256
few_objects m faultless = (checked m faultless).few_objects
