-- Faults in the form of an event: the rule that it breaks, and the part of the event that breaks it.
use Rattle.std.specs.Prelude.{◌≡◌, ⊤, Some, None}
use Rattle.acta_table.specs.declared.event.Event.{Event}
use Rattle.acta_table.specs.declared.event.Event.TheVariants.{Operate}
use Rattle.acta_table.specs.declared.answer.Refusal.{Refusal}
use Rattle.acta_table.specs.declared.answer.Rule.TheVariants.{BadNumber as bad_number, BadClass as bad_class, BadObject as bad_object, BadOperation as bad_operation, SameTransaction as same_transaction}
use Rattle.acta_table.specs.declared.event.ObjId.{ObjId}
use Rattle.acta_table.specs.declared.event.Op.{Op}
use Rattle.acta_table.specs.Events.{class_named, object_named}
use Rattle.acta_objects.specs.declared.forms.FormFault.{FormFault}
use Rattle.acta_objects.specs.declared.forms.FormFault.TheVariants.{BadNumber, BadClass, BadObject, BadOperation, SameTransaction}

-- the rule that the fault breaks, with the number that the rule names
abbrev pub refusal_of : FormFault → Refusal
refusal_of (BadNumber n) = record { rule = bad_number; by = Some n }
refusal_of (BadClass class) = record { rule = bad_class; by = None }
refusal_of (BadObject ob) = record { rule = bad_object; by = None }
refusal_of (BadOperation ob op) = record { rule = bad_operation; by = None }
refusal_of (SameTransaction t) = record { rule = same_transaction; by = Some t.0 }

-- the event does this operation on the object
abbrev pub Does : {A : Type 0} → Event A → ObjId → Op → Type 0
Does (Operate t ob op) on done = (ob ≡ on) × (op ≡ done)
Does _ on done = ⊥

-- the class, object or operation in the fault is the one that the event names
abbrev pub IsNamed : {A : Type 0} → Event A → FormFault → Type 0
IsNamed e (BadNumber n) = ⊤
IsNamed e (BadClass class) = class_named e ≡ Some class.0
IsNamed e (BadObject ob) = object_named e ≡ Some ob.0
IsNamed e (BadOperation ob op) = Does e ob op
IsNamed e (SameTransaction t) = ⊤
