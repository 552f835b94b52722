-- A condition on an event and a model.
use Rattle.std.specs.Prelude.{◌<◌, length, IfSome}
use Rattle.acta_table.specs.declared.event.Event.{Event}
use Rattle.acta_table.specs.declared.model.Parts.{Parts}
use Rattle.acta_table.specs.Events.{class_named, object_named}

-- the class and the object that the event names, if any, are in the model
pub record IsInModel {A : Type 0} (m : Parts A) (event : Event A) : Type 0 where
  pub class : IfSome (class_named event) (λ class. class < length m.classes)
  pub object : IfSome (object_named event) (λ object. object < length m.objects)
