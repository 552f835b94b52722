-- Events that were refused.
use Rattle.std.specs.Prelude.{◌≡◌, List, Some}
use Rattle.std.specs.List.{All}
use Rattle.acta_table.specs.declared.event.Event.{Event}
use Rattle.acta_table.specs.declared.model.Parts.{Parts}
use Rattle.acta_machine.specs.declared.lowest.Broken.{Broken}
use Rattle.acta_machine.specs.declared.refused.Refused.{Refused}
use Rattle.acta_machine.specs.inside.Broken.{rule_of, IsBroken}
use Rattle.acta_machine.specs.Rules.{lowest_broken}
use Rattle.acta_machine.specs.Summary.{Summary}

-- the rule is the lowest that the event breaks, and what is known of the reason is true
unfoldable pub IsRefusedBy : {A : Type 0} → Parts A → Summary → Event A → Broken → Type 0
IsRefusedBy m s event broken = (lowest_broken m s event ≡ Some (rule_of broken)) × IsBroken m s event broken

-- each of these events is refused by its rule
abbrev pub AreRefused : {A : Type 0} → Parts A → Summary → List (Refused A) → Type 0
AreRefused m s refused = All (λ one. IsRefusedBy m s one.event one.broken) refused
