-- The lowest rule that an event breaks, before the edges that break it have been found.
use Rattle.std.specs.Prelude.{◌≡◌, Some}
use Rattle.acta_table.specs.declared.answer.Refusal.{Refusal}
use Rattle.acta_table.specs.declared.event.Event.{Event}
use Rattle.acta_table.specs.declared.model.Parts.{Parts}
use Rattle.acta_machine.specs.Reasons.{refusal_of, IsSo}
use Rattle.acta_machine.specs.Rules.{dependency}
use Rattle.acta_machine.specs.Summary.{Summary}
use Rattle.acta_machine.specs.declared.lowest.Broken.{Broken}
use Rattle.acta_machine.specs.declared.lowest.Broken.TheVariants.{For, ByEdges}

-- the broken rule, with the number that the rule names
abbrev pub rule_of : Broken → Refusal
rule_of (For reason) = refusal_of reason
rule_of (ByEdges refusal) = refusal

-- the facts of the reason are true, or the event breaks this rule on dependencies and no lower one
abbrev pub IsBroken : {A : Type 0} → Parts A → Summary → Event A → Broken → Type 0
IsBroken m s e (For reason) = IsSo m s e reason
IsBroken m s e (ByEdges refusal) = dependency s e ≡ Some refusal
