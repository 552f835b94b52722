-- The case that no rule is broken.
use Rattle.std.proofs.Common.{◌≡◌, List, [], sym, subst, arith}
use Rattle.acta_table.specs.declared.model.Parts.{Parts}
use Rattle.acta_machine.specs.Summary.{Summary}
use Rattle.acta_machine.specs.declared.refused.Refused.{Refused}
use Rattle.acta_machine.specs.inside.Refused.{AreRefused}

pub none_refused : {A : Type 0} (m : Parts A) (s : Summary) (refused : List (Refused A)) → refused ≡ [] → AreRefused m s refused
none_refused {A} m s refused none = subst (λ (xs : List (Refused A)). AreRefused m s xs) (sym none) (λ k d l. absurd (omega arith))
