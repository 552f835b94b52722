-- The suggestion that follows from a verdict.
use Rattle.std.specs.Prelude.{ℕ, Bool, true, false, ◌||◌, ◌==◌, not, List, length, nat_lt, if◌then◌else◌, Option, Some, None, is_some, Result, Ok, Err}
use Rattle.std.specs.List.{list_all, list_any}
use Rattle.acta_table.specs.declared.event.Kept.{Kept}
use Rattle.acta_table.specs.declared.limits.TheConstants.{MOST_EVENTS}
use Rattle.acta_table.specs.declared.model.Parts.{Parts}
use Rattle.acta_axioms.specs.declared.fault.Axiom.{Axiom}
use Rattle.acta_axioms.specs.declared.fault.Axiom.TheVariants.{Return, Conflict}
use Rattle.acta_axioms.specs.declared.fault.Fault.{Fault}
use Rattle.acta_judge.specs.Verdicts.{verdict}
use Rattle.acta_script.specs.Reading.{kept_of}
use Rattle.acta_io.specs.declared.input.BadLine.{BadLine}
use Rattle.acta_io.specs.declared.models.NoModel.{NoModel}
use Rattle.acta_io.specs.Input.{parsed_in}
use Rattle.acta_explain.specs.declared.advice.Advice.{Advice}
use Rattle.acta_explain.specs.declared.advice.Advice.TheVariants.{Serialize, SayReturns}

-- whether the axiom is the one on returns or the one on conflicts
abbrev pub is_mild_axiom : Axiom → Bool
is_mild_axiom Return = true
is_mild_axiom Conflict = true
is_mild_axiom _ = false

-- whether the fault is a wrong return or a conflict
abbrev pub is_mild : Fault → Bool
is_mild fault = is_mild_axiom fault.broken

-- whether the line has a return
abbrev pub has_return : {A : Type 0} → Kept A → Bool
has_return kept = is_some kept.ret

-- the suggestion for items with these faults
abbrev pub advice_in : {A : Type 0} → List (Kept A) → List Fault → Option Advice
advice_in kept faults =
    if (length faults == 0) || not (list_all is_mild faults) then None
    else if list_any has_return kept then Some Serialize else Some SayReturns

-- the suggestion for kept items
abbrev pub advice_of : {A : Type 0} → Parts A → List (Kept A) → Option Advice
advice_of m kept = if nat_lt MOST_EVENTS (length kept) then None else advice_in kept (verdict m kept).faults

-- the same, unless a line is faulty
abbrev pub advice_on : {A : Type 0} → Parts A → List (Kept A) → Option BadLine → Option Advice
advice_on m kept (Some bad) = None
advice_on m kept None = advice_of m kept

-- the same for the model in the bytes; none if they are faulty
abbrev pub advice_by : {A : Type 0} → Result (Parts A) NoModel → List ℕ → Option Advice
advice_by (Err fault) input = None
advice_by (Ok m) input = advice_on m (parsed_in (kept_of m) input).parsed (parsed_in (kept_of m) input).stop
