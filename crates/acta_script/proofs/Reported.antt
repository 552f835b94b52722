-- Errors report the faults that were found.
use Rattle.std.proofs.Common.{◌≡◌, Result, Ok, Err, refl, sym, subst, ap}
use Rattle.std.specs.Option.{option_map_or}
use Rattle.std.specs.Result.{IfErr, IsErrAnd, result_err}
use Rattle.acta_script.specs.declared.fault.LineError.{LineError}
use Rattle.acta_script.specs.declared.fault.LineError.TheVariants.{Memory, Fault}
use Rattle.acta_script.specs.declared.fault.LineFault.{LineFault}
use Rattle.acta_script.specs.Reading.{IsWhy, ◌>>=◌, lower, both}

pub reported : {X Y : Type 0} (parsed : Result X LineFault) (r : Result Y LineError) (f : LineFault) → parsed ≡ Err f → IsErrAnd r (λ e. e ≡ Fault f) → IfErr r (IsWhy parsed)
reported parsed (Ok x) f is h = absurd h
reported parsed (Err e) f is h = subst (IsWhy parsed) (sym h) is

on : {X Y : Type 0} (parsed : Result X LineFault) (then : X → Result Y LineFault) (e : LineError) → IsWhy parsed e → IsWhy (parsed >>= then) e
on parsed then Memory why = tt
on parsed then (Fault f) why = ap (λ r. r >>= then) why

-- the error of the first step is the error of the whole
pub reported-on : {X Y Z : Type 0} (parsed : Result X LineFault) (then : X → Result Y LineFault) (r : Result Z LineError) (e : LineError) → IsWhy parsed e → IsErrAnd r (λ d. d ≡ e) → IfErr r (IsWhy (parsed >>= then))
reported-on parsed then (Ok x) e why h = absurd h
reported-on parsed then (Err d) e why h = subst (IsWhy (parsed >>= then)) (sym h) (on parsed then e why)

-- of two faults the lower is reported
pub both-fault : {X Y Z : Type 0} (make : X → Y → Z) (f : LineFault) (other : Result Y LineFault) → both make (Err f) other ≡ Err (option_map_or (lower f) (result_err other) f)
both-fault make f (Ok y) = refl
both-fault make f (Err g) = refl
