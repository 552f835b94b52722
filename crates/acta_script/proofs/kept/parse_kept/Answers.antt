use Rattle.std.proofs.Common.{map, take, Err, Option, sym, ap, subst, ◌∙◌}
use Rattle.std.specs.Option.{option_map_or}
use Rattle.acta_script.specs.declared.fault.LineError.{LineError}
use Rattle.acta_script.specs.declared.fault.LineFault.{LineFault}
use Rattle.acta_script.specs.Reading.{◌>>=◌, IsWhy, lower, both, with_return, parse_event, plain, parse_kept}
use Rattle.acta_script.proofs.Signs.{kept-with_sign, kept-without_sign}
use Rattle.acta_script.proofs.Reported.{reported, reported-on, both-fault}
use Rattle.acta_script.proofs.kept.parse_kept.Goals as goal

pub returns-in_err-event-clause-fault : goal.returns-in_err-event-clause-fault
returns-in_err-event-clause-fault g c =
    rw (kept-without_sign c.args.model.now (λ word. word.now) c.args.words.now (sym c.sign_place.ensures ∙ c.in_default.is))
    (reported-on _ plain _ c.in_err-event.field-0.0 c.in_err-event.ensures.fault c.from_residual.ensures.1)

pub returns-in_default-clause-ok : goal.returns-in_default-clause-ok
returns-in_default-clause-ok g c =
    kept-without_sign c.args.model.now (λ word. word.now) c.args.words.now (sym c.sign_place.ensures ∙ c.in_default.is)
    ∙ ap (λ parsed. parsed >>= plain) c.in_ok-event.ensures.ok

pub returns-in_err-ret-in-Ok-clause-fault : goal.returns-in_err-ret-in-Ok-clause-fault
returns-in_err-ret-in-Ok-clause-fault g c =
    reported _ _ c.in_err-ret-in-Ok.field-0.0
    (kept-with_sign c.args.model.now (λ word. word.now) c.args.words.now c.in-Some.at (sym c.sign_place.ensures ∙ c.in-Some.is) ∙ (λ i. both with_return (c.in-Ok.ensures.ok i) (sym c.in_err-ret-in-Ok.ensures i)))
    c.from_residual-in_err-ret-in-Ok.ensures.1

pub returns-in_ok-ret-in-Ok-clause-ok : goal.returns-in_ok-ret-in-Ok-clause-ok
returns-in_ok-ret-in-Ok-clause-ok g c =
    kept-with_sign c.args.model.now (λ word. word.now) c.args.words.now c.in-Some.at (sym c.sign_place.ensures ∙ c.in-Some.is)
    ∙ (λ i. both with_return (c.in-Ok.ensures.ok i) (sym c.in_ok-ret-in-Ok.ensures i))

pub returns-in-Err-Fault-clause-fault : goal.returns-in-Err-Fault-clause-fault
returns-in-Err-Fault-clause-fault g c =
    let parsed = parse_kept c.args.model.now (map (λ word. word.now) c.args.words.now) in
    let f = c.in-Err-Fault.fault in
    let event = subst (λ (e : LineError). IsWhy (parse_event c.args.model.now (map (λ word. word.now) (take c.in-Some.at c.args.words.now))) e) c.in-Err-Fault.field-0-is c.in-Err-Fault.ensures.fault in
    let lowest = c.lowest.ensures ∙ ap (λ (other : Option LineFault). option_map_or (lower f) other f) c.err.ensures.value in
    subst (λ (e : LineError). IsWhy parsed e) (sym c.into.ensures)
    (kept-with_sign c.args.model.now (λ word. word.now) c.args.words.now c.in-Some.at (sym c.sign_place.ensures ∙ c.in-Some.is)
    ∙ (λ i. both with_return (event i) (sym c.parse_return-ret.ensures i))
    ∙ both-fault with_return f c.parse_return-ret.result
    ∙ ap Err (sym lowest))
