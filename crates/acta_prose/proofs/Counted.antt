use Rattle.std.proofs.Common.{◌≡◌, ◌++◌, ◌∷◌, [], ◌∙◌, ◌+◌, ◌||◌, ◌&&◌, ap, sym, not, Bool, true, false, if◌then◌else◌, ℕ, List, filter, length, arith}
use Rattle.std.proofs.lemmas.List.{length-append}
use Rattle.std.proofs.lemmas.List.Elements.{filter-append}
use Rattle.acta_table.specs.declared.event.Event.{Event}
use Rattle.acta_machine.specs.Table.{answer_to}
use Rattle.acta_trace.specs.declared.step.Step.{Step}
use Rattle.acta_trace.specs.Steps.{is_admitted, step_of}
use Rattle.acta_trace.specs.Traces.{Run, taken}
use Rattle.acta_prose.specs.Runs.{count_refused, was_refused}

one_if : {X : Type 0} (b : Bool) (x : X) → length (if b then x ∷ [] else []) ≡ (if b then 1 else 0)
one_if true x = λ i. 1
one_if false x = λ i. 0

-- one more step
one_more : {A : Type 0} (steps : List (Step A)) (step : Step A) → count_refused (steps ++ step ∷ []) ≡ count_refused steps + (if was_refused step then 1 else 0)
unfolding count_refused
one_more {A = A} steps step =
    ap length (filter-append (was_refused {A = A}) steps (step ∷ []))
    ∙ length-append (filter (was_refused {A = A}) steps) (filter (was_refused {A = A}) (step ∷ []))
    ∙ ap (λ (n : ℕ). length (filter (was_refused {A = A}) steps) + n) (one_if (was_refused step) step)

-- a step more, if it is kept
one_kept : {A : Type 0} (keeps admitted : Bool) (steps : List (Step A)) (step : Step A) → admitted ≡ is_admitted step.answer
    → count_refused (if keeps || admitted then steps ++ step ∷ [] else steps) ≡ count_refused steps + (if keeps && not admitted then 1 else 0)
one_kept true admitted steps step same = one_more steps step ∙ ap (λ (b : Bool). count_refused steps + (if not b then 1 else 0)) (sym same)
one_kept false true steps step same = one_more steps step ∙ ap (λ (b : Bool). count_refused steps + (if not b then 1 else 0)) (sym same)
one_kept false false steps step same = omega (arith)

-- how many steps of the run after an event are of refused events
pub counted : {A : Type 0} (keeps : Bool) (run : Run A) (line : ℕ) (event : Event A)
    → count_refused (taken keeps run line event).steps ≡ count_refused run.steps + (if keeps && not (is_admitted (answer_to run.state event)) then 1 else 0)
unfolding taken
counted keeps run line event = one_kept keeps (is_admitted (answer_to run.state event)) run.steps (step_of run.state line event) (λ i. is_admitted (answer_to run.state event))
