use Rattle.std.proofs.Common.{◌++◌, ◌∙◌, ℕ, List, ap}
use Rattle.acta_machine.specs.Table.{after_all}
use Rattle.acta_words.specs.Text.{text_of}
use Rattle.acta_io.specs.Input.{line_numbers}
use Rattle.acta_tool.specs.Output.{trace_lines}
use Rattle.acta_tool.proofs.TraceLines.{traced}
use Rattle.acta_tool.proofs.tracing.trace_model.Goals as goal

pub returns : goal.returns
returns g c =
    let value = c.as_slice.ensures.value in
    let begun = c.in_ok-machine.ensures.fresh in
    let numbers : List ℕ = c.deref.result.now in
    (λ i. record { is_refused = c.is_some.ensures i; text = c.render_end.new.text.items })
    ∙ traced c.args.model (line_numbers c.args.input.now) numbers _ c.in_ok-read.read.parsed.items c.in_ok-read.read.stop c.render_traced.new.machine c.render_traced.new.text.items c.render_end.new.text.items
    c.in_ok-read.ensures.parsed
    (c.deref.ensures.value ∙ c.in_ok-numbers.ensures)
    (c.in_ok-render_traced.ensures.reported
    ∙ ap (λ t. t ++ text_of (trace_lines c.in_ok-machine.machine numbers c.as_slice.result.now)) c.new-text.ensures.items
    ∙ (λ x. text_of (trace_lines (begun x) numbers (value x))))
    (c.in_ok-render_traced.ensures.machine ∙ (λ x. after_all (begun x) (value x)))
    c.in_ok-render_end.ensures
