use Rattle.std.proofs.Common.{◌≡◌, ◌+◌, ◌-◌, ◌++◌, ◌∙◌, ℕ, List, ap, decimal, drop, length, rules, arith}
use Rattle.std.proofs.lemmas.List.{length-drop}
use Rattle.acta_table.specs.declared.dep.Edge.{Edge}
use Rattle.acta_script.specs.Answers.{answer_line}
use Rattle.acta_script.specs.Writing.{event_line}
use Rattle.acta_machine.specs.Table.{edges_in}
use Rattle.acta_tool.specs.Output.{edge_words, formed_line, op_words}
use Rattle.acta_tool.proofs.TraceLines.{spaced, whole}
use Rattle.acta_tool.proofs.tracing.render_step.Goals as goal

pub render_edges-requires : goal.render_edges-requires
render_edges-requires g c =
    λ some.
    let before : ℕ = c.args.step.now.edges_before in
    let all : List Edge = c.edges.result.now in
    let left : length c.behind.result.now ≡ length all - before = ap (λ (es : List Edge). length es) c.behind.ensures ∙ length-drop before all in
    let same : length all ≡ length (edges_in c.args.machine.now) = ap (λ (es : List Edge). length es) c.edges.ensures.edges in
    omega (arith, some, left, same, c.edges.ensures.few)

pub returns : goal.returns
unfolding formed_line
returns g c =
    let step = c.args.step.now in
    let before : ℕ = step.edges_before in
    let machine = c.args.machine.now in
    whole c.args.text.now.items (decimal step.line) (answer_line step.answer) (event_line machine.model step.event) (op_words step.op) (edge_words (before + 1) (drop before (edges_in machine)))
    c.extend_from_slice.new.self.items c.push_word.new.line.items c.push_word-2.new.line.items c.push_word-3.new.line.items c.render_op.new.text.items c.render_edges.new.text.items c.push_line.new.text.items
    (search rules) (search rules) (search rules) (search rules) (search rules)
    (c.in_ok-render_edges.ensures ∙ ap (λ (es : List Edge). c.render_op.new.text.items ++ spaced (edge_words (before + 1) es)) (c.behind.ensures ∙ ap (λ (es : List Edge). drop before es) c.edges.ensures.edges))
    (search rules)
