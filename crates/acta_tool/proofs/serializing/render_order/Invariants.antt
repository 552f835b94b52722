use Rattle.std.proofs.Common.{◌≡◌, ◌++◌, drop}
use Rattle.acta_words.specs.Text.{text_of}
use Rattle.acta_tool.specs.Output.{serial_lines}
use Rattle.acta_tool.proofs.serializing.render_order.Given as goal

abbrev pub invariant-loop-item : goal.invariant-loop-item
invariant-loop-item g l =
    l.text.items ++ text_of (serial_lines l.model (drop l.item-index l.items)) ≡ l.initial.text.items ++ text_of (serial_lines l.model l.items)
