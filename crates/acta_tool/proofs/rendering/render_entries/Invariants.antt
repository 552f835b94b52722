use Rattle.std.proofs.Common.{◌≡◌, ◌++◌, map, drop}
use Rattle.acta_words.specs.Text.{text_of}
use Rattle.acta_tool.specs.Driving.{entry_line}
use Rattle.acta_tool.proofs.rendering.render_entries.Given as goal

abbrev pub invariant-loop-entry : goal.invariant-loop-entry
invariant-loop-entry g l =
    l.text.items ++ text_of (map (entry_line l.model) (drop l.entry-index l.entries)) ≡ l.initial.text.items ++ text_of (map (entry_line l.model) l.entries)
