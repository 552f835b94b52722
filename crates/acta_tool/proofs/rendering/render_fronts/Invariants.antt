use Rattle.std.proofs.Common.{◌≡◌, ◌++◌, map, drop}
use Rattle.acta_words.specs.Text.{text_of}
use Rattle.acta_tool.specs.Driving.{front_line}
use Rattle.acta_tool.proofs.rendering.render_fronts.Given as goal

abbrev pub invariant-loop-front : goal.invariant-loop-front
invariant-loop-front g l =
    l.text.items ++ text_of (map front_line (drop l.front-index l.fronts)) ≡ l.initial.text.items ++ text_of (map front_line l.fronts)
