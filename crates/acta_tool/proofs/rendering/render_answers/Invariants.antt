use Rattle.std.proofs.Common.{◌≡◌, ◌++◌, map, drop}
use Rattle.acta_script.specs.Answers.{answer_line}
use Rattle.acta_words.specs.Text.{text_of}
use Rattle.acta_tool.proofs.rendering.render_answers.Given as goal

-- the lines so far, with those left, are all lines
abbrev pub invariant-loop-answer : goal.invariant-loop-answer
invariant-loop-answer g l =
    l.text.items ++ text_of (map answer_line (drop l.answer-index l.answers)) ≡ l.initial.text.items ++ text_of (map answer_line l.answers)
