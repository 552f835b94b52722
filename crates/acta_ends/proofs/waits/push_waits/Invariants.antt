use Rattle.std.proofs.Common.{◌≡◌, ◌++◌, map, drop}
use Rattle.acta_words.specs.Text.{text_of}
use Rattle.acta_explore.specs.inside.Shown.{shown_wait}
use Rattle.acta_ends.specs.EndLines.{wait_line}
use Rattle.acta_ends.proofs.waits.push_waits.Given as goal

-- what is written, with what is left, is what is wanted
abbrev pub invariant-loop-wait : goal.invariant-loop-wait
invariant-loop-wait g l =
    l.text.items ++ text_of (map (wait_line l.numbers) (map shown_wait (drop l.wait-index l.waits))) ≡ l.initial.text.items ++ text_of (map (wait_line l.numbers) (map shown_wait l.waits))
