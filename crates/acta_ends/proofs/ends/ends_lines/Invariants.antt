use Rattle.std.proofs.Common.{◌≡◌, ◌++◌, ◌≤◌, drop, filter, length, take, ◌+◌}
use Rattle.acta_words.specs.Text.{text_of}
use Rattle.acta_ends.specs.EndLines.{is_kept, kept_lines, lines_from}
use Rattle.acta_ends.proofs.ends.ends_lines.Given as goal

-- what is written, with what is left, is what is wanted; so many of the ends so far were written
abbrev pub invariant-loop-place : goal.invariant-loop-place
invariant-loop-place g l = record {
  written : l.text.items ++ text_of (lines_from (kept_lines l.model l.lines l.numbers l.condition) (l.place + 1) (drop l.place l.explored.ends)) ≡ text_of (lines_from (kept_lines l.model l.lines l.numbers l.condition) 1 l.explored.ends);
  counted : l.count ≡ length (filter (is_kept l.lines l.condition) (take l.place l.explored.ends));
  few : l.count ≤ l.place;
}
