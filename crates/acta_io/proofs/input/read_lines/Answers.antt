use Rattle.std.proofs.Common.{◌≡◌, ℕ, List, length, subst}
use Rattle.std.specs.Prelude.{IfOk, IfNone}
use Rattle.acta_table.specs.Numbered.{numbers_from}
use Rattle.acta_words.specs.inside.LinesToCome.{lines_to_come}
use Rattle.acta_io.specs.Input.{line_numbers}
use Rattle.acta_io.proofs.Lines.{has_word, numbered}
use Rattle.acta_io.proofs.input.read_lines.Goals as goal

pub returns-clause-numbered : goal.returns-clause-numbered
unfolding line_numbers
returns-clause-numbered g c =
    subst (λ (lines : List (List ℕ)). IfOk c.read_left.result (λ read. IfNone read.stop (length (numbers_from has_word 1 lines) ≡ length read.parsed.items)))
    c.of-lines.ensures.lines
    (numbered (g.L.LineReader.parsed c.args.reader.now) (lines_to_come c.of-lines.result) (λ read. read.parsed.items) (λ read. read.stop) c.read_left.result c.read_left.ensures.parsed)
