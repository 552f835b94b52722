use Rattle.std.proofs.Common.{◌+◌, ◌++◌, ◌∙◌, ap, length, map, rules, sym}
use Rattle.acta_words.specs.inside.LinesToCome.{lines_to_come}
use Rattle.acta_io.specs.Input.{non_blank_from, numbered}
use Rattle.acta_io.proofs.Lines.{begins}
use Rattle.acta_io.proofs.input.read_left.Goals as goal

pub loop-bytes-init : goal.loop-bytes-init
loop-bytes-init g c = record {
  says = begins (g.L.LineReader.parsed c.args.reader.now) (c.args.taken + 1) c.new-parsed.result.items (lines_to_come c.args.left) c.new-parsed.ensures.items;
  as_many = ap length c.new-lines.ensures.items ∙ sym (ap length c.new-parsed.ensures.items);
  lines = ap (λ lines. map numbered lines ++ non_blank_from (c.args.taken + 1) (lines_to_come c.args.left)) c.new-lines.ensures.items;
  counts = search rules;
}
