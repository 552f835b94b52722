use Rattle.std.proofs.Common.{codes, [], ◌∷◌, ◌++◌, map, ap, ◌∙◌}
use Rattle.acta_lang.specs.Canonical.{edge_words}
use Rattle.acta_lang.specs.inside.Written.{rest_lines, start_lines, written}
use Rattle.acta_lang.proofs.Writing.{lines_more}
use Rattle.acta_lang.proofs.class_lines.push_class.Goals as goal

pub returns : goal.returns
returns g c =
    let old = c.args.text.now.items in
    let class = c.args.class.now in
    let start = start_lines class in
    let rest = rest_lines class in
    let spawns = map (edge_words (codes "spawn")) class.spawn_edges in
    let splits = map (edge_words (codes "split")) class.split_edges in
    lines_more old _ _ (start ++ rest ++ spawns ++ splits) ((codes "end" ∷ []) ∷ [])
    (lines_more old _ _ (start ++ rest ++ spawns) splits
    (lines_more old _ _ (start ++ rest) spawns
    (lines_more old _ _ start rest c.in_ok-push_start.ensures c.in_ok-push_rest.ensures)
    (c.in_ok-push_edges.ensures ∙ (λ i. c.push_rest.new.text.items ++ written (map (edge_words (c.as_bytes.ensures.value i)) (c.as_slice.ensures.items i)))))
    (c.in_ok-push_edges-2.ensures ∙ (λ i. c.push_edges.new.text.items ++ written (map (edge_words (c.as_bytes-2.ensures.value i)) (c.as_slice-2.ensures.items i)))))
    (c.in_ok-extend_from_slice.ensures.items ∙ ap (λ w. c.push_edges-2.new.text.items ++ w) c.as_slice-3.ensures)
