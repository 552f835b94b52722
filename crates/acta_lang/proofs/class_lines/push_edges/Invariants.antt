use Rattle.std.proofs.Common.{◌≡◌, ◌++◌, drop, map}
use Rattle.acta_lang.specs.Canonical.{edge_words}
use Rattle.acta_lang.specs.inside.Written.{written}
use Rattle.acta_lang.proofs.class_lines.push_edges.Given as goal

-- with the rest, it is all
abbrev pub invariant-loop-edge : goal.invariant-loop-edge
invariant-loop-edge g l =
    l.text.items ++ written (map (edge_words l.at) (drop l.edge-index l.edges)) ≡ l.initial.text.items ++ written (map (edge_words l.at) l.edges)
