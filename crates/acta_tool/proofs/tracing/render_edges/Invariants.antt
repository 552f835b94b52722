use Rattle.std.proofs.Common.{◌≡◌, ℕ, ◌+◌, ◌∷◌, ◌++◌, List, drop, flat_map}
use Rattle.acta_tool.specs.Output.{edge_words}
use Rattle.acta_tool.proofs.tracing.render_edges.Given as goal

-- the text so far, before the words of the edges that are left, is all
abbrev pub invariant-loop-edge : goal.invariant-loop-edge
invariant-loop-edge g l =
    record {
      count : l.number ≡ l.before + l.edge-index;
      reported : l.text.items ++ flat_map (λ (word : List ℕ). 32 ∷ word) (edge_words (l.number + 1) (drop l.edge-index l.edges)) ≡ l.initial.text.items ++ flat_map (λ (word : List ℕ). 32 ∷ word) (edge_words (l.before + 1) l.edges);
    }
