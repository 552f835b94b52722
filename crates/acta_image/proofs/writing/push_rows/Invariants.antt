use Rattle.std.proofs.Common.{◌≡◌, ◌++◌, drop}
use Rattle.std.specs.List.{flat_map}
use Rattle.acta_image.specs.Spelling.{row_bytes}
use Rattle.acta_image.proofs.writing.push_rows.Given as goal

-- with the rest, it is all
abbrev pub invariant-loop-edge : goal.invariant-loop-edge
invariant-loop-edge g l =
    l.image.items ++ flat_map row_bytes (drop l.edge-index l.edges) ≡ l.initial.image.items ++ flat_map row_bytes l.edges
