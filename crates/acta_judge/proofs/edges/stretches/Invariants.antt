use Rattle.std.proofs.Common.{◌≡◌, ◌+◌, ◌++◌, length, flat_map}
use Rattle.std.specs.List.{enumerate_from}
use Rattle.acta_judge.proofs.edges.stretches.Given as goal

-- the stretches so far, with the edges that are left, are all, and each edge has its number
abbrev pub invariant-loop : goal.invariant-loop
invariant-loop g l =
    record {
      counted : l.first + length l.rest ≡ length l.edges + 1;
      whole : flat_map (λ s. s) l.all.items ++ enumerate_from l.first l.rest ≡ enumerate_from 1 l.edges;
    }
