use Rattle.std.proofs.Common.{ℕ, ◌+◌, ◌<◌, ◌≤◌, get_or}
use Rattle.acta_deps.specs.Deps.{status_of}
use Rattle.acta_deps.specs.Waiting.{WaitsFor, nobody}
use Rattle.acta_deps.proofs.deps.Deps.is_chain.Given as goal

-- each before this one waits for the next
abbrev pub invariant-loop-k : goal.invariant-loop-k
invariant-loop-k g l =
    record {
      from : 1 ≤ l.k;
      so_far : (m : ℕ) → m + 1 < l.k → WaitsFor (status_of l.self) l.self.edges (get_or l.chain m nobody) (get_or l.chain (m + 1) nobody);
    }
