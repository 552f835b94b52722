use Rattle.std.proofs.Common.{◌≡◌, ◌<◌, ◌≤◌, ◌-◌, length, take, get_or}
use Rattle.std.specs.Option.{option_or}
use Rattle.acta_table.specs.Numbered.{first_number}
use Rattle.acta_deps.specs.Deps.{status_of}
use Rattle.acta_deps.specs.inside.BlockKinds.{blocks}
use Rattle.acta_deps.specs.declared.block_kind.BlockKind.TheVariants.{CommittedFirst, BeganFirst, CannotPayCommit}
use Rattle.acta_deps.proofs.deps.Deps.later.Given as goal

-- the first edge up to here, or else the one found later, is the first of all
abbrev pub invariant-loop-place : goal.invariant-loop-place
invariant-loop-place g l =
    record {
      within : l.place ≤ length l.edges;
      on : 0 < l.place → get_or l.parties (l.place - 1) 0 ≡ l.t.0;
      order : option_or (first_number (blocks CommittedFirst (status_of l.self) l.t.0) (take l.place l.edges)) l.order ≡ first_number (blocks CommittedFirst (status_of l.self) l.t.0) l.edges;
      begun : option_or (first_number (blocks BeganFirst (status_of l.self) l.t.0) (take l.place l.edges)) l.begun ≡ first_number (blocks BeganFirst (status_of l.self) l.t.0) l.edges;
      unpayable : option_or (first_number (blocks CannotPayCommit (status_of l.self) l.t.0) (take l.place l.edges)) l.unpayable ≡ first_number (blocks CannotPayCommit (status_of l.self) l.t.0) l.edges;
    }

abbrev pub decreases-loop-place : goal.decreases-loop-place
decreases-loop-place g l = l.place
