use Rattle.std.proofs.Common.{◌≡◌, drop, fold, map}
use Rattle.std.specs.BTreeSet.{insert_key}
use Rattle.std.specs.Ordering.{nat_cmp}
use Rattle.acta_explore.specs.Outcomes.{seats_of}
use Rattle.acta_explore.proofs.plan.seat_set.Given as goal

-- adding the rest from here gives all
abbrev pub invariant-loop-line : goal.invariant-loop-line
invariant-loop-line g l = fold (insert_key nat_cmp) l.seats.keys (map (λ line. line.seat) (drop l.line-index l.lines)) ≡ seats_of l.lines
