use Rattle.std.proofs.Common.{◌≡◌, map, take}
use Rattle.acta_order.specs.Orders.{numbers_of}
use Rattle.acta_order.specs.Search.{at}
use Rattle.acta_order.proofs.search.listed.Given as goal

-- those so far
abbrev pub invariant-loop-j : goal.invariant-loop-j
invariant-loop-j g l = numbers_of l.order.items ≡ map (at l.ts) (take l.j-index l.taken)
