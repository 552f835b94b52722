use Rattle.std.specs.Prelude.{◌≡◌, take}
use Rattle.acta_order.specs.Orders.{numbers_of}
use Rattle.acta_serialize.specs.Answers.{order_line}
use Rattle.acta_serialize.proofs.answers.order_line.Given as goal

-- the transactions so far
abbrev pub invariant-loop-t : goal.invariant-loop-t
invariant-loop-t g l = l.line.items ≡ order_line (numbers_of (take l.t-index l.order))
