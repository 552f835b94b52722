use Rattle.std.proofs.Common.{subst}
use Rattle.std.specs.Prelude.{Option, List, IfSome}
use Rattle.acta_table.specs.declared.event.TxnId.{TxnId}
use Rattle.acta_deps.specs.Waiting.{IsChain, IsClosed}
use Rattle.acta_machine.specs.Table.{edges_in, status_in}
use Rattle.acta_hope.proofs.Waits.{none-ends}
use Rattle.acta_hope.proofs.waiting.endless_wait.Goals as goal

pub returns-in-Some-clause-endless : goal.returns-in-Some-clause-endless
returns-in-Some-clause-endless g c =
    let machine = c.args.machine.now in
    none-ends c.in-Some.chain machine
    (subst (λ (found : Option (List TxnId)). IfSome found (IsChain (status_in machine) (edges_in machine))) c.in-Some.is c.in_ok-chain.ensures.chain)
    (subst (λ (found : Option (List TxnId)). IfSome found IsClosed) c.in-Some.is c.in_ok-chain.ensures.closed)
