use Rattle.std.proofs.Common.{IfSome, sym, subst}
use Rattle.acta_deps.specs.Blocks.{IsBlock}
use Rattle.acta_machine.specs.Reasons.{statuses_after}
use Rattle.acta_machine.specs.inside.Abstraction.{abstraction}
use Rattle.acta_machine.proofs.machine_state.MachineState.block.Goals as goal

pub returns-in-Begin-clause-so : goal.returns-in-Begin-clause-so
returns-in-Begin-clause-so g c =
    let status = (abstraction c.args.self.now).status in
    subst (λ e. IfSome c.block.result (IsBlock status (statuses_after status e) (abstraction c.args.self.now).edges)) (sym c.in-Begin.is) c.block.ensures.so

pub returns-in-Spawn-clause-so : goal.returns-in-Spawn-clause-so
returns-in-Spawn-clause-so g c =
    let status = (abstraction c.args.self.now).status in
    subst (λ e. IfSome c.block-in-Spawn.result (IsBlock status (statuses_after status e) (abstraction c.args.self.now).edges)) (sym c.in-Spawn.is) c.block-in-Spawn.ensures.so

pub returns-in-Split-clause-so : goal.returns-in-Split-clause-so
returns-in-Split-clause-so g c =
    let status = (abstraction c.args.self.now).status in
    subst (λ e. IfSome c.block-in-Split.result (IsBlock status (statuses_after status e) (abstraction c.args.self.now).edges)) (sym c.in-Split.is) c.block-in-Split.ensures.so

pub returns-in-Join-clause-so : goal.returns-in-Join-clause-so
returns-in-Join-clause-so g c =
    let status = (abstraction c.args.self.now).status in
    subst (λ e. IfSome c.block-in-Join.result (IsBlock status (statuses_after status e) (abstraction c.args.self.now).edges)) (sym c.in-Join.is) c.block-in-Join.ensures.so

pub returns-in-Commit-clause-so : goal.returns-in-Commit-clause-so
returns-in-Commit-clause-so g c =
    let status = (abstraction c.args.self.now).status in
    subst (λ e. IfSome c.block-in-Commit.result (IsBlock status (statuses_after status e) (abstraction c.args.self.now).edges)) (sym c.in-Commit.is) c.block-in-Commit.ensures.so

pub returns-in-Abort-clause-so : goal.returns-in-Abort-clause-so
returns-in-Abort-clause-so g c =
    let status = (abstraction c.args.self.now).status in
    subst (λ e. IfSome c.block-in-Abort.result (IsBlock status (statuses_after status e) (abstraction c.args.self.now).edges)) (sym c.in-Abort.is) c.block-in-Abort.ensures.so
