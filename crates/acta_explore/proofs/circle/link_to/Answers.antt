use Rattle.std.proofs.Common.{Bool, ℕ, drop, sym, ◌∙◌, ap}
use Rattle.std.specs.List.{list_any, zip}
use Rattle.acta_deps.specs.Statuses.{is_new}
use Rattle.acta_machine.specs.Table.{status_in}
use Rattle.acta_explore.specs.Deadlocks.{is_left}
use Rattle.acta_explore.specs.Programs.{lines_done}
use Rattle.acta_explore.proofs.circle.link_to.Goals as goal

pub returns : goal.returns
returns g c =
    let t = c.args.wait.txn.0 in
    let seat = c.args.next in
    let first = c.in_ok-first.first in
    record {
      line = c.args.wait.line;
      txn = c.args.wait.txn;
      waits = c.requires.wait;
      left =
          ap (λ (k : ℕ). list_any (is_left (is_new (status_in c.args.point.now.state t)) seat t) (zip (drop k c.args.plan.now) (drop k (lines_done c.args.plan.now c.args.point.now.steps)))) (sym c.in_ok-first.ensures)
          ∙ (sym ((λ i. list_any (is_left c.is_new-is_new.result seat t) (zip (drop first (c.lines.ensures i)) (drop first (c.requires.done i))))
          ∙ ap (λ (new : Bool). list_any (is_left new seat t) (zip (drop first c.args.plan.now) (drop first (c.requires.done 1)))) c.is_new-is_new.ensures)
          ∙ (sym c.has_left.ensures ∙ c.if-not-has_left.false));
    }
