use Rattle.std.proofs.Common.{◌≡◌, ◌<◌, ◌-◌, length, sym, ap, ◌∙◌, eq-eqb, arith}
use Rattle.acta_sets.specs.Operations.{is_among}
use Rattle.acta_table.specs.Ancestors.{ancestors_from}
use Rattle.acta_machine.proofs.FamilyTies.{kept-many}
use Rattle.acta_hope.proofs.Growth.{summary_in}
use Rattle.acta_hope.proofs.Releasing.{line-here, line-on, not-eqb}
use Rattle.acta_hope.proofs.releases.is_ancestor.Goals as goal

pub loop-init : goal.loop-init
loop-init g c =
    let machine = c.args.machine.now in
    let all : length machine.kept - 0 ≡ length machine.kept = omega arith in
    let fuel = all ∙ sym (kept-many machine.model machine.kept) in
    λ k. is_among (ancestors_from (fuel k) (summary_in machine).parent (c.parent-next.ensures.parent k)) c.args.u

pub returns-then-parent-u : goal.returns-then-parent-u
returns-then-parent-u g c =
    let machine = c.args.machine.now in
    let low = c.loop-test.true in
    let many = ap length c.history-end.ensures.history in
    let some : 0 < length machine.kept - c.loop.counter = omega (arith, low, many) in
    sym (sym c.loop.invariant ∙ line-here (length machine.kept - c.loop.counter) (summary_in machine).parent c.loop.next c.in-Some.parent c.args.u some c.in-Some.is (eq-eqb c.in-Some.parent.0 c.args.u.0 c.if-parent-u.true))

pub loop-preserved : goal.loop-preserved
loop-preserved g c =
    let machine = c.args.machine.now in
    let low = c.loop-test.true in
    let many = ap length c.history-end.ensures.history in
    let within : c.loop.counter < length machine.kept = omega (arith, low, many) in
    line-on (length machine.kept) c.loop.counter (summary_in machine).parent c.loop.next c.parent-next-in-loop.result c.in-Some.parent c.args.u within c.in-Some.is c.parent-next-in-loop.ensures.parent (not-eqb c.in-Some.parent.0 c.args.u.0 c.if-parent-u.false)
    ∙ c.loop.invariant
