use Rattle.std.proofs.Common.{Some, sym, ap, ◌∙◌}
use Rattle.acta_table.specs.Numbered.{item_at}
use Rattle.acta_deps.specs.Deps.{status_of}
use Rattle.acta_table.proofs.FirstNumbers.{some-is, none-some}
use Rattle.acta_deps.proofs.Blocks.{refusal-reported}
use Rattle.acta_deps.proofs.deps.Deps.block.Goals as goal

pub returns-in_err-clash-in-Clash-clause-refusal : goal.returns-in_err-clash-in-Clash-clause-refusal
returns-in_err-clash-in-Clash-clause-refusal g c =
    let reported = refusal-reported (status_of c.args.self.now) c.args.self.now.edges c.args.txn.0 c.args.status c.in_ok-refusal.refusal (sym c.in_ok-refusal.ensures) in
    let (n, by, clashes) = reported.0 c.in-Clash.is in
    absurd (none-some (c.in_err-clash-in-Clash.ensures.txn ∙ clashes))

pub returns-in_err-refusal-in_default : goal.returns-in_err-refusal-in_default
returns-in_err-refusal-in_default g c =
    let reported = refusal-reported (status_of c.args.self.now) c.args.self.now.edges c.args.txn.0 c.args.status c.in_ok-refusal.refusal (sym c.in_ok-refusal.ensures) in
    let (n, by, there) = reported.1 c.in_default.not-Clash in
    absurd (none-some (sym c.in_err-refusal-in_default.was ∙ by))

pub returns-in_err-blocking_edge-in_default : goal.returns-in_err-blocking_edge-in_default
returns-in_err-blocking_edge-in_default g c =
    let reported = refusal-reported (status_of c.args.self.now) c.args.self.now.edges c.args.txn.0 c.args.status c.in_ok-refusal.refusal (sym c.in_ok-refusal.ensures) in
    let (n, by, there) = reported.1 c.in_default.not-Clash in
    let same = some-is (sym c.in_ok-refusal-in_default.was ∙ by) in
    absurd (there (sym (c.in_err-blocking_edge-in_default.ensures.edge ∙ ap (item_at c.args.self.now.edges) same)))

pub returns-in_ok-clash-in-Clash-clause-refusal : goal.returns-in_ok-clash-in-Clash-clause-refusal
returns-in_ok-clash-in-Clash-clause-refusal g c =
    let reported = refusal-reported (status_of c.args.self.now) c.args.self.now.edges c.args.txn.0 c.args.status c.in_ok-refusal.refusal (sym c.in_ok-refusal.ensures) in
    let (n, by, clashes) = reported.0 c.in-Clash.is in
    (λ i. Some (record { rule = sym c.in-Clash.is i; by = (c.in_ok-clash-in-Clash.ensures.txn ∙ clashes ∙ sym by) i })) ∙ c.in_ok-refusal.ensures
