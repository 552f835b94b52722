use Rattle.std.proofs.Common.{◌+◌, arith, sym}
use Rattle.std.proofs.lemmas.Bool.{both_ways, true≢false}
use Rattle.acta_locked.proofs.Settling.{part-at, parts-lengths}
use Rattle.acta_locked.proofs.run.are_settled.Goals as goal

pub returns-then-reports-scripts : goal.returns-then-reports-scripts
returns-then-reports-scripts g c =
    (λ no. absurd (true≢false (sym no)), λ parts. absurd (c.if-reports-scripts.true (parts-lengths c.args.book.now 1 c.args.scripts.now c.args.reports.now parts)))

pub returns-then-not-is_settled : goal.returns-then-not-is_settled
returns-then-not-is_settled g c = (
  λ no. absurd (true≢false (sym no)),
  λ parts. absurd (both_ways _ c.if-not-is_settled.true (c.is_settled.ensures.1
      (part-at c.args.book.now 1 c.args.scripts.now c.args.reports.now c.loop-k.k (c.loop-k.k + 1) c.index-scripts-k.result c.index-reports-k.result parts c.loop-k-test.true (omega arith) c.index-scripts-k.is c.index-reports-k.is))),
)
