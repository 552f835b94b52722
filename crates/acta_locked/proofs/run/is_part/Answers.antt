use Rattle.std.proofs.Common.{rules, arith, ◌≡◌, ◌≤◌, ◌<◌, length, ap, ◌∙◌, subst, sym, take, get_or}
use Rattle.std.proofs.lemmas.Bool.{both_ways, true≢false}
use Rattle.std.proofs.lemmas.List.{get_or_default}
use Rattle.acta_locked.proofs.Settling.{part-mine, part-next, part-other}
use Rattle.acta_locked.proofs.run.is_part.Goals.{then-entry-seat+else-next-report+else-not-is_same, else-entry-seat}
use Rattle.acta_locked.proofs.run.is_part.Goals.{then-next-report-via-then-next-report, then-next-report-via-else-next-report+then-not-is_same}
use Rattle.acta_locked.proofs.run.is_part.Goals as goal

pub loop-entry-preserved : goal.loop-entry-preserved
loop-entry-preserved g c =
    let es = c.args.entries.now in
    let report = c.args.report.now in
    let i = c.loop-entry.entry-index in
    let next = c.loop-entry.next in
    let e = c.entry-item.result in
    elim c.if-entry-seat.branch [
      | then-entry-seat+else-next-report+else-not-is_same w ↦ (
          let room : next < length report = search rules in
          let same : e ≡ w.index-report-next.result = w.is_same.ensures.0 w.if-not-is_same.false in
          record {
            part = part-mine c.args.seat es report i next e w.index-report-next.result c.loop-entry-test.true c.entry-item.is w.if-entry-seat.true c.loop-entry.invariant.part room w.index-report-next.is same
                ∙ ap (λ n. take n report) (sym w.next-is);
            within = subst (λ n. n ≤ length report) (sym w.next-is) (omega (arith, room));
          })
      | else-entry-seat w ↦ record {
        part = part-other c.args.seat es report i next e c.loop-entry-test.true c.entry-item.is w.if-entry-seat.false c.loop-entry.invariant.part
            ∙ ap (λ n. take n report) (sym w.next-is);
        within = subst (λ n. n ≤ length report) (sym w.next-is) c.loop-entry.invariant.within;
      }
    ]

pub returns-then-next-report : goal.returns-then-next-report
returns-then-next-report g c =
    let es = c.args.entries.now in
    let report = c.args.report.now in
    let next = c.loop-entry.next in
    let e = c.entry-item.result in (
      λ no. absurd (true≢false (sym no)),
      λ all. absurd (
          let there : (next < length report) × (e ≡ get_or report next e) =
          part-next c.args.seat es report c.loop-entry.entry-index next e c.loop-entry-test.true c.entry-item.is c.if-entry-seat.true c.loop-entry.invariant.part c.loop-entry.invariant.within all in
          elim c.then-next-report.branch [
            | then-next-report-via-then-next-report w ↦ omega (arith, there.0, w.if-next-report.true)
            | then-next-report-via-else-next-report+then-not-is_same w ↦
                both_ways _ w.if-not-is_same.true (w.is_same.ensures.1 (there.1 ∙ get_or_default report next e w.index-report-next.result there.0 ∙ sym w.index-report-next.is))
          ]),
    )
