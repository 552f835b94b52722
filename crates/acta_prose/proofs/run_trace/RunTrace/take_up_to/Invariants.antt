use Rattle.std.proofs.Common.{◌≡◌, drop, length, map}
use Rattle.std.specs.Vec.Iter.{into_iter_items, into_iter_len}
use Rattle.acta_io.specs.declared.input.NonBlankLine.{NonBlankLine}
use Rattle.acta_prose.specs.Runs.{noted_up_to}
use Rattle.acta_prose.proofs.run_trace.RunTrace.take_up_to.Given as goal

-- the run with the rest of the events, each with its line, is the run with all
abbrev pub invariant-loop-event : goal.invariant-loop-event
invariant-loop-event g l = record {
  run :
      noted_up_to l.last l.self (drop l.next (map (λ (line : NonBlankLine). line.line) l.lines)) (into_iter_items l.event-iterator)
      ≡ noted_up_to l.last l.fn.self (map (λ (line : NonBlankLine). line.line) l.lines) l.fn.events.items;
  long : into_iter_len l.event-iterator ≡ length (into_iter_items l.event-iterator);
}
