use Rattle.std.proofs.Common.{◌≡◌, ◌++◌, drop}
use Rattle.acta_machine.specs.Table.{after_all}
use Rattle.acta_words.specs.Text.{text_of}
use Rattle.acta_tool.specs.Output.{trace_lines}
use Rattle.acta_tool.proofs.tracing.render_traced.Given as goal

-- the text so far, before the lines of the events that are left, is all
abbrev pub invariant-loop-event : goal.invariant-loop-event
invariant-loop-event g l =
    record {
      count : l.k ≡ l.event-index;
      model : l.machine.model ≡ l.initial.machine.model;
      reported : l.text.items ++ text_of (trace_lines l.machine (drop l.k l.lines) (drop l.event-index l.events)) ≡ l.initial.text.items ++ text_of (trace_lines l.initial.machine l.lines l.events);
      state : after_all l.machine (drop l.event-index l.events) ≡ after_all l.initial.machine l.events;
    }
