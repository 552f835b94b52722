use Rattle.std.proofs.Common.{◌≡◌, ◌++◌, map, drop}
use Rattle.acta_words.specs.Text.{text_of}
use Rattle.acta_trace.specs.States.{permit_line}
use Rattle.acta_trace.proofs.state.push_permits.Given as goal

abbrev pub invariant-loop-permit : goal.invariant-loop-permit
invariant-loop-permit g l =
    l.text.items ++ text_of (map (permit_line l.model) (drop l.permit-index l.permits)) ≡ l.initial.text.items ++ text_of (map (permit_line l.model) l.permits)
