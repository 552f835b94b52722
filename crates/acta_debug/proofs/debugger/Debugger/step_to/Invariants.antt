use Rattle.std.specs.Prelude.{◌≡◌, ◌≤◌}
use Rattle.acta_debug.specs.Sessions.{moved_to}
use Rattle.acta_debug.proofs.debugger.Debugger.step_to.Given as goal

-- each turn is one step
abbrev pub invariant-loop : goal.invariant-loop
invariant-loop g l = record {
  moved : l.self ≡ moved_to l.initial.self l.counter;
  within : l.initial.self.at ≤ l.n → l.counter ≤ l.n;
}
