use Rattle.std.proofs.Common.{◌≡◌, ◌≤◌, vec_len, vec_capacity}
use Rattle.acta_locked.specs.Fronts.{AreFronts}
use Rattle.acta_locked.proofs.run.Run.judge.Given as goal

-- a front for each turn so far, with room for the others, and they are fronts of the last copy
abbrev pub invariant-loop-turn : goal.invariant-loop-turn
invariant-loop-turn g l = record {
  many : vec_len l.fronts ≡ l.turn;
  room : l.fn.self.turns ≤ vec_capacity l.fronts;
  are : AreFronts g.J.Job.model l.history.items l.fronts.items;
}
