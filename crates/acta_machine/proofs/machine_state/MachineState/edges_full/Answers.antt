use Rattle.std.proofs.Common.{◌≡◌, ◌≤◌, List, length, sym, ap, ◌∙◌, arith}
use Rattle.std.specs.Prelude.{nat_lt}
use Rattle.std.proofs.lemmas.Bool.{le-ltb}
use Rattle.acta_table.specs.declared.answer.Rule.TheVariants.{EdgesFull}
use Rattle.acta_table.specs.declared.dep.Edge.{Edge}
use Rattle.acta_table.specs.declared.limits.TheConstants.{MOST_EDGES}
use Rattle.acta_table.specs.Edges.{formed}
use Rattle.acta_table.specs.Refusals.{broken_if}
use Rattle.acta_deps.proofs.FormedEdges.{few_formed}
use Rattle.acta_machine.specs.Rules.{edges_full}
use Rattle.acta_machine.proofs.machine_state.MachineState.edges_full.Goals as goal
use Rattle.acta_machine.proofs.machine_state.MachineState.edges_full.Goals.{else-due-room-via-then-due-room+else-lacks-room, else-due-room-via-else-due-room}

pub returns-else-due-room : goal.returns-else-due-room
unfolding edges_full
returns-else-due-room g c =
    let edges : List Edge = c.args.self.now.deps.edges in
    let due : List Edge = c.args.due.now in
    let now : length c.edges.result.now ≡ length edges = ap (λ (es : List Edge). length es) c.edges.ensures.edges in
    let room : length edges ≤ MOST_EDGES = c.edges.ensures.few in
    let few : length (formed edges due) ≤ MOST_EDGES =
    elim c.else-due-room.branch [
      | else-due-room-via-then-due-room+else-lacks-room w ↦ omega (arith, w.lacks.ensures, w.if-lacks-room.false, now, room)
      | else-due-room-via-else-due-room w ↦ omega (arith, few_formed edges due, w.if-due-room.false, now, room)
    ] in
    record {
      refusal =
          sym
          (ap (λ (es : List Edge). broken_if (nat_lt MOST_EDGES (length (formed edges es))) EdgesFull) (sym c.requires)
          ∙ ap (λ b. broken_if b EdgesFull) (le-ltb MOST_EDGES (length (formed edges due)) few));
      so = tt;
    }
