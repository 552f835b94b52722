use Rattle.std.proofs.Common.{◌≡◌, ◌-◌, take, length, List, ap, ◌∙◌, arith}
use Rattle.acta_table.specs.declared.dep.Edge.{Edge}
use Rattle.acta_machine.specs.Summary.{Summary, linked}
use Rattle.acta_machine.specs.inside.Abstraction.{abstraction}
use Rattle.acta_machine.proofs.machine_state.MachineState.admit.Goals as goal

-- the remaining edges are those that were in force before
pub returns-in-Err-clause-err : goal.returns-in-Err-clause-err
unfolding linked
returns-in-Err-clause-err g c =
    let before : Summary = abstraction c.args.self.now in
    let later : Summary = abstraction c.link.new.self in
    let count = c.in_ok-formed.ensures.count in
    let left : length later.edges - c.in_ok-formed.formed ≡ length before.edges = omega (arith, count) in
    c.unlink.ensures.shows
    ∙ ap (λ (s : Summary). record s { edges = take (length s.edges - c.in_ok-formed.formed) s.edges }) c.in-Err.ensures.err
    ∙ ap (λ (n : _). record later { edges = take n later.edges }) left
    ∙ ap (λ (es : List Edge). record later { edges = es }) c.in_ok-formed.ensures.kept
    ∙ ap (λ (s : Summary). record s { edges = before.edges }) c.in_ok-formed.ensures.shows
