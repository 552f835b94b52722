use Rattle.std.proofs.Common.{◌≡◌, ◌+◌, ◌<◌, ◌≤◌, List, length, take, get_or, sym, ap, ◌∙◌, subst, arith, ℕ}
use Rattle.std.specs.List.{All}
use Rattle.std.proofs.lemmas.List.Elements.{All-more}
use Rattle.acta_table.specs.declared.event.TxnId.{TxnId}
use Rattle.acta_table.specs.declared.dep.Dep.TheVariants.{Cd}
use Rattle.acta_table.specs.declared.dep.Edge.{Edge}
use Rattle.acta_table.specs.Edges.{formed}
use Rattle.acta_deps.proofs.NewEdges.{count-new, count-known, count-named}
use Rattle.acta_deps.proofs.deps.Deps.lacks.Goals as goal
use Rattle.acta_deps.proofs.deps.Deps.lacks.Goals.{then-not-has+then-not-is_named_before, else-not-has, else-not-has-via-then-not-has+else-not-is_named_before, else-not-has-via-else-not-has}
use Rattle.acta_deps.proofs.deps.Deps.lacks.Goals.{then-edge-highest, else-edge-highest}

-- what a read past the end would be
abbrev no_edge : Edge
no_edge = record { kind = Cd; j = record { 0 = 0 }; i = record { 0 = 0 } }

pub loop-k-preserved : goal.loop-k-preserved
loop-k-preserved g c =
    let edges : List Edge = c.args.self.now.edges in
    let more : List Edge = c.args.more.now in
    let k : ℕ = c.loop-k.k in
    let edge : Edge = get_or more k no_edge in
    let within : k < length more = c.loop-k-test.true in
    let counted : length (formed edges (take k more)) ≡ length edges + c.loop-k.count = c.loop-k.invariant.counted in
    record {
      counted = elim c.if-not-has.branch [
        | then-not-has+then-not-is_named_before w ↦ (
            let all = count-new edges more k no_edge within (sym c.has.ensures ∙ w.if-not-has.true) (sym w.is_named_before.ensures ∙ w.if-not-is_named_before.true) in
            omega (arith, w.count-is))
        | else-not-has w ↦ elim w.else-not-has.branch [
          | else-not-has-via-then-not-has+else-not-is_named_before u ↦ (
              let all = count-named edges more k no_edge within (sym c.has.ensures ∙ u.if-not-has.true) (sym u.is_named_before.ensures ∙ u.if-not-is_named_before.false) in
              omega (arith, w.count-is))
          | else-not-has-via-else-not-has u ↦ (
              let all = count-known edges more k no_edge within (sym c.has.ensures ∙ u.if-not-has.false) in
              omega (arith, w.count-is))
        ]
      ];
      few = elim c.if-not-has.branch [
        | then-not-has+then-not-is_named_before w ↦ omega (arith, w.count-is)
        | else-not-has w ↦ omega (arith, w.count-is)
      ];
      start = elim c.if-edge-highest.branch [
        | then-edge-highest w ↦ omega (arith, w.start-is)
        | else-edge-highest w ↦ omega (arith, w.start-is)
      ];
      lower = elim c.if-edge-highest.branch [
        | then-edge-highest w ↦ (
            let at : c.if-edge-highest.start ≡ k = w.start-is in
            subst (λ n. All (λ e. e.i.0 < c.if-edge-highest.highest.0) (take n more)) (sym at)
            (λ p d l. let le = c.loop-k.invariant.highest p d l in let now : c.if-edge-highest.highest.0 ≡ edge.i.0 = ap (λ (t : TxnId). t.0) w.highest-is in omega arith))
        | else-edge-highest w ↦ (
            subst (λ n. All (λ e. e.i.0 < c.if-edge-highest.highest.0) (take n more)) (sym w.start-is)
            (subst (λ (t : TxnId). All (λ e. e.i.0 < t.0) (take c.loop-k.start more)) (sym w.highest-is) c.loop-k.invariant.lower))
      ];
      highest = elim c.if-edge-highest.branch [
        | then-edge-highest w ↦ (
            let now : c.if-edge-highest.highest.0 ≡ edge.i.0 = ap (λ (t : TxnId). t.0) w.highest-is in
            All-more (λ (e : Edge). e.i.0 ≤ c.if-edge-highest.highest.0) more k no_edge within
            (λ p d l. let le = c.loop-k.invariant.highest p d l in omega arith)
            (omega arith))
        | else-edge-highest w ↦ (
            let now : c.if-edge-highest.highest.0 ≡ c.loop-k.highest.0 = ap (λ (t : TxnId). t.0) w.highest-is in
            All-more (λ (e : Edge). e.i.0 ≤ c.if-edge-highest.highest.0) more k no_edge within
            (λ p d l. let le = c.loop-k.invariant.highest p d l in omega arith)
            (omega arith))
      ];
    }
