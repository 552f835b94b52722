use Rattle.std.proofs.Common.{◌-◌, List, length, drop, sym, ap, ◌∙◌, arith, length-drop}
use Rattle.std.proofs.lemmas.List.{take_all}
use Rattle.acta_table.specs.declared.dep.Edge.{Edge}
use Rattle.acta_table.specs.Edges.{is_among}
use Rattle.acta_deps.proofs.NewEdges.{none_named, among-drop}
use Rattle.acta_deps.proofs.lacking.is_named_before.Goals as goal

pub returns-then-edge-highest : goal.returns-then-edge-highest
returns-then-edge-highest c =
    sym (none_named c.args.before.now c.args.edge.now
    (λ k d l. let le = c.requires.highest k d l in omega arith))

pub returns-then-edge-highest-2 : goal.returns-then-edge-highest-2
returns-then-edge-highest-2 c =
    c.is_among.ensures
    ∙ ap (λ (es : List Edge). is_among es c.args.edge.now) (take_all (length c.args.before.now - c.args.start) (drop c.args.start c.args.before.now) (omega (arith, length-drop c.args.start c.args.before.now)))
    ∙ sym (among-drop c.args.before.now c.args.start c.args.edge.now
    (λ k d l. let lower = c.requires.lower k d l in omega arith))
