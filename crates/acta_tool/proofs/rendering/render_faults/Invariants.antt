use Rattle.std.proofs.Common.{◌≡◌, ◌++◌, map, drop}
use Rattle.acta_axioms.specs.Axioms.{axiom_number}
use Rattle.acta_script.specs.Answers.{fault_line}
use Rattle.acta_words.specs.Text.{text_of}
use Rattle.acta_tool.proofs.rendering.render_faults.Given as goal

abbrev pub invariant-loop-fault : goal.invariant-loop-fault
invariant-loop-fault g l =
    l.text.items ++ text_of (map (λ f. fault_line (axiom_number f.broken) f.place f.by) (drop l.fault-index l.faults))
    ≡ l.initial.text.items ++ text_of (map (λ f. fault_line (axiom_number f.broken) f.place f.by) l.faults)
