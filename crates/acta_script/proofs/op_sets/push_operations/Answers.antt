use Rattle.std.proofs.Common.{◌++◌, ◌∷◌, List, ℕ, decimal, get_or, length, take, drop, ◌-◌, sym, ap, ◌∙◌}
use Rattle.std.proofs.lemmas.List.{append_assoc, take_all}
use Rattle.acta_table.specs.declared.event.OpNo.{OpNo}
use Rattle.acta_script.specs.Writing.{operations_word}
use Rattle.acta_script.proofs.Joined.{behind_commas, word-parts}
use Rattle.acta_script.proofs.op_sets.push_operations.Goals as goal

pub returns : goal.returns
returns g c =
    let ops = c.as_slice.result.now in
    let others = take (length ops - 1) (drop 1 ops) in
    let line = c.args.line.now.items in
    c.loop-op.invariant
    ∙ ap (λ (os : List OpNo). c.push_natural.new.line.items ++ behind_commas os) (take_all c.loop-op.op-index others c.loop-op-test.false)
    ∙ ap (λ (start : List ℕ). start ++ behind_commas others) (c.in_ok-push_natural.ensures ∙ ap (λ (n : ℕ). line ++ 32 ∷ decimal n) c.from.ensures)
    ∙ append_assoc line (32 ∷ decimal (get_or ops 0 record { 0 = 0 }).0) (behind_commas others)
    ∙ ap (λ (word : List ℕ). line ++ 32 ∷ word) (sym (word-parts ops c.in-len1-up.len_at_least) ∙ ap operations_word c.as_slice.ensures.items)
