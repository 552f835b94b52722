use Rattle.std.specs.Prelude.{IfOk}
use Rattle.std.proofs.Common.{◌≡◌, ◌==◌, ℕ, List, length, sym, ap, subst, ◌∙◌}
use Rattle.acta_table.specs.declared.event.OpNo.{OpNo}
use Rattle.acta_sets.proofs.Unnamed.{named_of-none, named_of-all}
use Rattle.acta_sets.proofs.held.named_in.Goals as goal

pub returns-then-is_empty : goal.returns-then-is_empty
returns-then-is_empty g c =
    c.new.ensures.items
    ∙ sym (named_of-none c.args.ops.now c.args.list.now (c.if-is_empty.ensures ∙ ap (λ (ns : List OpNo). length ns == 0) c.as_slice.ensures.items))

pub returns-then-are_named : goal.returns-then-are_named
returns-then-are_named g c =
    subst (λ (ns : List ℕ). IfOk c.from_slice.result (λ named. named.items ≡ ns)) (sym (named_of-all c.args.ops.now c.args.list.now (c.are_named.ensures.all c.if-are_named.true))) c.from_slice.ensures.items
