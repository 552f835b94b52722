use Rattle.std.proofs.Common.{◌≡◌, ◌++◌, ◌∙◌, [], ap, rules}
use Rattle.std.specs.Prelude.{codes}
use Rattle.acta_next.specs.Next.{admitted_item, list_line, may_line, onto_list, refused_item, sorted}
use Rattle.acta_next.proofs.Appending.{on-ok, two}
use Rattle.acta_next.proofs.next.push_sorted.Goals as goal

pub returns : goal.returns
returns g c =
    let m = c.args.machine.now in
    let may = onto_list (admitted_item m) [] c.args.tried.now in
    let not = onto_list (refused_item m) [] c.args.tried.now in
    let first : c.push_may.new.text.items ≡ c.args.text.now.items ++ may_line c.args.t may = search rules in
    on-ok c.push_list.result _ (c.push_list.new.text.items ≡ c.args.text.now.items ++ sorted m c.args.t c.args.tried.now)
    (λ last.
    two c.args.text.now.items (may_line c.args.t may) (list_line (codes "  refused: ") not) c.push_may.new.text.items c.push_list.new.text.items first
    (last ∙ ap (λ list. c.push_may.new.text.items ++ list_line (codes "  refused: ") list) (c.as_slice-3.ensures.value ∙ c.in_ok-sorted.ensures.not)))
    c.push_list.ensures
