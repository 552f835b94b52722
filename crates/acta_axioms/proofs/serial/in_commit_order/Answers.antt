use Rattle.std.proofs.Common.{Vec, [], ◌++◌, get_or, sym, ap, ◌∙◌, List, Some, None}
use Rattle.std.specs.List.{flat_map}
use Rattle.std.proofs.lemmas.List.{append-nil, take_all}
use Rattle.acta_axioms.specs.declared.serial.SerialItem.{SerialItem}
use Rattle.acta_table.specs.declared.event.Kept.{Kept}
use Rattle.acta_axioms.specs.Serial.{commit_order}
use Rattle.acta_axioms.proofs.Grouping.{groups-next}
use Rattle.acta_axioms.proofs.serial.in_commit_order.Goals.{in-Some+in_ok-extend_from_slice, in_default}
use Rattle.acta_axioms.proofs.serial.in_commit_order.Goals as goal

pub loop-k-preserved : goal.loop-k-preserved
loop-k-preserved g c =
    let next = groups-next (λ t. get_or c.args.groups.now t []) c.args.kept.now c.loop-k.k-index c.k-item.result in
    let items : Vec SerialItem g.row.A.Denot → List SerialItem = λ v. v.items in
    elim c.match-committed_by.branch [
      | in-Some+in_ok-extend_from_slice w ↦
          next (Some w.in-Some.t.0) c.loop-k.items.items c.match-committed_by.items.items c.loop-k-test.true c.k-item.is w.in-Some.ensures c.loop-k.invariant
          (ap items w.items-is ∙ w.in_ok-extend_from_slice.ensures.items ∙ ap (λ (xs : List SerialItem). c.loop-k.items.items ++ xs) (w.of.ensures ∙ ap (λ n. get_or c.args.groups.now n []) w.from.ensures ∙ sym (append-nil (get_or c.args.groups.now w.in-Some.t.0 []))))
      | in_default w ↦
          next None c.loop-k.items.items c.match-committed_by.items.items c.loop-k-test.true c.k-item.is w.in_default.ensures c.loop-k.invariant
          (ap items w.items-is ∙ sym (append-nil c.loop-k.items.items))
    ]

pub returns : goal.returns
returns g c = c.loop-k.invariant ∙ ap (λ (h : List (Kept g.row.A.Denot)). flat_map (λ t. get_or c.args.groups.now t []) (commit_order h)) (take_all c.loop-k.k-index c.args.kept.now c.loop-k-test.false)
