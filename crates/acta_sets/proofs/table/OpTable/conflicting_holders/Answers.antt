use Rattle.std.proofs.Common.{◌≡◌, [], map, filter, fold, ap, sym, subst, rules, ◌∙◌}
use Rattle.std.specs.BTreeSet.{insert_key}
use Rattle.std.specs.Ordering.{nat_cmp}
use Rattle.acta_table.specs.Numbered.{ascending}
use Rattle.acta_sets.specs.Operations.{is_conflicting_holder, holders_against}
use Rattle.acta_sets.proofs.Among.{conflicting_holders-are}
use Rattle.acta_sets.proofs.table.OpTable.conflicting_holders.Goals as goal

pub returns : goal.returns
returns g c =
    let t = c.args.t.0 in
    let sp = c.args.exempts.now.keys in
    let ob = c.args.ob.0 in
    let op = c.args.op.now in
    let left : c.loop-number.number-iterator ≡ [] = search rules in
    let all : c.into_iter-number-iterator.result ≡ c.self.inside.holders.keys = c.into_iter-number-iterator.ensures.into_iter_gives ∙ c.iter-number-items.ensures.rest in
    sym (ap (λ ks. fold (insert_key nat_cmp) c.loop-number.numbers.keys (map (λ k. k) (filter (is_conflicting_holder t sp ob op c.args.self.now) ks))) left)
    ∙ c.loop-number.invariant
    ∙ ap (λ ks. ascending (map (λ k. k) (filter (is_conflicting_holder t sp ob op c.args.self.now) ks))) all
    ∙ subst (λ xs. ascending (map (λ k. k) (filter (is_conflicting_holder t sp ob op xs) c.self.inside.holders.keys)) ≡ holders_against t sp ob op xs) c.self.view_is
    (conflicting_holders-are t sp ob op c.self.inside.items.items c.self.inside.held.items c.self.inside.holders.keys c.self.invariant.held c.self.invariant.among)
