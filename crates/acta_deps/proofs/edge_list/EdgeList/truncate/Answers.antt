use Rattle.std.proofs.Common.{◌≡◌, ◌≤◌, ◌∙◌, ℕ, List, map, take, length, sym, ap, arith, length-take}
use Rattle.std.proofs.lemmas.List.{take-map}
use Rattle.acta_table.specs.declared.dep.Edge.{Edge}
use Rattle.acta_deps.proofs.edge_list.EdgeList.truncate.Goals as goal

pub invariant_of-self : goal.invariant_of-self
invariant_of-self g c =
    let es : List Edge = c.self.inside.edges.keys in
    let few : length es ≤ 16384 = c.self.invariant.few in
    let left : c.truncate.new.self.keys ≡ take c.args.count es = c.truncate.ensures.keys in
    record {
      by_j = c.truncate-2.ensures ∙ ap (λ (ts : List ℕ). take c.args.count ts) c.self.invariant.by_j ∙ take-map (λ (e : Edge). e.j.0) c.args.count es ∙ ap (λ (xs : List Edge). map (λ (e : Edge). e.j.0) xs) (sym left);
      by_i = c.truncate-3.ensures ∙ ap (λ (ts : List ℕ). take c.args.count ts) c.self.invariant.by_i ∙ take-map (λ (e : Edge). e.i.0) c.args.count es ∙ ap (λ (xs : List Edge). map (λ (e : Edge). e.i.0) xs) (sym left);
      few = rw (left, length-take) (omega arith);
    }
